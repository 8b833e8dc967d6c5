use Rattle.std.specs.Prelude.{List, Bool, drop}
use Rattle.alloc_map.specs.Taken.{Taken}
use Rattle.alloc_map.proofs.slots.Slots.give_back_all.Given as goal

abbrev pub invariant-loop-place : goal.invariant-loop-place
invariant-loop-place l = record {
  left : (before : List Bool) → Taken before l.initial.self l.places → Taken before l.self (drop l.place-index l.places);
  some : (before : List Bool) × Taken before l.self (drop l.place-index l.places);
}
