use Rattle.std.specs.Prelude.{◌≡◌, List, Bool, drop, length}
use Rattle.alloc_map.specs.Taken.{Taken}
use Rattle.alloc_map.proofs.slots.Slots.release.Given as goal

abbrev pub invariant-loop-place : goal.invariant-loop-place
invariant-loop-place l = record {
  left : (after : List Bool) → Taken after l.initial.self l.places → Taken after l.self (drop l.place-index l.places);
  size : length l.self ≡ length l.initial.self;
}
