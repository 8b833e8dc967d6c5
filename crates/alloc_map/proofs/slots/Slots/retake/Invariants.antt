use Rattle.std.specs.Prelude.{◌≡◌, List, Bool, drop, length}
use Rattle.alloc_map.specs.Taken.{Taken}
use Rattle.alloc_map.proofs.slots.Slots.retake.Given as goal

abbrev pub invariant-loop-place : goal.invariant-loop-place
invariant-loop-place l = record {
  left : (after : List Bool) → Taken l.initial.self after l.places → Taken l.self after (drop l.place-index l.places);
  size : length l.self ≡ length l.initial.self;
}
