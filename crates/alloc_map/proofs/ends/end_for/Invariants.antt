use Rattle.std.proofs.Common.{◌≤◌, ◌<◌, ◌+◌, ℕ, get_or}
use Rattle.pst_base.specs.declared.places.Place.{Place}
use Rattle.alloc_map.specs.Ends.{region_end}
use Rattle.alloc_map.proofs.ends.end_for.Given as goal

-- the end reaches to those that were passed, and none that does is less
abbrev pub invariant-loop-place : goal.invariant-loop-place
invariant-loop-place l = record {
  low : 17408 ≤ l.end;
  longer : l.eof ≤ l.end;
  few : l.end ≤ region_end 8192;
  passed : (k : ℕ) (d : Place) → k < l.place-index → (get_or l.places k d).ib + (get_or l.places k d).len ≤ l.end;
  least : (m : ℕ) → 17408 ≤ m → l.eof ≤ m → ((k : ℕ) (d : Place) → k < l.place-index → (get_or l.places k d).ib + (get_or l.places k d).len ≤ m) → l.end ≤ m;
}
