use Rattle.std.proofs.Common.{◌≡◌, ◌<◌, ◌≤◌, ◌+◌, ◌||◌, ℕ, false, get_or}
use Rattle.alloc_map.specs.Slots.{is_used}
use Rattle.file_planner.proofs.freeing.mark_used.Given as goal

abbrev pub invariant-loop-k : goal.invariant-loop-k
invariant-loop-k l = record {
  passed : (j : ℕ) → j < l.k → get_or l.marks j false ≡ (get_or l.initial.marks j false || is_used l.slots (l.from + j));
  ahead : (j : ℕ) → l.k ≤ j → get_or l.marks j false ≡ get_or l.initial.marks j false;
}
