use Rattle.std.proofs.Common.{◌≡◌, ◌-◌, true, false, length, get_or}
use Rattle.alloc_map.specs.Slots.{AreAll}
use Rattle.file_planner.specs.Freeing.{BecomesEach}
use Rattle.file_planner.proofs.freeing.free_unmarked.Given as goal

abbrev pub invariant-loop-k : goal.invariant-loop-k
invariant-loop-k l = record {
  size : length l.all ≡ length l.initial.all;
  passed : AreAll l.initial.all l.from l.n true → BecomesEach l.initial.all l.all l.from l.k (λ s. get_or l.marks (s - l.from) false);
}
