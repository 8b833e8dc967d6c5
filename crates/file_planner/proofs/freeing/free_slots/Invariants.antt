use Rattle.std.proofs.Common.{◌≡◌, ◌-◌, ◌≤◌, max, true, length}
use Rattle.alloc_map.specs.Slots.{AreAll}
use Rattle.pst_commit.specs.Held.{is_held, opened_of}
use Rattle.file_planner.specs.Freeing.{BecomesEach}
use Rattle.file_planner.proofs.freeing.free_slots.Given as goal

abbrev pub invariant-parts : goal.invariant-parts
invariant-parts l = record {
  size : length l.all ≡ length l.initial.all;
  low : l.from ≤ l.slot;
  high : l.slot ≤ max l.from l.end;
  passed : AreAll l.initial.all l.from l.n true → BecomesEach l.initial.all l.all l.from (l.slot - l.from) (is_held (opened_of l.pins));
}

abbrev pub decreases-parts : goal.decreases-parts
decreases-parts l = l.end - l.slot
