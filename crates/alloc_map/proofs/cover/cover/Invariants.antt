use Rattle.std.proofs.Common.{◌-◌, true}
use Rattle.alloc_map.specs.Slots.{Becomes}
use Rattle.alloc_map.specs.Covered.{IsLeastOf, IsUsedIn}
use Rattle.alloc_map.proofs.cover.cover.Given as goal

-- the slots that were passed are covered
abbrev pub invariant-loop-slot : goal.invariant-loop-slot
invariant-loop-slot l = record {
  covered : Becomes l.initial.used l.used l.from (l.slot - l.from) true;
  first : IsLeastOf (IsUsedIn l.initial.used l.from (l.slot - l.from)) l.first;
}
