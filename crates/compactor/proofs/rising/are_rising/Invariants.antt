use Rattle.std.proofs.Common.{◌^◌, ◌≤◌, take}
use Rattle.compactor.proofs.RisingLaws.{Rises}
use Rattle.compactor.proofs.rising.are_rising.Given as goal

abbrev pub invariant-loop-entry : goal.invariant-loop-entry
invariant-loop-entry g l = record {
  rises : Rises g.E.Entry.key l.least (take l.entry-index l.entries);
  few : l.least ≤ 2 ^ 64;
}
