use Rattle.std.proofs.Common.{◌≡◌, ◌++◌, length}
use Rattle.table_writer.specs.Woven.{AreWoven, all_woven}
use Rattle.table_writer.proofs.woven.Woven.pass.Given as goal

abbrev pub invariant-passing : goal.invariant-passing
invariant-passing l = record {
  woven : AreWoven l.done.items l.rest l.next;
  same : l.done.items ++ l.rest ≡ all_woven l.fn.self;
}

abbrev pub decreases-passing : goal.decreases-passing
decreases-passing l = length l.rest
