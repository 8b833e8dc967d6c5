use Rattle.std.proofs.Common.{◌≡◌, ◌++◌, drop}
use Rattle.table_writer.specs.Woven.{all_woven}
use Rattle.table_writer.proofs.woven.Woven.finish.Given as goal

abbrev pub invariant-loop-sub : goal.invariant-loop-sub
invariant-loop-sub l = l.done.items ++ drop l.sub-index l.sub-items ≡ all_woven l.fn.self
