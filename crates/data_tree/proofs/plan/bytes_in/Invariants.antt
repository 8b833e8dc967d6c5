use Rattle.std.proofs.Common.{◌≡◌, ◌+◌, drop}
use Rattle.data_tree.specs.Plan.{bytes_in, contents}
use Rattle.data_tree.proofs.plan.bytes_in.Given as goal

abbrev pub invariant-loop-block : goal.invariant-loop-block
invariant-loop-block l = l.total + bytes_in (contents (drop l.block-index l.blocks)) ≡ bytes_in (contents l.blocks)
