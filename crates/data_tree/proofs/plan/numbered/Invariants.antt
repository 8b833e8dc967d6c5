use Rattle.std.proofs.Common.{◌≡◌, ◌+◌, ◌*◌, ◌++◌, drop}
use Rattle.data_tree.specs.Plan.{numbered}
use Rattle.data_tree.proofs.plan.numbered.Given as goal

abbrev pub invariant-loop-block : goal.invariant-loop-block
invariant-loop-block l = record {
  made : l.out.items ++ numbered 0 l.bits (drop l.block-index l.blocks) ≡ numbered 0 l.next l.blocks;
  at : l.bits ≡ l.next + 4 * l.block-index;
}
