use Rattle.std.proofs.Common.{◌≡◌, take}
use Rattle.pst_base.proofs.blocks.Blocks.copy.Given as goal

-- the blocks that were passed are copied
abbrev pub invariant-loop-block : goal.invariant-loop-block
invariant-loop-block l = l.copied.items ≡ take l.block-index l.block-items
