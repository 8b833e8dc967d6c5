use Rattle.std.proofs.Common.{◌≡◌, map, take}
use Rattle.plan_pieces.specs.Blocks.{slots_of}
use Rattle.plan_pieces.proofs.blocks.slots_of_blocks.Given as goal

abbrev pub invariant-loop-block : goal.invariant-loop-block
invariant-loop-block l = l.sizes.items ≡ map slots_of (take l.block-index l.blocks)
