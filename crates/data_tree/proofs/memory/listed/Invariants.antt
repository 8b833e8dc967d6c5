use Rattle.std.proofs.Common.{◌≡◌, drop}
use Rattle.pst_base.specs.Ids.{key_of}
use Rattle.data_tree.specs.Listed.{block_at}
use Rattle.data_tree.proofs.memory.listed.Given as goal

abbrev pub invariant-loop-listed : goal.invariant-loop-listed
invariant-loop-listed l = block_at (key_of l.bid.bits) (drop l.listed-index l.blocks) ≡ block_at (key_of l.bid.bits) l.blocks
