-- How many slots of 64 bytes new blocks take.
use Rattle.std.specs.Prelude.{ℕ, ◌/◌, List, length}
use Rattle.pst_base.specs.declared.ids.Bid.{Bid}
use Rattle.block_frame.specs.Size.{disk_size_of}

-- the slots of a block with its frame
abbrev pub slots_of : Bid × List ℕ → ℕ
slots_of block = disk_size_of (length block.1) / 64
