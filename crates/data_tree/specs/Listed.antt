-- Blocks in a list, each with its id.
use Rattle.std.specs.Prelude.{ℕ, ◌==◌, if◌then◌else◌, List, [], ◌∷◌, Option, Some, None}
use Rattle.pst_base.specs.declared.ids.Bid.{Bid}
use Rattle.pst_base.specs.Ids.{key_of}

-- the data of the first of the blocks that has a key
abbrev pub block_at : ℕ → List (Bid × List ℕ) → Option (List ℕ)
block_at key [] = None
block_at key (block ∷ blocks) = if key_of (block.0).bits == key then Some block.1 else block_at key blocks
