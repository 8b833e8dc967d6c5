-- Blocks of a plan as they are written.
use Rattle.std.specs.Prelude.{◌≡◌, ◌≤◌, ℕ, List, [], ◌∷◌, length}
use Rattle.pst_base.specs.declared.ids.Bid.{Bid}
use Rattle.block_frame.specs.Block.{IsBlock}
use Rattle.btree_pages.specs.declared.entry.BlockEntry.{BlockEntry}
use Rattle.lays_kept.specs.declared.Piece.{Piece}

-- a piece is a block of a plan, sealed for the place that its entry names
pub record IsSealed (block : Bid × List ℕ) (entry : BlockEntry) (piece : Piece) : Type 0 where
  pub bid : (entry.at).bid ≡ block.0
  pub size : entry.cb ≡ length block.1
  pub short : entry.cb ≤ 8176
  pub place : piece.at ≡ (entry.at).ib
  pub sealed : IsBlock entry.at block.1 piece.bytes

-- each piece is the block with its entry
abbrev pub AreSealed : List (Bid × List ℕ) → List BlockEntry → List Piece → Type 0
AreSealed [] entries pieces = (entries ≡ []) × (pieces ≡ [])
AreSealed (b ∷ bs) [] pieces = ⊥
AreSealed (b ∷ bs) (e ∷ es) [] = ⊥
AreSealed (b ∷ bs) (e ∷ es) (p ∷ ps) = IsSealed b e p × AreSealed bs es ps
