-- What is written into a copy.
use Rattle.std.specs.Prelude.{◌≡◌, ◌≤◌, ◌+◌, ℕ, List, [], ◌∷◌, ◌++◌, length, take, drop}
use Rattle.btree_pages.specs.declared.entry.BlockEntry.{BlockEntry}
use Rattle.lays_kept.specs.declared.Piece.{Piece}
use Rattle.lays_kept.specs.Kept.{HoldsEach}
use Rattle.plan_pieces.specs.node_layout.Sealed.{IsSealed}

-- no piece ends past n
abbrev pub EndBy : ℕ → List Piece → Type 0
EndBy n [] = Unit {0}
EndBy n (p ∷ ps) = (p.at + length p.bytes ≤ n) × EndBy n ps

-- the copy has these pieces besides, and ends where it did or where one of them does
pub record Adds (old new : List ℕ) (more : List Piece) : Type 0 where
  pub longer : length old ≤ length new
  pub no_longer : (n : ℕ) → length old ≤ n → EndBy n more → length new ≤ n
  pub holds : (ps : List Piece) → HoldsEach old ps → HoldsEach new (ps ++ more)

-- ---- blocks

-- a piece is a block of a file, sealed for another place
pub record IsCopied (file : List ℕ) (old new : BlockEntry) (piece : Piece) : Type 0 where
  pub content : List ℕ
  pub was : content ≡ take old.cb (drop (old.at).ib file)
  pub sealed : IsSealed ((old.at).bid, content) new piece

-- each piece is, one by one
abbrev pub AreCopied : List ℕ → List BlockEntry → List BlockEntry → List Piece → Type 0
AreCopied file [] news pieces = (news ≡ []) × (pieces ≡ [])
AreCopied file (old ∷ olds) [] pieces = ⊥
AreCopied file (old ∷ olds) (new ∷ news) [] = ⊥
AreCopied file (old ∷ olds) (new ∷ news) (p ∷ pieces) = IsCopied file old new p × AreCopied file olds news pieces

-- the copy has the blocks of these entries besides
pub record AddsBlocks (file : List ℕ) (olds news : List BlockEntry) (old new : List ℕ) : Type 0 where
  pub pieces : List Piece
  pub are : AreCopied file olds news pieces
  pub adds : Adds old new pieces
