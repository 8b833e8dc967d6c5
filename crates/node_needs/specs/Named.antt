-- Ids of data blocks, with the data that they name.
use Rattle.std.specs.Prelude.{◌≡◌, ◌≤◌, ℕ, List, [], ◌∷◌, Option, Some, None}
use Rattle.pst_base.specs.declared.ids.Bid.{Bid}
use Rattle.pst_base.specs.Flat.{Flat}
use Rattle.pst_base.specs.Ids.{key_of}
use Rattle.data_tree.specs.Measure.{bytes_in}

-- each id names the bytes at its position
abbrev pub AllNamed : (ℕ → Option (List ℕ)) → List (Option Bid) → List (List ℕ) → Type 0
AllNamed find [] [] = Unit {0}
AllNamed find [] (b ∷ bs) = ⊥
AllNamed find (id ∷ ids) [] = ⊥
AllNamed find (None ∷ ids) (b ∷ bs) = ⊥
AllNamed find (Some bid ∷ ids) (b ∷ bs) = (find (key_of bid.bits) ≡ Some b) × AllNamed find ids bs

-- the ids of each subnode name its data, which isn't longer than the file
abbrev pub EachNamed : (ℕ → Option (List ℕ)) → ℕ → List (List (Option Bid)) → List Flat → Type 0
EachNamed find eof [] [] = Unit {0}
EachNamed find eof [] (f ∷ fs) = ⊥
EachNamed find eof (ids ∷ all) [] = ⊥
EachNamed find eof (ids ∷ all) (f ∷ fs) = AllNamed find ids f.blocks × (bytes_in f.blocks ≤ eof) × EachNamed find eof all fs
