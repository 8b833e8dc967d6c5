-- Pairs of a key and a heap id, as records.
use Rattle.std.specs.Prelude.{ℕ, ◌≢◌, ◌<◌, ◌^◌, List, [], ◌∷◌}
use Rattle.byteorder.specs.Endian.{little_bytes}
use Rattle.index_edit.specs.declared.pairs.Pair.{Pair}
use Rattle.index_edit.specs.declared.pairs.Pairs.{Pairs}
use Rattle.index_edit.specs.declared.pairs.Pairs.TheVariants.{Single, Double}

abbrev pub pair_of : Pair → ℕ × List ℕ
pair_of p = (p.key, little_bytes 4 p.child)

abbrev pub pairs_of : Pairs → List (ℕ × List ℕ)
pairs_of (Single p) = pair_of p ∷ []
pairs_of (Double p q) = pair_of p ∷ (pair_of q ∷ [])

-- a leaf alone has an id that may be a root's
abbrev pub MayBeRoot : Pairs → Type 0
MayBeRoot (Single p) = (p.child ≢ 0) × (p.child < 2 ^ 32)
MayBeRoot (Double p q) = Unit {0}
