-- Pieces whose places are covered once stand beside each other and beside all that stood.
use Rattle.std.proofs.Common.{◌≡◌, ◌∙◌, inl, inr, ℕ, List, [], ◌∷◌, ◌++◌, length, drop, map, arith}
use Rattle.pst_base.specs.declared.places.Place.{Place}
use Rattle.alloc_map.specs.Standing.{Covers, SomeCovers}
use Rattle.alloc_map.specs.Covered.{IsTwice, Once}
use Rattle.lays_kept.specs.declared.Piece.{Piece}
use Rattle.lays_kept.specs.Kept.{Each, IsClear, HoldsEach}
use Rattle.lays_kept.proofs.Beside.{IsWhole, apart_slots}
use Rattle.lays_kept.proofs.Renewed.{behind}
use Rattle.node_layout.specs.Pieces.{piece_place, AreApart, EachStands}

covers-first : (p : Place) (ps : List Place) (slot : ℕ) → Covers p slot → SomeCovers (p ∷ ps) slot
unfolding SomeCovers
covers-first p ps slot c = inl c

covers-later : (p : Place) (ps : List Place) (slot : ℕ) → SomeCovers ps slot → SomeCovers (p ∷ ps) slot
unfolding SomeCovers
covers-later p ps slot c = inr c

covers-back : (xs ys : List Place) (slot : ℕ) → SomeCovers ys slot → SomeCovers (xs ++ ys) slot
covers-back [] ys slot c = c
covers-back (x ∷ xs) ys slot c = covers-later x (xs ++ ys) slot (covers-back xs ys slot c)

-- what both parts cover is covered twice
twice-both : (xs ys : List Place) (slot : ℕ) → SomeCovers xs slot → SomeCovers ys slot → IsTwice (xs ++ ys) slot
unfolding SomeCovers IsTwice
twice-both [] ys slot a b = absurd a
twice-both (x ∷ xs) ys slot (inl a) b = inl (a, covers-back xs ys slot b)
twice-both (x ∷ xs) ys slot (inr a) b = inr (twice-both xs ys slot a b)

-- a place that shares no slot with pieces is clear of them
clear-of : (p : Place) (pieces : List Piece) → IsWhole p → Each IsWhole (map piece_place pieces) → ((slot : ℕ) → Covers p slot → SomeCovers (map piece_place pieces) slot → ⊥) → IsClear pieces p.ib p.len
clear-of p [] whole all free = tt
clear-of p (q ∷ qs) whole all free = (
  apart_slots p (piece_place q) whole all.0 (λ slot a b. free slot a (covers-first (piece_place q) (map piece_place qs) slot b)),
  clear-of p qs whole all.1 (λ slot a b. free slot a (covers-later (piece_place q) (map piece_place qs) slot b)),
)

once-rest : (p : Place) (ps : List Place) → Once (p ∷ ps) → Once ps
unfolding IsTwice
once-rest p ps once slot twice = once slot (inr twice)

once-first : (p : Place) (ps : List Place) → Once (p ∷ ps) → (slot : ℕ) → Covers p slot → SomeCovers ps slot → ⊥
unfolding IsTwice
once-first p ps once slot a b = once slot (inl (a, b))

front-covers : (xs ys : List Place) (slot : ℕ) → SomeCovers xs slot → SomeCovers (xs ++ ys) slot
unfolding SomeCovers
front-covers [] ys slot a = absurd a
front-covers (x ∷ xs) ys slot (inl a) = inl a
front-covers (x ∷ xs) ys slot (inr a) = inr (front-covers xs ys slot a)

-- pieces whose places are covered once are apart
pub pieces-apart : (pieces : List Piece) (ps : List Place) → Each IsWhole (map piece_place pieces) → Once (map piece_place pieces ++ ps) → AreApart pieces
pieces-apart [] ps all once = tt
pieces-apart (p ∷ pieces) ps all once = (
  clear-of (piece_place p) pieces all.0 all.1 (λ slot a b. once-first (piece_place p) (map piece_place pieces ++ ps) once slot a (front-covers (map piece_place pieces) ps slot b)),
  pieces-apart pieces ps all.1 (once-rest (piece_place p) (map piece_place pieces ++ ps) once),
)

-- and clear of the other places
pub pieces-beside : (pieces : List Piece) (ps : List Place) → Each IsWhole (map piece_place pieces) → Each IsWhole ps → Once (map piece_place pieces ++ ps) → Each (λ p. IsClear pieces p.ib p.len) ps
pieces-beside pieces ps all wholes once = go ps wholes (λ p slot a b. once slot (twice-both (map piece_place pieces) ps slot b a))
  where
    go : (qs : List Place) → Each IsWhole qs → ((p : Place) (slot : ℕ) → SomeCovers qs slot → SomeCovers (map piece_place pieces) slot → ⊥) → Each (λ p. IsClear pieces p.ib p.len) qs
    go [] wholes free = tt
    go (q ∷ qs) wholes free = (
      clear-of q pieces wholes.0 all (λ slot a b. free q slot (covers-first q qs slot a) b),
      go qs wholes.1 (λ p slot a b. free p slot (covers-later q qs slot a) b),
    )

-- pieces that are apart all stand once all are written, behind others that may be written over
pub pieces-stand : (file : List ℕ) (first pieces : List Piece) → AreApart pieces → HoldsEach file (first ++ pieces) → EachStands file pieces
pieces-stand file (g ∷ first) pieces apart holds = pieces-stand file first pieces apart holds.2
pieces-stand file [] [] apart holds = tt
pieces-stand file [] (p ∷ pieces) apart holds = (holds.1 apart.0, pieces-stand file [] pieces apart.1 holds.2)

-- and under another header
pub stand-behind : (header file : List ℕ) (pieces : List Piece) → length header ≡ 564 → Each IsWhole (map piece_place pieces) → EachStands file pieces → EachStands (header ++ drop 564 file) pieces
stand-behind header file [] size all stands = tt
stand-behind header file (p ∷ ps) size all stands = (behind header file p.at (length p.bytes) size (let a = (all.0).above in omega (arith, a)) ∙ stands.0, stand-behind header file ps size all.1 stands.1)
