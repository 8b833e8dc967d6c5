-- The pieces of a copy stand beside each other.
use Rattle.std.proofs.Common.{Bool, ◌≡◌, ◌⊎◌, inl, inr, ℕ, ◌+◌, ◌*◌, ◌≤◌, List, [], ◌∷◌, ◌++◌, length, map, sym, subst, arith}
use Rattle.pst_base.specs.declared.places.Place.{Place}
use Rattle.alloc_map.proofs.CoverLaws.{fixed_slots_small}
use Rattle.alloc_map.specs.Ends.{region_end}
use Rattle.alloc_map.specs.Standing.{fixed_slots}
use Rattle.copy_layout.specs.Order.{IsFree}
use Rattle.copy_layout.proofs.OrderLaws.{Ascends}
use Rattle.copy_pieces.specs.Fixed.{AreFixed}
use Rattle.lays_kept.specs.declared.Piece.{Piece}
use Rattle.lays_kept.specs.Kept.{Each, HoldsEach, IsClear}
use Rattle.node_layout.specs.Pieces.{AreApart, EachStands, piece_place}
use Rattle.node_layout.proofs.PieceLaws.{pieces-stand}

-- ---- lists of pieces

clear-append : (xs ys : List Piece) (at n : ℕ) → IsClear xs at n → IsClear ys at n → IsClear (xs ++ ys) at n
clear-append [] ys at n a b = b
clear-append (x ∷ xs) ys at n a b = (a.0, clear-append xs ys at n a.1 b)

apart-append : (xs ys : List Piece) → AreApart xs → AreApart ys → Each (λ p. IsClear ys p.ib p.len) (map piece_place xs) → AreApart (xs ++ ys)
apart-append [] ys a b clear = b
apart-append (x ∷ xs) ys a b clear = (clear-append xs ys x.at (length x.bytes) a.0 clear.0, apart-append xs ys a.1 b clear.1)

pub stand-front : (file : List ℕ) (xs ys : List Piece) → EachStands file (xs ++ ys) → EachStands file xs
stand-front file [] ys h = tt
stand-front file (x ∷ xs) ys h = (h.0, stand-front file xs ys h.1)

pub stand-back : (file : List ℕ) (xs ys : List Piece) → EachStands file (xs ++ ys) → EachStands file ys
stand-back file [] ys h = h
stand-back file (x ∷ xs) ys h = stand-back file xs ys h.1

-- ---- blocks and pages

clear-behind : (pieces : List Piece) (at n from end : ℕ) → at + n ≤ from → Ascends from (map piece_place pieces) end → IsClear pieces at n
clear-behind [] at n from end le h = tt
clear-behind (p ∷ ps) at n from end le h =
    let a = h.0.behind in
    let b = h.0.before in
    (inl (omega (arith, a, le)), clear-behind ps at n (p.at + length p.bytes) end (omega (arith, a, le)) h.1)

ascending-apart : (pieces : List Piece) (from end : ℕ) → Ascends from (map piece_place pieces) end → AreApart pieces
ascending-apart [] from end h = tt
ascending-apart (p ∷ ps) from end h = (clear-behind ps p.at (length p.bytes) (p.at + length p.bytes) end (omega arith) h.1, ascending-apart ps (p.at + length p.bytes) end h.1)

-- ---- fixed pages

fixed-behind : (used : List Bool) (r at n : ℕ) (ps : List Piece) → at + n ≤ region_end r → AreFixed used r ps → IsClear ps at n
fixed-behind used r at n [] le are = tt
fixed-behind used r at n (p ∷ ps) le are = let a = are.0.place in (inl (omega (arith, a, le)), fixed-behind used (r + 1) at n ps (omega (arith, le)) are.1)

fixed-apart : (used : List Bool) (r : ℕ) (ps : List Piece) → AreFixed used r ps → AreApart ps
fixed-apart used r [] are = tt
fixed-apart used r (p ∷ ps) are =
    let a = are.0.place in
    let b = are.0.size in
    let c = fixed_slots_small r in
    (fixed-behind used (r + 1) p.at (length p.bytes) ps (omega (arith, a, b, c)) are.1, fixed-apart used (r + 1) ps are.1)

-- what is free of fixed pages is clear of them
clear-fixed : (used : List Bool) (r at n : ℕ) (ps : List Piece) → IsFree n at → AreFixed used r ps → IsClear ps at n
clear-fixed used r at n [] free are = tt
clear-fixed used r at n (p ∷ ps) free are = (by (free r), clear-fixed used (r + 1) at n ps free are.1)
  where
    by : (at + n ≤ region_end r) ⊎ (region_end r + 64 * fixed_slots r ≤ at) → (at + n ≤ p.at) ⊎ (p.at + length p.bytes ≤ at)
    by (inl before) = let a = are.0.place in inl (omega (arith, before, a))
    by (inr behind) = let a = are.0.place in let b = are.0.size in inr (omega (arith, behind, a, b))

-- ---- in front of the first region

-- the page that older readers look for, and the header
pub record AreFront (front : List Piece) : Type 0 where
  pub dense : Piece
  pub head : Piece
  pub are : front ≡ dense ∷ head ∷ []
  pub dense_at : dense.at ≡ 0x4200
  pub dense_size : length dense.bytes ≡ 512
  pub head_at : head.at ≡ 0
  pub head_size : length head.bytes ≡ 564

clear-front : (front : List Piece) → AreFront front → (at n : ℕ) → 0x4400 ≤ at → IsClear front at n
clear-front front is at n low =
    let a = is.dense_at in
    let b = is.dense_size in
    let c = is.head_at in
    let d = is.head_size in
    subst (λ (l : List Piece). IsClear l at n) (sym is.are) (inr (omega (arith, a, b, low)), (inr (omega (arith, c, d, low)), tt))

front-apart : (front : List Piece) → AreFront front → AreApart front
front-apart front is =
    let a = is.dense_at in
    let c = is.head_at in
    let d = is.head_size in
    subst AreApart (sym is.are) ((inr (omega (arith, a, c, d)), tt), (tt, tt))

fixed-front : (used : List Bool) (r : ℕ) (ps front : List Piece) → AreFixed used r ps → AreFront front → Each (λ p. IsClear front p.ib p.len) (map piece_place ps)
fixed-front used r [] front are is = tt
fixed-front used r (p ∷ ps) front are is = let a = are.0.place in (clear-front front is p.at (length p.bytes) (omega (arith, a)), fixed-front used (r + 1) ps front are.1 is)

-- ---- all of them

parts-clear : (used : List Bool) (fixed front : List Piece) (from end : ℕ) (ps : List Place) → AreFixed used 0 fixed → AreFront front → Ascends from ps end → Each (λ p. IsClear (fixed ++ front) p.ib p.len) ps
parts-clear used fixed front from end [] are is h = tt
parts-clear used fixed front from end (p ∷ ps) are is h = (
  clear-append fixed front p.ib p.len (clear-fixed used 0 p.ib p.len fixed h.0.free are) (clear-front front is p.ib p.len h.0.above),
  parts-clear used fixed front (p.ib + p.len) end ps are is h.1,
)

-- once all are written, behind a first one that may be written over, each stands in its place
pub all-stand : (copy : List ℕ) (used : List Bool) (first parts fixed front : List Piece) (from end : ℕ) → Ascends from (map piece_place parts) end → AreFixed used 0 fixed → AreFront front
    → HoldsEach copy (first ++ (parts ++ (fixed ++ front))) → EachStands copy (parts ++ (fixed ++ front))
all-stand copy used first parts fixed front from end h are is holds =
    let rest = apart-append fixed front (fixed-apart used 0 fixed are) (front-apart front is) (fixed-front used 0 fixed front are is) in
    pieces-stand copy first (parts ++ (fixed ++ front)) (apart-append parts (fixed ++ front) (ascending-apart parts from end h) rest (parts-clear used fixed front from end (map piece_place parts) are is h)) holds
