-- What is written of a copy ends where its regions do, or before.
use Rattle.std.proofs.Common.{Bool, ◌≡◌, ℕ, ◌+◌, ◌≤◌, List, [], ◌∷◌, ◌++◌, length, map, sym, subst, arith}
use Rattle.alloc_map.proofs.CoverLaws.{fixed_slots_small}
use Rattle.alloc_map.specs.Ends.{region_end}
use Rattle.file_layout.specs.Trees.{IsPlace}
use Rattle.lays_kept.specs.declared.Piece.{Piece}
use Rattle.lays_kept.specs.Kept.{Each}
use Rattle.node_layout.specs.Pieces.{piece_place}
use Rattle.copy_pieces.specs.Fixed.{AreFixed}
use Rattle.copy_pieces.specs.Writes.{EndBy}
use Rattle.compactor.proofs.StandLaws.{AreFront}

end-append : (n : ℕ) (xs ys : List Piece) → EndBy n xs → EndBy n ys → EndBy n (xs ++ ys)
end-append n [] ys a b = b
end-append n (x ∷ xs) ys a b = (a.0, end-append n xs ys a.1 b)

parts-end : (eof : ℕ) (ps : List Piece) → Each (IsPlace eof) (map piece_place ps) → EndBy eof ps
parts-end eof [] places = tt
parts-end eof (p ∷ ps) places = (places.0.before, parts-end eof ps places.1)

fixed-end : (used : List Bool) (eof r : ℕ) (ps : List Piece) → region_end (r + length ps) ≤ eof → AreFixed used r ps → EndBy eof ps
fixed-end used eof r [] le are = tt
fixed-end used eof r (p ∷ ps) le are =
    let a = are.0.place in
    let b = are.0.size in
    let c = fixed_slots_small r in
    let long : length (p ∷ ps) ≡ length ps + 1 = omega arith in
    (omega (arith, a, b, c, le, long), fixed-end used eof (r + 1) ps (omega (arith, le, long)) are.1)

front-end : (eof : ℕ) (front : List Piece) → 0x4400 ≤ eof → AreFront front → EndBy eof front
front-end eof front low is =
    let a = is.dense_at in
    let b = is.dense_size in
    let c = is.head_at in
    let d = is.head_size in
    subst (EndBy eof) (sym is.are) (omega (arith, a, b, low), (omega (arith, c, d, low), tt))

pub all-end : (used : List Bool) (eof regions : ℕ) (parts fixed front : List Piece) → Each (IsPlace eof) (map piece_place parts) → AreFixed used 0 fixed → length fixed ≡ regions → eof ≡ region_end regions → 1 ≤ regions → AreFront front
    → EndBy eof (parts ++ (fixed ++ front))
all-end used eof regions parts fixed front places are count ends some is =
    end-append eof parts (fixed ++ front) (parts-end eof parts places)
    (end-append eof fixed front (fixed-end used eof 0 fixed (omega (arith, count, ends)) are) (front-end eof front (omega (arith, ends)) is))
