-- Fixed pages written one region after another.
use Rattle.std.proofs.Common.{Bool, ◌≡◌, ℕ, ◌+◌, List, [], ◌∷◌, ◌++◌, length, refl, subst, arith, length-append}
use Rattle.lays_kept.specs.declared.Piece.{Piece}
use Rattle.copy_pieces.specs.Fixed.{AddsFixed, AreFixed, IsFixed}
use Rattle.copy_pieces.specs.Writes.{Adds}
use Rattle.copy_pieces.proofs.AddLaws.{adds-none, adds-then}

fixed-append : (used : List Bool) (r : ℕ) (ps : List Piece) (p : Piece) → AreFixed used r ps → IsFixed used (r + length ps) p → AreFixed used r (ps ++ p ∷ [])
fixed-append used r [] p are is = let e : r + 0 ≡ r = omega arith in (subst (λ (n : ℕ). IsFixed used n p) e is, tt)
fixed-append used r (q ∷ ps) p are is =
    let e : r + length (q ∷ ps) ≡ r + 1 + length ps = omega arith in
    (are.0, fixed-append used (r + 1) ps p are.1 (subst (λ (n : ℕ). IsFixed used n p) e is))

pub fixed-none : (used : List Bool) (copy : List ℕ) → AddsFixed used 0 copy copy
fixed-none used copy = record { pieces = []; count = refl; are = tt; adds = adds-none copy }

pub fixed-more : (used : List Bool) (r : ℕ) (a b c : List ℕ) (p : Piece) → AddsFixed used r a b → IsFixed used r p → Adds b c (p ∷ []) → AddsFixed used (r + 1) a c
fixed-more used r a b c p so_far is adds =
    let count = so_far.count in
    let size = length-append so_far.pieces (p ∷ []) in
    record {
      pieces = so_far.pieces ++ p ∷ [];
      count = omega (arith, count, size);
      are = fixed-append used 0 so_far.pieces p so_far.are (subst (λ (n : ℕ). IsFixed used n p) (omega (arith, count)) is);
      adds = adds-then a b c so_far.pieces (p ∷ []) so_far.adds adds;
    }
