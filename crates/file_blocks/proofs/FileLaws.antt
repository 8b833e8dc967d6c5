-- The store's file is its main part behind the header.
use Rattle.std.proofs.Common.{Bool, true, false, ◌≡◌, ℕ, ◌+◌, ◌-◌, ◌≤◌, eqb-true, List, ◌++◌, length, take, drop, refl, sym, ap, subst, ◌∙◌, arith, length-drop, length-append}
use Rattle.std.proofs.Math.Seq.{take-append_seam}
use Rattle.std.proofs.lemmas.Bool.{and_parts}
use Rattle.std.proofs.lemmas.List.{drop-drop, drop_at}
use Rattle.gate_file.specs.Effective.{is_open, effective}

pub open_size : (side : List ℕ) → is_open side ≡ true → length side ≡ 580
open_size side is = eqb-true _ _ (and_parts _ _ is).0

-- behind the header the store's file is Main
pub behind_header : (main side : List ℕ) (at n : ℕ) → 564 ≤ at → take n (drop at main) ≡ take n (drop at (effective main side))
behind_header main side at n behind = by_gate (is_open side) refl
  where
    later : (l : List ℕ) → drop at l ≡ drop (at - 564) (drop 564 l)
    later l = let e : at ≡ 564 + (at - 564) = omega arith in ap (λ (k : ℕ). drop k l) e ∙ sym (drop-drop (at - 564) 564 l)

    by_gate : (b : Bool) → is_open side ≡ b → take n (drop at main) ≡ take n (drop at (effective main side))
    by_gate false shut = rw shut refl
    by_gate true is =
        let size = open_size side is in
        let header : length (drop 16 side) ≡ 564 = omega (arith, length-drop 16 side, size) in
        let whole : List ℕ = drop 16 side ++ drop 564 main in
        let same : drop at whole ≡ drop at main =
        later whole ∙ ap (drop (at - 564)) (drop_at (drop 16 side) (drop 564 main) 564 header) ∙ sym (later main) in
        rw is (ap (take n) (sym same))

-- the store's file is no shorter than Main
pub no_shorter : (main side : List ℕ) → length main ≤ length (effective main side)
no_shorter main side = by_gate (is_open side) refl
  where
    by_gate : (b : Bool) → is_open side ≡ b → length main ≤ length (effective main side)
    by_gate false shut = rw shut (omega arith)
    by_gate true is =
        let size = open_size side is in
        let long : length main ≤ length (drop 16 side ++ drop 564 main) =
        omega (arith, length-append (drop 16 side) (drop 564 main), length-drop 16 side, length-drop 564 main, size) in
        rw is long

-- the front of a buffer that was read
pub front_of : (n m : ℕ) (new rest whole : List ℕ) → n ≡ m → length new ≡ n → new ≡ take n whole → take m (new ++ rest) ≡ take m whole
front_of n m new rest whole same size is =
    let one : take n (new ++ rest) ≡ take n whole = take_at n new rest size ∙ is in
    subst (λ (k : ℕ). take k (new ++ rest) ≡ take k whole) same one
  where
    take_at : (n : ℕ) (xs ys : List ℕ) → length xs ≡ n → take n (xs ++ ys) ≡ xs
    take_at n xs ys e = ap (λ (k : ℕ). take k (xs ++ ys)) (sym e) ∙ take-append_seam xs ys

-- a file that has a header is as long as its main part
pub same_length : (main side : List ℕ) → 564 ≤ length main → length (effective main side) ≡ length main
same_length main side long = by_gate (is_open side) refl
  where
    by_gate : (b : Bool) → is_open side ≡ b → length (effective main side) ≡ length main
    by_gate false shut = rw shut refl
    by_gate true is =
        let size = open_size side is in
        let same : length (drop 16 side ++ drop 564 main) ≡ length main =
        omega (arith, length-append (drop 16 side) (drop 564 main), length-drop 16 side, length-drop 564 main, size, long) in
        rw is same
