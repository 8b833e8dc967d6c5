-- What is read of the gate's file.
use Rattle.std.proofs.Common.{◌≡◌, ◌∙◌, ℕ, ap, refl, arith, true, false, eqb, eq-eqb, List, length, get_or, take, drop, length-drop}
use Rattle.std.proofs.lemmas.Bool.{ne_eqb}
use Rattle.std.proofs.lemmas.List.{get_or-take, take_all}
use Rattle.file_blocks.proofs.FileLaws.{open_size}
use Rattle.gate_file.specs.Effective.{is_open, header_bytes}

pub not_open : (side : List ℕ) → (length side ≡ 580 → ⊥) → is_open side ≡ false
not_open side other = let e : eqb (length side) 580 ≡ false = ne_eqb _ _ other in rw e refl

pub gate_byte : (side byte : List ℕ) → length side ≡ 580 → byte ≡ take 1 (drop 0 side) → eqb (get_or byte 0 0) 1 ≡ is_open side
gate_byte side byte size is =
    let e : eqb (length side) 580 ≡ true = eq-eqb _ _ size in
    let b : get_or byte 0 0 ≡ get_or side 0 0 = ap (λ (xs : List ℕ). get_or xs 0 0) is ∙ get_or-take 1 side 0 0 (omega arith) in
    rw (e, b) refl

pub header_behind : (main side bytes : List ℕ) → is_open side ≡ true → bytes ≡ take 564 (drop 16 side) → bytes ≡ header_bytes main side
header_behind main side bytes is read =
    let size : length side ≡ 580 = open_size side is in
    rw is (read ∙ take_all 564 (drop 16 side) (omega (arith, length-drop 16 side)))

pub header_in_main : (main side bytes : List ℕ) → is_open side ≡ false → bytes ≡ take 564 (drop 0 main) → bytes ≡ header_bytes main side
header_in_main main side bytes is read = rw is read
