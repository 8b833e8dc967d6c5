-- What stands for nodes opens, and what opens has a header that counts.
use Rattle.std.proofs.Common.{Bool, true, false, ◌≡◌, ◌∙◌, ℕ, ◌≤◌, eqb, ltb, List, ◌++◌, length, take, drop, Result, Ok, Err, refl, sym, ap, arith, length-drop, if◌then◌else◌}
use Rattle.std.proofs.lemmas.Bool.{ne_eqb, le-ltb, ltb-false}
use Rattle.std.proofs.lemmas.List.{take_at}
use Rattle.pst_outside.specs.World.{Image}
use Rattle.pst_header.specs.declared.header.Header.{Header}
use Rattle.pst_header.specs.declared.header.HeaderRefusal.{HeaderRefusal}
use Rattle.pst_header.specs.Format.{reading}
use Rattle.gate_file.specs.Effective.{is_open, effective, header_bytes}
use Rattle.file_blocks.proofs.FileLaws.{open_size}
use Rattle.node_port.specs.Nodes.{Nodes}
use Rattle.file_layout.specs.declared.stops.OpenRefusal.{OpenRefusal}
use Rattle.file_layout.specs.declared.stops.OpenRefusal.TheVariants as refusals
use Rattle.file_layout.specs.Opening.{opening, of_header}
use Rattle.lays_kept.specs.Stands.{Stands}

-- the header that counts is the front of the store's file
pub front_is : (main side : List ℕ) → take 564 (effective main side) ≡ header_bytes main side
front_is main side = by_gate (is_open side) refl
  where
    by_gate : (b : Bool) → is_open side ≡ b → take 564 (if b then drop 16 side ++ drop 564 main else main) ≡ (if b then drop 16 side else take 564 main)
    by_gate false shut = refl
    by_gate true is = take_at (drop 16 side) (drop 564 main) 564 (omega (arith, length-drop 16 side, open_size side is))

pub stands_opens : {found last : List ℕ} {image : Image} {N : Nodes} (is : Stands found image N last) → opening image.main image.side ≡ Ok is.file.header
unfolding opening
stands_opens {image = image} is =
    let long = is.main in
    rw (ne_eqb (length image.main) 0 (λ none. omega (arith, none, long)), le-ltb 580 (length image.side) is.side, le-ltb (length image.main) 564 is.main)
    (ap (λ r. of_header r) (ap reading (sym (front_is image.main image.side)) ∙ is.file.read))

passed : (a b c : Bool) (x y : ℕ) (r : Result Header HeaderRefusal) (h : Header)
    → (if a then Err refusals.Empty else if b then Err (refusals.Gate x) else if c then Err (refusals.Short y) else of_header r) ≡ Ok h → (b ≡ false) × (c ≡ false) × (r ≡ Ok h)
passed true b c x y r h e = absurd (cc)
passed false true c x y r h e = absurd (cc)
passed false false true x y r h e = absurd (cc)
passed false false false x y (Ok g) h e = (refl, refl, ap Ok (ok_same g h e))
  where
    ok_same : (g h : Header) → ◌≡◌ {A = Result Header OpenRefusal} (Ok g) (Ok h) → g ≡ h
    ok_same g h e = cc
passed false false false x y (Err f) h e = absurd (cc)

pub opens_parts : (main side : List ℕ) (h : Header) → opening main side ≡ Ok h → (564 ≤ length main) × (length side ≤ 580) × (reading (take 564 (effective main side)) ≡ Ok h)
unfolding opening
opens_parts main side h e =
    let parts = passed (eqb (length main) 0) (ltb 580 (length side)) (ltb (length main) 564) (length side) (length main) (reading (header_bytes main side)) h e in
    (ltb-false (length main) 564 parts.1, ltb-false 580 (length side) parts.0, ap reading (front_is main side) ∙ parts.2)
