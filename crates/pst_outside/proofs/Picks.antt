-- The outcomes that a pick asks for are outcomes of a crash.
use Rattle.std.proofs.Common.{◌≡◌, ◌⊎◌, ◌∙◌, inl, inr, ℕ, ◌+◌, ◌-◌, ◌<◌, ◌≤◌, min, List, [], ◌∷◌, ◌++◌, length, take, drop, get_or, replicate, refl, sym, ap, subst, arith, ⊎_elim, length-append, length-drop}
use Rattle.std.proofs.Math.Nat.{le_refl}
use Rattle.std.proofs.lemmas.List.{get_or-take, get_or-drop, get_or_append_left, get_or-append_right, length-take, length-replicate}
use Rattle.std.proofs.lemmas.List.Elements.{Contains-append_right}
use Rattle.std.proofs.lemmas.Bool.{cases_lt}
use Rattle.pst_base.specs.declared.places.Place.{Place}
use Rattle.pst_outside.specs.declared.outside.Part.{Part}
use Rattle.pst_outside.specs.declared.outside.Part.TheVariants.{Main, Side, Copy}
use Rattle.pst_outside.specs.declared.crash.Pick.{Pick}
use Rattle.pst_outside.specs.declared.crash.Pick.TheVariants.{Old, New, Junk}
use Rattle.pst_outside.specs.World.{Image, content}
use Rattle.pst_outside.specs.Replay.{PartState, Disk, part_of, InRanges, IsPartImage, IsImage, junk_range, junked, picked}
use Rattle.pst_outside.proofs.Disks.{Sane, sane_part}

pub junked-push : (bytes : List ℕ) (ranges : List Place) (range : Place) → junked bytes (ranges ++ range ∷ []) ≡ junk_range (junked bytes ranges) range
junked-push bytes [] range = refl
junked-push bytes (first ∷ ranges) range = junked-push (junk_range bytes first) ranges range

length-junk_range : (bytes : List ℕ) (range : Place) → length (junk_range bytes range) ≡ length bytes
length-junk_range bytes range = simp (length-append, length-take, length-drop, length-replicate) (omega arith)

length-junked : (bytes : List ℕ) (ranges : List Place) → length (junked bytes ranges) ≡ length bytes
length-junked bytes [] = refl
length-junked bytes (range ∷ ranges) = length-junked (junk_range bytes range) ranges ∙ length-junk_range bytes range

junk_range_outside : (bytes : List ℕ) (range : Place) (i : ℕ) → i < length bytes → (i < range.ib) ⊎ (range.ib + range.len ≤ i) → get_or (junk_range bytes range) i 0 ≡ get_or bytes i 0
junk_range_outside bytes range i within apart =
    let n : ℕ = min range.len (length bytes - range.ib) in
    let before : List ℕ = take range.ib bytes in
    let filled : List ℕ = replicate n 0xA5 in
    let rest : List ℕ = drop (range.ib + range.len) bytes in
    let low : length before ≡ min range.ib (length bytes) = length-take range.ib bytes in
    let front : length (before ++ filled) ≡ length before + n = length-append before filled ∙ ap (λ k. length before + k) (length-replicate n 0xA5) in
    ⊎_elim
    (λ (below : i < range.ib).
    get_or_append_left (before ++ filled) rest 0 i (omega (arith, front, low))
    ∙ get_or_append_left before filled 0 i (omega (arith, low))
    ∙ get_or-take range.ib bytes i 0 below)
    (λ (above : range.ib + range.len ≤ i).
    get_or-append_right (before ++ filled) rest (range.ib + range.len) i 0 (omega (arith, front, low)) above
    ∙ get_or-drop (range.ib + range.len) bytes (i - (range.ib + range.len)) 0
    ∙ ap (λ k. get_or bytes k 0) (omega arith))
    apart

-- a place that isn't in the first range lies before it or after it
apart_from : (range : Place) (ranges : List Place) (i : ℕ) → (InRanges (range ∷ ranges) i → ⊥) → (i < range.ib) ⊎ (range.ib + range.len ≤ i)
apart_from range ranges i out = ⊎_elim
    (λ (low : i < range.ib). inl low)
    (λ (high : range.ib ≤ i). ⊎_elim
    (λ (in' : i < range.ib + range.len). absurd (out (range, (0, omega arith, refl), high, in')))
    (λ (past : range.ib + range.len ≤ i). inr past)
    (cases_lt i (range.ib + range.len)))
    (cases_lt i range.ib)

junked_outside : (bytes : List ℕ) (ranges : List Place) (i : ℕ) → i < length bytes → (InRanges ranges i → ⊥) → get_or (junked bytes ranges) i 0 ≡ get_or bytes i 0
junked_outside bytes [] i within out = refl
junked_outside bytes (range ∷ ranges) i within out =
    junked_outside (junk_range bytes range) ranges i (omega (arith, length-junk_range bytes range))
    (λ inside. out (inside.0, Contains-append_right (range ∷ []) ranges inside.0 inside.1, inside.2, inside.3))
    ∙ junk_range_outside bytes range i within (apart_from range ranges i out)

pub picked_is_image : (pick : Pick) (s : PartState) → IsPartImage s s.now → IsPartImage s (picked pick s)
picked_is_image Old s sane = record { no_shorter = le_refl (length s.synced); no_longer = sane.no_shorter; same = λ i lt out. refl }
picked_is_image New s sane = sane
picked_is_image Junk s sane = record {
  no_shorter = omega (arith, length-junked s.now s.ranges, sane.no_shorter);
  no_longer = omega (arith, length-junked s.now s.ranges);
  same = λ i lt out. junked_outside s.now s.ranges i (omega (arith, lt, sane.no_shorter)) out ∙ sane.same i lt out;
}

-- an outcome of one part is the part of an outcome of the disk
pub part_image : (part : Part) (disk : Disk) (b : List ℕ) → Sane disk → IsPartImage (part_of part disk) b → (c : Image) × IsImage disk c × (content part c ≡ b)
part_image Main disk b sane image = (record { main = b; side = disk.side.now; copy = disk.copy.now; said = disk.said }, record { main = image; side = sane.side; copy = sane.copy; said = refl }, refl)
part_image Side disk b sane image = (record { main = disk.main.now; side = b; copy = disk.copy.now; said = disk.said }, record { main = sane.main; side = image; copy = sane.copy; said = refl }, refl)
part_image Copy disk b sane image = (record { main = disk.main.now; side = disk.side.now; copy = b; said = disk.said }, record { main = sane.main; side = sane.side; copy = image; said = refl }, refl)

pub picked_image : (part : Part) (disk : Disk) (pick : Pick) (b : List ℕ) → Sane disk → b ≡ picked pick (part_of part disk) → (c : Image) × IsImage disk c × (content part c ≡ b)
picked_image part disk pick b sane eq = part_image part disk b sane (subst (IsPartImage (part_of part disk)) (sym eq) (picked_is_image pick (part_of part disk) (sane_part part disk sane)))
