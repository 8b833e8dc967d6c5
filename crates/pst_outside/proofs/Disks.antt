-- What each event does to a disk and to what a crash may leave of it.
use Rattle.std.proofs.Common.{◌≡◌, ◌⊎◌, ◌∙◌, inl, inr, ℕ, ◌+◌, ◌<◌, ◌≤◌, max, min, List, [], ◌∷◌, ◌++◌, length, get_or, map, refl, sym, ap, subst, arith, ⊎_elim}
use Rattle.std.specs.Prelude.{nat_lt, if◌then◌else◌}
use Rattle.std.proofs.Math.Nat.{le_refl}
use Rattle.std.specs.List.{range_with_len}
use Rattle.std.proofs.lemmas.List.{same_lists, get_or_default}
use Rattle.std.proofs.lemmas.List.Elements.{Contains-append_left, Contains-push, Contains-push_cases}
use Rattle.std.proofs.lemmas.List.FromFn.{length-map-range_with_len, get_or-map-range_with_len}
use Rattle.std.proofs.lemmas.Bool.{cases_lt}
use Rattle.std.proofs.lemmas.Bool.Decides.{nat_tests}
use Rattle.pst_base.specs.declared.places.Place.{Place}
use Rattle.pst_outside.specs.declared.outside.Part.{Part}
use Rattle.pst_outside.specs.declared.outside.Part.TheVariants.{Main, Side, Copy}
use Rattle.pst_outside.specs.declared.record.Event.{Event}
use Rattle.pst_outside.specs.declared.record.Event.TheVariants.{Wrote, Lost, Synced, Said}
use Rattle.pst_outside.specs.World.{Image, content, SameDisk, Torn, TornAt, after_write}
use Rattle.pst_outside.specs.Replay.{PartState, Disk, stable, part_after_write, part_after_loss, change, part_of, step, InRanges, IsPartImage, IsImage, held}
use Rattle.pst_outside.proofs.Bytes.{after_write_torn, length-after_write, torn_same}

-- a stable part has one outcome
pub stable_image : (bytes c : List ℕ) → IsPartImage (stable bytes) c → c ≡ bytes
stable_image bytes c image =
    same_lists c bytes (omega (arith, image.no_shorter, image.no_longer))
    (λ k d lt. get_or_default c k d 0 lt ∙ image.same k (omega (arith, lt, image.no_longer)) (λ inside. omega (arith, inside.1.1)) ∙ get_or_default bytes k 0 d (omega (arith, lt, image.no_longer)))

-- which is what a read gives
pub stable_is_image : (bytes : List ℕ) → IsPartImage (stable bytes) bytes
stable_is_image bytes = record { no_shorter = le_refl (length bytes); no_longer = le_refl (length bytes); same = λ i lt out. refl }

-- a place outside of the new range and of the others is in none
outside : (ranges : List Place) (at n i : ℕ) → (i < at) ⊎ (at + n ≤ i) → (InRanges ranges i → ⊥) → InRanges (ranges ++ record { ib = at; len = n } ∷ []) i → ⊥
outside ranges at n i apart out inside =
    ⊎_elim
    (λ old. out (inside.0, old, inside.2, inside.3))
    (λ (new : record { ib = at; len = n } ≡ inside.0).
    let begins : at ≡ inside.0.ib = ap (λ (p : Place). p.ib) new in
    let counts : n ≡ inside.0.len = ap (λ (p : Place). p.len) new in
    ⊎_elim (λ low. omega (arith, low, begins, inside.2)) (λ high. omega (arith, high, begins, counts, inside.3)) apart)
    (Contains-push_cases ranges (record { ib = at; len = n }) inside.0 inside.1)

-- the bytes of c outside of a range, and the stable ones within
abbrev mixed : (synced c : List ℕ) (at n : ℕ) → ℕ → ℕ
mixed synced c at n i = if nat_lt i at then get_or c i 0 else (if nat_lt i (at + n) then get_or synced i 0 else get_or c i 0)

mixed_below : (synced c : List ℕ) (at n i : ℕ) → i < at → mixed synced c at n i ≡ get_or c i 0
mixed_below synced c at n i low = grind (arith, nat_tests)

mixed_above : (synced c : List ℕ) (at n i : ℕ) → at + n ≤ i → mixed synced c at n i ≡ get_or c i 0
mixed_above synced c at n i high = grind (arith, nat_tests)

mixed_within : (synced c : List ℕ) (at n i : ℕ) → at ≤ i → i < at + n → mixed synced c at n i ≡ get_or synced i 0
mixed_within synced c at n i low high = grind (arith, nat_tests)

-- With one more range, a part's outcome is an earlier one torn in that range.
pub part_follows : (s : PartState) (at n : ℕ) (c : List ℕ) → length s.synced ≤ length s.now → length s.synced ≤ length c → length c ≤ max (length s.now) (at + n)
    → ((i : ℕ) → i < length s.synced → (InRanges (s.ranges ++ record { ib = at; len = n } ∷ []) i → ⊥) → get_or c i 0 ≡ get_or s.synced i 0)
    → (d : List ℕ) × IsPartImage s d × Torn at n d c
part_follows s at n c grown no_shorter no_longer same =
    let m : ℕ = min (length c) (length s.now) in
    let f : ℕ → ℕ = mixed s.synced c at n in
    let d : List ℕ = map f (range_with_len 0 m) in
    let size : length d ≡ m = length-map-range_with_len f 0 m in
    let byte : (i : ℕ) → i < m → get_or d i 0 ≡ f i = λ i lt. get_or-map-range_with_len f 0 m i i 0 lt (omega arith) in
    let elsewhere : (i : ℕ) → i < length s.synced → (i < at) ⊎ (at + n ≤ i) → (InRanges s.ranges i → ⊥) → get_or c i 0 ≡ get_or s.synced i 0
    = λ i lt apart out. same i lt (outside s.ranges at n i apart out) in (
      d,
      record {
        no_shorter = omega (arith, size, grown, no_shorter);
        no_longer = omega (arith, size);
        same = λ i lt out.
            byte i (omega (arith, lt, grown, no_shorter)) ∙ ⊎_elim
            (λ (low : i < at). mixed_below s.synced c at n i low ∙ elsewhere i lt (inl low) out)
            (λ (high : at ≤ i). ⊎_elim
            (λ (in' : i < at + n). mixed_within s.synced c at n i high in')
            (λ (past : at + n ≤ i). mixed_above s.synced c at n i past ∙ elsewhere i lt (inr past) out)
            (cases_lt i (at + n)))
            (cases_lt i at);
      },
      record {
        no_shorter = omega (arith, size);
        no_longer = omega (arith, size, no_longer);
        below = λ i lt low. sym (byte i (omega (arith, lt, size)) ∙ mixed_below s.synced c at n i low);
        above = λ i lt high. sym (byte i (omega (arith, lt, size)) ∙ mixed_above s.synced c at n i high);
      },
    )

-- after a write
pub part_write_follows : (s : PartState) (at : ℕ) (bytes c : List ℕ) → IsPartImage s s.now → IsPartImage (part_after_write at bytes s) c → (d : List ℕ) × IsPartImage s d × Torn at (length bytes) d c
part_write_follows s at bytes c sane image =
    part_follows s at (length bytes) c sane.no_shorter image.no_shorter (omega (arith, image.no_longer, length-after_write s.now at bytes)) image.same

-- after a write that failed
pub part_loss_follows : (s : PartState) (at n : ℕ) (c : List ℕ) → IsPartImage s s.now → IsPartImage (part_after_loss at n s) c → (d : List ℕ) × IsPartImage s d × Torn at n d c
part_loss_follows s at n c sane image =
    part_follows s at n c sane.no_shorter image.no_shorter (omega (arith, image.no_longer)) image.same

-- what a read gives is an outcome of a crash
abbrev pub Sane : Disk → Type 0
Sane disk = IsImage disk (held disk)

write_sane : (s : PartState) (at : ℕ) (bytes : List ℕ) → IsPartImage s s.now → IsPartImage (part_after_write at bytes s) (after_write s.now at bytes)
write_sane s at bytes sane =
    let torn : Torn at (length bytes) s.now (after_write s.now at bytes) = after_write_torn s.now at bytes in
    record {
      no_shorter = omega (arith, sane.no_shorter, torn.no_shorter);
      no_longer = le_refl (length (after_write s.now at bytes));
      same = λ i lt out. ⊎_elim
          (λ (low : i < at). torn.below i (omega (arith, lt, sane.no_shorter)) low ∙ sane.same i lt (λ inside. out (inside.0, Contains-append_left s.ranges (record { ib = at; len = length bytes } ∷ []) inside.0 inside.1, inside.2, inside.3)))
          (λ (high : at ≤ i). ⊎_elim
          (λ (in' : i < at + length bytes). absurd (out (record { ib = at; len = length bytes }, Contains-push s.ranges (record { ib = at; len = length bytes }), high, in')))
          (λ (past : at + length bytes ≤ i). torn.above i (omega (arith, lt, sane.no_shorter)) past ∙ sane.same i lt (λ inside. out (inside.0, Contains-append_left s.ranges (record { ib = at; len = length bytes } ∷ []) inside.0 inside.1, inside.2, inside.3)))
          (cases_lt i (at + length bytes)))
          (cases_lt i at);
    }

loss_sane : (s : PartState) (at n : ℕ) → IsPartImage s s.now → IsPartImage (part_after_loss at n s) s.now
loss_sane s at n sane = record {
  no_shorter = sane.no_shorter;
  no_longer = sane.no_longer;
  same = λ i lt out. sane.same i lt (λ inside. out (inside.0, Contains-append_left s.ranges (record { ib = at; len = n } ∷ []) inside.0 inside.1, inside.2, inside.3));
}

pub step_sane : (disk : Disk) (event : Event) → Sane disk → Sane (step disk event)
step_sane disk (Wrote Main at bytes) sane = record { main = write_sane disk.main at bytes sane.main; side = sane.side; copy = sane.copy; said = refl }
step_sane disk (Wrote Side at bytes) sane = record { main = sane.main; side = write_sane disk.side at bytes sane.side; copy = sane.copy; said = refl }
step_sane disk (Wrote Copy at bytes) sane = record { main = sane.main; side = sane.side; copy = write_sane disk.copy at bytes sane.copy; said = refl }
step_sane disk (Lost Main at n) sane = record { main = loss_sane disk.main at n sane.main; side = sane.side; copy = sane.copy; said = refl }
step_sane disk (Lost Side at n) sane = record { main = sane.main; side = loss_sane disk.side at n sane.side; copy = sane.copy; said = refl }
step_sane disk (Lost Copy at n) sane = record { main = sane.main; side = sane.side; copy = loss_sane disk.copy at n sane.copy; said = refl }
step_sane disk (Synced Main) sane = record { main = stable_is_image disk.main.now; side = sane.side; copy = sane.copy; said = refl }
step_sane disk (Synced Side) sane = record { main = sane.main; side = stable_is_image disk.side.now; copy = sane.copy; said = refl }
step_sane disk (Synced Copy) sane = record { main = sane.main; side = sane.side; copy = stable_is_image disk.copy.now; said = refl }
step_sane disk (Said bytes) sane = record { main = sane.main; side = sane.side; copy = sane.copy; said = refl }

-- each outcome after a change that tears one part is an earlier one, torn
change_follows : (part : Part) (f : PartState → PartState) (at n : ℕ) (disk : Disk) (c : Image)
    → ((b : List ℕ) → IsPartImage (f (part_of part disk)) b → (d : List ℕ) × IsPartImage (part_of part disk) d × Torn at n d b)
    → IsImage (change part f disk) c → (d : Image) × IsImage disk d × TornAt part at n d c
change_follows Main f at n disk c back image =
    let earlier : (d : List ℕ) × IsPartImage disk.main d × Torn at n d c.main = back c.main image.main in (
      record { main = earlier.0; side = c.side; copy = c.copy; said = c.said },
      record { main = earlier.1; side = image.side; copy = image.copy; said = image.said },
      record { torn = earlier.2; others = (refl, refl, refl) },
    )
change_follows Side f at n disk c back image =
    let earlier : (d : List ℕ) × IsPartImage disk.side d × Torn at n d c.side = back c.side image.side in (
      record { main = c.main; side = earlier.0; copy = c.copy; said = c.said },
      record { main = image.main; side = earlier.1; copy = image.copy; said = image.said },
      record { torn = earlier.2; others = (refl, refl, refl) },
    )
change_follows Copy f at n disk c back image =
    let earlier : (d : List ℕ) × IsPartImage disk.copy d × Torn at n d c.copy = back c.copy image.copy in (
      record { main = c.main; side = c.side; copy = earlier.0; said = c.said },
      record { main = image.main; side = image.side; copy = earlier.1; said = image.said },
      record { torn = earlier.2; others = (refl, refl, refl) },
    )

-- one part of what is held is an outcome of that part
pub sane_part : (part : Part) (disk : Disk) → Sane disk → IsPartImage (part_of part disk) (part_of part disk).now
sane_part Main disk sane = sane.main
sane_part Side disk sane = sane.side
sane_part Copy disk sane = sane.copy

pub write_follows : (disk : Disk) (part : Part) (at : ℕ) (bytes : List ℕ) (c : Image) → Sane disk → IsImage (step disk (Wrote part at bytes)) c → (d : Image) × IsImage disk d × TornAt part at (length bytes) d c
write_follows disk part at bytes c sane image =
    change_follows part (part_after_write at bytes) at (length bytes) disk c (λ b now. part_write_follows (part_of part disk) at bytes b (sane_part part disk sane) now) image

pub loss_follows : (disk : Disk) (part : Part) (at n : ℕ) (c : Image) → Sane disk → IsImage (step disk (Lost part at n)) c → (d : Image) × IsImage disk d × TornAt part at n d c
loss_follows disk part at n c sane image =
    change_follows part (part_after_loss at n) at n disk c (λ b now. part_loss_follows (part_of part disk) at n b (sane_part part disk sane) now) image

pub say_follows : (disk : Disk) (bytes : List ℕ) (c : Image) → IsImage (step disk (Said bytes)) c → (d : Image) × IsImage disk d × SameDisk d c
say_follows disk bytes c image = (
  record { main = c.main; side = c.side; copy = c.copy; said = disk.said },
  record { main = image.main; side = image.side; copy = image.copy; said = refl },
  record { main = refl; side = refl; copy = refl },
)

-- what a read gives was an outcome before the sync too
synced_part : (s : PartState) (c : List ℕ) → IsPartImage s s.now → IsPartImage (stable s.now) c → IsPartImage s c
synced_part s c sane image = subst (IsPartImage s) (sym (stable_image s.now c image)) sane

pub sync_no_more : (disk : Disk) (part : Part) (c : Image) → Sane disk → IsImage (step disk (Synced part)) c → IsImage disk c
sync_no_more disk Main c sane image = record { main = synced_part disk.main c.main sane.main image.main; side = image.side; copy = image.copy; said = image.said }
sync_no_more disk Side c sane image = record { main = image.main; side = synced_part disk.side c.side sane.side image.side; copy = image.copy; said = image.said }
sync_no_more disk Copy c sane image = record { main = image.main; side = image.side; copy = synced_part disk.copy c.copy sane.copy image.copy; said = image.said }

pub sync_durable : (disk : Disk) (part : Part) (c : Image) → IsImage (step disk (Synced part)) c → content part c ≡ content part (held (step disk (Synced part)))
sync_durable disk Main c image = stable_image disk.main.now c.main image.main
sync_durable disk Side c image = stable_image disk.side.now c.side image.side
sync_durable disk Copy c image = stable_image disk.copy.now c.copy image.copy

-- what is held after a sync is what was held before
pub sync_held : (disk : Disk) (part : Part) → held (step disk (Synced part)) ≡ held disk
sync_held disk Main = refl
sync_held disk Side = refl
sync_held disk Copy = refl

pub write_held : (disk : Disk) (part : Part) (at : ℕ) (bytes : List ℕ) → content part (held (step disk (Wrote part at bytes))) ≡ after_write (content part (held disk)) at bytes
write_held disk Main at bytes = refl
write_held disk Side at bytes = refl
write_held disk Copy at bytes = refl

pub write_tears : (disk : Disk) (part : Part) (at : ℕ) (bytes : List ℕ) → TornAt part at (length bytes) (held disk) (held (step disk (Wrote part at bytes)))
write_tears disk Main at bytes = record { torn = after_write_torn disk.main.now at bytes; others = (refl, refl, refl) }
write_tears disk Side at bytes = record { torn = after_write_torn disk.side.now at bytes; others = (refl, refl, refl) }
write_tears disk Copy at bytes = record { torn = after_write_torn disk.copy.now at bytes; others = (refl, refl, refl) }

pub loss_held : (disk : Disk) (part : Part) (at n : ℕ) → held (step disk (Lost part at n)) ≡ held disk
loss_held disk Main at n = refl
loss_held disk Side at n = refl
loss_held disk Copy at n = refl

-- what isn't touched is torn too
pub same_tears : (part : Part) (at n : ℕ) (c : Image) → TornAt part at n c c
same_tears Main at n c = record { torn = torn_same at n c.main; others = (refl, refl, refl) }
same_tears Side at n c = record { torn = torn_same at n c.side; others = (refl, refl, refl) }
same_tears Copy at n c = record { torn = torn_same at n c.copy; others = (refl, refl, refl) }
