-- What a list of events, and one more, leaves.
use Rattle.std.proofs.Common.{◌≡◌, ◌⊎◌, ◌∙◌, inl, inr, ℕ, ◌+◌, ◌<◌, ◌≤◌, List, [], ◌∷◌, ◌++◌, length, take, drop, refl, sym, ap, subst, arith, ⊎_elim}
use Rattle.std.proofs.lemmas.List.{take-append-le, take_all, take_at, length_push, length-take, length-drop, take-append-drop, drop-drop}
use Rattle.std.proofs.lemmas.Bool.{cases_lt}
use Rattle.pst_outside.specs.declared.outside.Part.{Part}
use Rattle.pst_outside.specs.declared.outside.Part.TheVariants.{Main, Side, Copy}
use Rattle.pst_outside.specs.declared.parts.Parts.{Parts}
use Rattle.pst_outside.specs.declared.record.Event.{Event}
use Rattle.pst_outside.specs.declared.record.Event.TheVariants.{Wrote, Lost, Synced, Said}
use Rattle.pst_outside.specs.World.{Image, content, SameDisk, TornAt, after_write}
use Rattle.pst_outside.specs.Calls.{Elapses}
use Rattle.pst_outside.specs.Replay.{Disk, step, replay, IsImage, held, Left, world_of}
use Rattle.pst_outside.specs.Memory.{start, bytes_of, image_of, with_content}
use Rattle.pst_outside.proofs.Bytes.{after_write_torn}
use Rattle.pst_outside.proofs.Disks.{Sane, stable_image, step_sane, stable_is_image, write_follows, loss_follows, say_follows, sync_no_more, sync_durable, sync_held, write_held, write_tears, loss_held, same_tears}

pub replay-push : (disk : Disk) (events : List Event) (event : Event) → replay disk (events ++ event ∷ []) ≡ step (replay disk events) event
replay-push disk [] event = refl
replay-push disk (first ∷ events) event = replay-push (step disk first) events event

pub replay_sane : (disk : Disk) (events : List Event) → Sane disk → Sane (replay disk events)
replay_sane disk [] sane = sane
replay_sane disk (event ∷ events) sane = replay_sane (step disk event) events (step_sane disk event sane)

pub start_sane : (parts : Parts) → Sane (start parts)
start_sane parts = record { main = stable_is_image parts.main.items; side = stable_is_image parts.side.items; copy = stable_is_image parts.copy.items; said = refl }

-- the disk that some events have left is sane
pub sane : (parts : Parts) (events : List Event) → Sane (replay (start parts) events)
sane parts events = replay_sane (start parts) events (start_sane parts)

module _ (first : Disk) (events later : List Event) (event : Event) (more : later ≡ events ++ event ∷ []) where
  pub replayed : replay first later ≡ step (replay first events) event
  replayed = ap (replay first) more ∙ replay-push first events event

  one_more : length later ≡ length events + 1
  one_more = ap length more ∙ length_push events event

  -- the events before one of the moments up to the one before the last are the same
  same_until : (k : ℕ) → k ≤ length events → take k later ≡ take k events
  same_until k le = ap (take k) more ∙ take-append-le k events (event ∷ []) le

  -- an outcome since t is an earlier one, or one of now
  earlier_or_now : (t : ℕ) (c : Image) → Left first later t c → Left first events t c ⊎ IsImage (replay first later) c
  earlier_or_now t c left = ⊎_elim
      (λ (before : left.0 < length later). let le : left.0 ≤ length events = omega (arith, one_more) in
      inl (left.0, left.1, le, subst (λ (l : List Event). IsImage (replay first l) c) (same_until left.0 le) left.3))
      (λ (at_end : length later ≤ left.0). inr (subst (λ (l : List Event). IsImage (replay first l) c) (take_all left.0 later at_end) left.3))
      (cases_lt left.0 (length later))

  kept_since : (t : ℕ) (c : Image) → Left first events t c → Left first later t c
  kept_since t c left = (left.0, left.1, omega (arith, left.2, one_more), subst (λ (l : List Event). IsImage (replay first l) c) (sym (same_until left.0 left.2)) left.3)

-- time goes on by one event
pub one_event : (first : Disk) (events later : List Event) (event : Event) → later ≡ events ++ event ∷ [] → {i o d w i' o' d' w' : ℕ} {input input' : List ℕ} → Elapses (world_of first events i o d w input) (world_of first later i' o' d' w' input')
one_event first events later event more = record {
  later = omega (arith, one_more first events later event more);
  nothing_else = λ t c le left. earlier_or_now first events later event more t c left;
  keeps = λ t c le left. kept_since first events later event more t c left;
}

-- time stands still
pub no_event : (first : Disk) (events later : List Event) → later ≡ events → {i o d w i' o' d' w' : ℕ} {input input' : List ℕ} → Elapses (world_of first events i o d w input) (world_of first later i' o' d' w' input')
no_event first events later same = record {
  later = omega (arith, ap length same);
  nothing_else = λ t c le left. inl (subst (λ (l : List Event). Left first l t c) same left);
  keeps = λ t c le left. subst (λ (l : List Event). Left first l t c) (sym same) left;
}

-- nothing is pending at the start
settled_first : (parts : Parts) (c : Image) → IsImage (start parts) c → c ≡ held (start parts)
settled_first parts c image =
    let main : c.main ≡ parts.main.items = stable_image parts.main.items c.main image.main in
    let side : c.side ≡ parts.side.items = stable_image parts.side.items c.side image.side in
    let copy : c.copy ≡ parts.copy.items = stable_image parts.copy.items c.copy image.copy in
    λ j. record { main = main j; side = side j; copy = copy j; said = image.said j }

pub start_settled : (parts : Parts) (events : List Event) → events ≡ [] → (c : Image) → IsImage (replay (start parts) events) c → c ≡ held (replay (start parts) events)
start_settled parts events none c = subst (λ (l : List Event). IsImage (replay (start parts) l) c → c ≡ held (replay (start parts) l)) (sym none) (settled_first parts c)

module _ (parts : Parts) (events later : List Event) (part : Part) (more : later ≡ events ++ Synced part ∷ []) where
  pub synced_kept : (i : Image) → i ≡ held (replay (start parts) events) → i ≡ held (replay (start parts) later)
  synced_kept i kept = kept ∙ sym (sync_held (replay (start parts) events) part) ∙ sym (ap held (replayed (start parts) events later (Synced part) more))

  pub synced_durable : (c : Image) → IsImage (replay (start parts) later) c → content part c ≡ content part (held (replay (start parts) later))
  synced_durable c image =
      let now : replay (start parts) later ≡ step (replay (start parts) events) (Synced part) = replayed (start parts) events later (Synced part) more in
      sync_durable (replay (start parts) events) part c (subst (λ d. IsImage d c) now image) ∙ ap (λ d. content part (held d)) (sym now)

  pub synced_no_more : (c : Image) → IsImage (replay (start parts) later) c → IsImage (replay (start parts) events) c
  synced_no_more c image = sync_no_more (replay (start parts) events) part c (sane parts events) (subst (λ d. IsImage d c) (replayed (start parts) events later (Synced part) more) image)

module _ (parts : Parts) (events later : List Event) (bytes : List ℕ) (more : later ≡ events ++ Said bytes ∷ []) where
  pub said_kept : (now : Parts) (spoken all : List ℕ) → image_of now spoken ≡ held (replay (start parts) events) → all ≡ spoken ++ bytes → image_of now all ≡ held (replay (start parts) later)
  said_kept now spoken all kept joined =
      ap (image_of now) joined
      ∙ ap (λ (i : Image). record { main = i.main; side = i.side; copy = i.copy; said = i.said ++ bytes }) kept
      ∙ sym (ap held (replayed (start parts) events later (Said bytes) more))

  pub said_follows : (c : Image) → IsImage (replay (start parts) later) c → (d : Image) × IsImage (replay (start parts) events) d × SameDisk d c
  said_follows c image = say_follows (replay (start parts) events) bytes c (subst (λ d. IsImage d c) (replayed (start parts) events later (Said bytes) more) image)

-- an image's part is that of the parts it was made of
part_bytes : (part : Part) (parts : Parts) (spoken : List ℕ) → bytes_of part parts ≡ content part (image_of parts spoken)
part_bytes Main parts spoken = refl
part_bytes Side parts spoken = refl
part_bytes Copy parts spoken = refl

with_tears : (part : Part) (at : ℕ) (bytes : List ℕ) (i : Image) → TornAt part at (length bytes) i (with_content part (after_write (content part i) at bytes) i)
with_tears Main at bytes i = record { torn = after_write_torn i.main at bytes; others = (refl, refl, refl) }
with_tears Side at bytes i = record { torn = after_write_torn i.side at bytes; others = (refl, refl, refl) }
with_tears Copy at bytes i = record { torn = after_write_torn i.copy at bytes; others = (refl, refl, refl) }

with_itself : (part : Part) (bytes : List ℕ) (i : Image) → content part (with_content part bytes i) ≡ bytes
with_itself Main bytes i = refl
with_itself Side bytes i = refl
with_itself Copy bytes i = refl

module _ (part : Part) (at : ℕ) (bytes : List ℕ) (old new : Parts) (spoken : List ℕ)
    (written : image_of new spoken ≡ with_content part (after_write (bytes_of part old) at bytes) (image_of old spoken)) where
  pub overwritten : image_of new spoken ≡ with_content part (after_write (content part (image_of old spoken)) at bytes) (image_of old spoken)
  overwritten = written ∙ ap (λ l. with_content part (after_write l at bytes) (image_of old spoken)) (part_bytes part old spoken)

  pub overwritten_tears : TornAt part at (length bytes) (image_of old spoken) (image_of new spoken)
  overwritten_tears = subst (TornAt part at (length bytes) (image_of old spoken)) (sym overwritten) (with_tears part at bytes (image_of old spoken))

  pub overwritten_content : content part (image_of new spoken) ≡ after_write (content part (image_of old spoken)) at bytes
  overwritten_content = ap (content part) overwritten ∙ with_itself part (after_write (content part (image_of old spoken)) at bytes) (image_of old spoken)

write_as_content : (disk : Disk) (part : Part) (at : ℕ) (bytes : List ℕ) → with_content part (after_write (content part (held disk)) at bytes) (held disk) ≡ held (step disk (Wrote part at bytes))
write_as_content disk Main at bytes = refl
write_as_content disk Side at bytes = refl
write_as_content disk Copy at bytes = refl

module _ (parts : Parts) (events later : List Event) (part : Part) (at : ℕ) (bytes : List ℕ) (more : later ≡ events ++ Wrote part at bytes ∷ []) where
  pub wrote_kept : (old new : Parts) (spoken : List ℕ) → image_of old spoken ≡ held (replay (start parts) events)
      → image_of new spoken ≡ with_content part (after_write (bytes_of part old) at bytes) (image_of old spoken) → image_of new spoken ≡ held (replay (start parts) later)
  wrote_kept old new spoken kept written =
      written
      ∙ ap (λ l. with_content part (after_write l at bytes) (image_of old spoken)) (part_bytes part old spoken)
      ∙ ap (λ i. with_content part (after_write (content part i) at bytes) i) kept
      ∙ write_as_content (replay (start parts) events) part at bytes
      ∙ sym (ap held (replayed (start parts) events later (Wrote part at bytes) more))

  pub wrote_follows : (c : Image) → IsImage (replay (start parts) later) c → (d : Image) × IsImage (replay (start parts) events) d × TornAt part at (length bytes) d c
  wrote_follows c image = write_follows (replay (start parts) events) part at bytes c (sane parts events) (subst (λ d. IsImage d c) (replayed (start parts) events later (Wrote part at bytes) more) image)

  pub wrote_tears : TornAt part at (length bytes) (held (replay (start parts) events)) (held (replay (start parts) later))
  wrote_tears =
      subst (λ d. TornAt part at (length bytes) (held (replay (start parts) events)) (held d)) (sym (replayed (start parts) events later (Wrote part at bytes) more)) (write_tears (replay (start parts) events) part at bytes)

  pub wrote_content : content part (held (replay (start parts) later)) ≡ after_write (content part (held (replay (start parts) events))) at bytes
  wrote_content = ap (λ d. content part (held d)) (replayed (start parts) events later (Wrote part at bytes) more) ∙ write_held (replay (start parts) events) part at bytes

module _ (parts : Parts) (events later : List Event) (part : Part) (at n : ℕ) (more : (later ≡ events) ⊎ (later ≡ events ++ Lost part at n ∷ [])) where
  pub lost_kept : (i : Image) → i ≡ held (replay (start parts) events) → i ≡ held (replay (start parts) later)
  lost_kept i kept = ⊎_elim
      (λ same. kept ∙ ap (λ l. held (replay (start parts) l)) (sym same))
      (λ lost. kept ∙ sym (loss_held (replay (start parts) events) part at n) ∙ sym (ap held (replayed (start parts) events later (Lost part at n) lost)))
      more

  pub lost_follows : (c : Image) → IsImage (replay (start parts) later) c → (d : Image) × IsImage (replay (start parts) events) d × TornAt part at n d c
  lost_follows c image = ⊎_elim
      (λ same. (c, subst (λ l. IsImage (replay (start parts) l) c) same image, same_tears part at n c))
      (λ lost. loss_follows (replay (start parts) events) part at n c (sane parts events) (subst (λ d. IsImage d c) (replayed (start parts) events later (Lost part at n) lost) image))
      more

  pub lost_time : {i o d w i' o' d' w' : ℕ} {input input' : List ℕ} → Elapses (world_of (start parts) events i o d w input) (world_of (start parts) later i' o' d' w' input')
  lost_time = ⊎_elim (λ same. no_event (start parts) events later same) (λ lost. one_event (start parts) events later (Lost part at n) lost) more

-- what is left of the input after some of it was taken
pub rest_of_input : (input got rest : List ℕ) (taken n : ℕ) → got ≡ take n (drop taken input) → taken + n ≤ length input → drop taken input ≡ take n (got ++ rest) ++ drop (taken + n) input
rest_of_input input got rest taken n copied within =
    let counts : length got ≡ n = ap length copied ∙ simp (length-take, length-drop) (omega arith) in
    sym (take-append-drop n (drop taken input)) ∙ ap (λ l. l ++ drop n (drop taken input)) (sym copied ∙ sym (take_at got rest n counts)) ∙ ap (λ l. take n (got ++ rest) ++ l) (drop-drop n taken input)
