-- Map pages that are written one after another.
use Rattle.std.proofs.Common.{◌≡◌, ◌∙◌, ◌⊎◌, inl, inr, ℕ, Bool, zero, suc, ◌+◌, ◌*◌, ◌<◌, ◌≤◌, List, length, take, drop, sym, ap, subst, arith, ⊎_elim, length-drop}
use Rattle.std.proofs.lemmas.Bool.{cases_eq}
use Rattle.std.proofs.lemmas.List.{length-take, length-replicate}
use Rattle.pst_outside.specs.World.{Image, TornAt, after_write}
use Rattle.pst_outside.specs.declared.outside.Part.TheVariants.{Main}
use Rattle.pst_outside.proofs.Bytes.{torn_span, after_write_torn, after_write_span}
use Rattle.alloc_map.specs.Slots.{start_of}
use Rattle.alloc_map.specs.Maps.{IsMapPage}
use Rattle.lays_kept.specs.Kept.{IsClear, Scattered}
use Rattle.lays_kept.specs.Saved.{HoldsMaps, map_pieces}
use Rattle.pst_commit.specs.Commit.{Writes}

-- a span that is clear of all map pages is clear of this one
clear_map : (n r : ℕ) → r < n → (at m : ℕ) → IsClear (map_pieces n) at m → (at + m ≤ start_of (3968 * r)) ⊎ (start_of (3968 * r) + 512 ≤ at)
clear_map zero r lt at m clear = absurd (omega (arith, lt))
clear_map (suc n) r lt at m clear = ⊎_elim
    (λ (last : r ≡ n). ⊎_elim (λ before. inl (omega (arith, before, last))) (λ behind. inr (omega (arith, behind, last, length-replicate {A = ℕ} 512 0))) clear.0)
    (λ (other : r ≡ n → ⊥). clear_map n r (omega (arith, lt, other)) at m clear.1)
    (cases_eq r n)

-- one more write of a map page
pub maps_more : (n r at k : ℕ) (first : List ℕ) (old mid new : Image) → r < n → at ≡ start_of (3968 * r) → k ≡ 512 → Writes (Scattered (map_pieces n) first) old mid → TornAt Main at k mid new → Writes (Scattered (map_pieces n) first) old new
maps_more n r at k first old mid new lt place size so_far torn = record {
  file = record {
    longer = let longer = so_far.file.longer in let more = torn.torn.no_shorter in omega (arith, longer, more);
    same = λ from m within clear.
        torn_span torn.torn from m (let longer = so_far.file.longer in omega (arith, within, longer))
        (⊎_elim (λ before. inl (omega (arith, before, place))) (λ behind. inr (omega (arith, behind, place, size))) (clear_map n r lt from m clear))
        ∙ so_far.file.same from m within clear;
  };
  others = (torn.others.0 ∙ so_far.others.0, torn.others.1 ∙ so_far.others.1, torn.others.2 ∙ so_far.others.2);
}

-- one more map page stands
pub holds_map : (used : List Bool) (r at : ℕ) (mid page : List ℕ) → at ≡ start_of (3968 * r) → IsMapPage used r page → HoldsMaps used r mid → HoldsMaps used (r + 1) (after_write mid at page)
holds_map used r at mid page place is holds q lt =
    let new : List ℕ = after_write mid at page in
    let size : length page ≡ 512 = is.sealed.0 in
    ⊎_elim
    (λ (last : q ≡ r).
    let here : take 512 (drop (start_of (3968 * q)) new) ≡ page = ap (λ k. take 512 (drop (start_of (3968 * k)) new)) last ∙ ap (λ k. take 512 (drop k new)) (sym place) ∙ ap (λ k. take k (drop at new)) (sym size) ∙ after_write_span mid at page in
    subst (λ b. IsMapPage used q b) (sym here) (subst (λ k. IsMapPage used k page) (sym last) is))
    (λ (other : q ≡ r → ⊥).
    let before : q < r = omega (arith, lt, other) in
    let from : ℕ = start_of (3968 * q) in
    let was : IsMapPage used q (take 512 (drop from mid)) = holds q before in
    let whole : length (take 512 (drop from mid)) ≡ 512 = was.sealed.0 in
    let within : from + 512 ≤ length mid = omega (arith, whole, length-take 512 (drop from mid), length-drop from mid) in
    subst (IsMapPage used q) (sym (torn_span (after_write_torn mid at page) from 512 within (inl (omega (arith, before, place))))) was)
    (cases_eq q r)
