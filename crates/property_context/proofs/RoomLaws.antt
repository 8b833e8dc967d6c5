-- How many blocks the heap of a writer has: none but the last holds fewer than two items.
use Rattle.std.proofs.Common.{◌≡◌, ◌&&◌, ℕ, zero, suc, ◌+◌, ◌-◌, ◌*◌, ◌/◌, ◌%◌, ◌<◌, ◌≤◌, ◌==◌, true, List, [], ◌∷◌, ◌++◌, length, get_or, Some, None, slice_get, refl, sym, ap, ◌∙◌, inl, inr, arith}
use Rattle.std.specs.Prelude.{nat_le, nat_lt}
use Rattle.std.specs.List.{list_any}
use Rattle.std.proofs.lemmas.Bool.{and_from, cases_Bool, cases_lt, le-leb}
use Rattle.std.proofs.lemmas.List.{append-nil}
use Rattle.std.proofs.lemmas.Map.Steps.{le-length_from_below}
use Rattle.std.proofs.lemmas.Option.{slice_get-get_or}
use Rattle.heap_on_node.specs.Heap.{block_of, index_of}
use Rattle.heap_on_node.specs.Packing.{IsPacked, fit_block, has_room, head_size, item_in}
use Rattle.heap_on_node.proofs.PackingLaws.{fit_block-push, head-bounds, hid-parts, item_in-at}
use Rattle.bth_tree.specs.Making.{AreRecords}
use Rattle.bth_tree.specs.Records.{within}
use Rattle.bth_tree.proofs.OptionLaws.{none-some}
use Rattle.bth_tree.proofs.WholeLaws.{first-within}
use Rattle.property_context.specs.Writing.{Holds, slot_of}

-- the item at a place of a group
item-at : (heap : List (List (List ℕ))) (k i : ℕ) → i < length (get_or heap k []) → i < 2047 → item_in heap (k * 65536 + (i + 1) * 32) ≡ Some (get_or (get_or heap k []) i [])
item-at heap k i within small =
    let hid = hid-parts k (i + 1) (omega arith) (omega arith) in
    let place : index_of (k * 65536 + (i + 1) * 32) - 1 ≡ i = omega (arith, hid.2) in
    item_in-at heap (k * 65536 + (i + 1) * 32) hid.0 (omega (arith, hid.2))
    ∙ ap (λ (b : ℕ). slice_get (get_or heap b []) (index_of (k * 65536 + (i + 1) * 32) - 1)) hid.1
    ∙ ap (slice_get (get_or heap k [])) place
    ∙ slice_get-get_or (get_or heap k []) i [] within

-- a block has room for two items
room-two : (k count n : ℕ) → count ≤ 2 → n ≤ 7160 → has_room k count n ≡ true
room-two k count n few h =
    let head = head-bounds k in
    let high = head.1 in
    and_from (nat_le count 2047) (nat_le (head_size k + n + n % 2 + 6 + 2 * count) 8176) (le-leb count 2047 (omega arith)) (le-leb (head_size k + n + n % 2 + 6 + 2 * count) 8176 (omega arith))

few-fit : (k : ℕ) (g : List (List ℕ)) (x : List ℕ) → length x ≤ 3580 → ((i : ℕ) → i < length g → length (get_or g i []) ≤ 3580) → length g < 2 → fit_block k (g ++ x ∷ []) ≡ true
few-fit k [] x len each few = fit_block-push k [] x ∙ room-two k (0 + 1) (0 + length x) (omega arith) (omega arith)
few-fit k (y ∷ []) x len each few =
    let first : length y ≤ 3580 = each 0 (omega arith) in
    fit_block-push k (y ∷ []) x ∙ room-two k (1 + 1) (length (y ++ []) + length x) (omega arith) (omega (arith, ap length (append-nil y)))
few-fit k (y ∷ (z ∷ g)) x len each few = absurd (omega arith)

-- a block behind which another stands holds two items
two-items : (heap : List (List (List ℕ))) (n k : ℕ) → IsPacked heap → Holds heap n → k + 1 < length heap → 2 ≤ length (get_or heap k [])
two-items heap n k p h within = elim (cases_lt (length (get_or heap k [])) 2) [
  | inl few ↦
      let next = p.filled (k + 1) (omega arith) within in
      let x = (h.each ((k + 1) * 65536 + (0 + 1) * 32) (get_or (get_or heap (k + 1) []) 0 []) (item-at heap (k + 1) 0 next (omega arith))).0 in
      let fit = few-fit k (get_or heap k []) (get_or (get_or heap (k + 1) []) 0 []) x
      (λ i lt. (h.each (k * 65536 + (i + 1) * 32) (get_or (get_or heap k []) i []) (item-at heap k i lt (omega arith))).0) few in
      absurd (cc (fit, p.tight k within))
  | inr two ↦ two
]

-- so there are at most half as many blocks as items, and one more
pub two-a_block : (heap : List (List (List ℕ))) (n : ℕ) → IsPacked heap → Holds heap n → 2 * length heap ≤ n + 2
two-a_block heap n p h = elim (cases_lt (length heap) 2) [
  | inl one ↦ omega arith
  | inr more ↦
      let count = le-length_from_below h.slots (2 * (length heap - 1)) (λ q low.
      let two = two-items heap n (q / 2) p h (omega arith) in
      let hid = hid-parts (q / 2) (q % 2 + 1) (omega arith) (omega arith) in
      let slot : slot_of (q / 2 * 65536 + (q % 2 + 1) * 32) ≡ q = omega (arith, hid.1, hid.2) in
      let has = (h.each (q / 2 * 65536 + (q % 2 + 1) * 32) (get_or (get_or heap (q / 2) []) (q % 2) []) (item-at heap (q / 2) (q % 2) (omega arith) (omega arith))).1 in
      ap (λ (s : ℕ). list_any (λ m. s == m) h.slots) (sym slot) ∙ has) in
      omega (arith, count, h.few)
]

no-group : (n : ℕ) → get_or {A = List (List ℕ)} ([] ∷ []) n [] ≡ []
no-group zero = refl
no-group (suc n) = refl

none-at : (hid : ℕ) → item_in ([] ∷ []) hid ≡ None
unfolding item_in
none-at hid = elim (cases_Bool ((hid % 32 == 0) && nat_lt 0 (index_of hid))) [
  | inl t ↦ rw t (ap (λ (g : List (List ℕ)). slice_get g (index_of hid - 1)) (no-group (block_of hid)))
  | inr f ↦ rw f refl
]

-- an empty heap holds nothing
pub holds-none : Holds ([] ∷ []) 0
holds-none = record { slots = []; few = omega arith; each = λ hid x e. absurd (none-some x (sym (none-at hid) ∙ e)) }

-- keys of two bytes that ascend are at most 65,536
pub few-records : (low high : ℕ) (rs : List (ℕ × List ℕ)) → low ≤ 65536 → AreRecords 2 6 rs → within low high rs ≡ true → low + length rs ≤ 65536
few-records low high [] le are h = omega arith
few-records low high (r ∷ rs) le are h =
    let f = first-within low high r rs h in
    omega (arith, f.0, are.0, few-records (suc r.0) high rs (omega (arith, are.0)) are.2 f.2)
