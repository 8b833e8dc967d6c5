-- The items of a block as a list, and a block that is laid of items.
use Rattle.std.proofs.Common.{◌≡◌, ◌≢◌, ◌≤◌, ◌<◌, ◌&&◌, ◌+◌, ◌-◌, inl, inr, nat_lt, nat_le, ℕ, zero, suc, true, false, List, [], ◌∷◌, ◌++◌, length, length-append, get_or, take, None, Some, slice_get, slice_range, refl, sym, ap, ◌∙◌, arith}
use Rattle.std.proofs.lemmas.Bool.{and_from, and_right, cases_lt, false_from_ne_true, le-leb, lt-leb, lt-ltb}
use Rattle.std.proofs.lemmas.List.{nil_from_length, take_all, take_more}
use Rattle.std.proofs.lemmas.Option.{slice_get_past, slice_get-get_or}
use Rattle.heap_on_node.specs.Heap.{count_of, item_of, map_of, offset_of}
use Rattle.heap_on_node.specs.Layout.{block}
use Rattle.heap_on_node.specs.Packing.{fit_block, has_room}
use Rattle.heap_on_node.proofs.LayoutLaws.{item_of-block, item_of-zero}
use Rattle.heap_on_node.proofs.PackingLaws.{room-parts}
use Rattle.pst_base.specs.Fields.{number_at}
use Rattle.heap_edit.specs.Items.{items_from, items_of}

length-items_from : (b : List ℕ) (i n : ℕ) → length (items_from b i n) ≡ n
length-items_from b i zero = refl
length-items_from b i (suc n) = ap suc (length-items_from b (suc i) n)

get_or-items_from : (b : List ℕ) (i n j : ℕ) → j < n → get_or (items_from b i n) j [] ≡ slice_range b (offset_of b (i + j)) (offset_of b (suc (i + j)))
get_or-items_from b i zero j h = absurd (omega arith)
get_or-items_from b i (suc n) zero h = let e : i ≡ i + 0 = omega arith in ap (λ (m : ℕ). slice_range b (offset_of b m) (offset_of b (suc m))) e
get_or-items_from b i (suc n) (suc j) h =
    let e : suc i + j ≡ i + suc j = omega arith in
    get_or-items_from b (suc i) n j (omega arith) ∙ ap (λ (m : ℕ). slice_range b (offset_of b m) (offset_of b (suc m))) e

pub length-items_of : (b : List ℕ) → length (items_of b) ≡ count_of b
unfolding items_of
length-items_of b = length-items_from b 0 (count_of b)

pub get_or-items_of : (b : List ℕ) (j : ℕ) → j < count_of b → get_or (items_of b) j [] ≡ slice_range b (offset_of b j) (offset_of b (j + 1))
unfolding items_of
get_or-items_of b j h =
    let e : 0 + j ≡ j = omega arith in
    let one : suc j ≡ j + 1 = omega arith in
    get_or-items_from b 0 (count_of b) j h
    ∙ ap (λ (m : ℕ). slice_range b (offset_of b m) (offset_of b (suc m))) e ∙ ap (λ (m : ℕ). slice_range b (offset_of b j) (offset_of b m)) one

-- an item of a block is one of the list
pub item_of-items : (b : List ℕ) (j : ℕ) → item_of b (suc j) ≡ slice_get (items_of b) j
unfolding item_of
item_of-items b j =
    let len = length-items_of b in
    elim (cases_lt j (count_of b)) [
      | inl low ↦
          let t : (nat_lt 0 (suc j) && nat_le (suc j) (count_of b)) ≡ true =
          and_from (nat_lt 0 (suc j)) (nat_le (suc j) (count_of b)) (lt-ltb 0 (suc j) (omega arith)) (le-leb (suc j) (count_of b) (omega arith)) in
          let less : suc j - 1 ≡ j = omega arith in
          let one : j + 1 ≡ suc j = omega arith in
          rw (t, less)
          (sym (slice_get-get_or (items_of b) j [] (omega arith)
          ∙ ap Some (get_or-items_of b j low ∙ ap (λ (m : ℕ). slice_range b (offset_of b j) (offset_of b m)) one)))
      | inr high ↦
          let f : (nat_lt 0 (suc j) && nat_le (suc j) (count_of b)) ≡ false =
          and_right (nat_lt 0 (suc j)) (nat_le (suc j) (count_of b)) (lt-leb (suc j) (count_of b) (omega arith)) in
          rw f (sym (slice_get_past (items_of b) j (omega arith)))
    ]

-- the first j items of a block and the next are the first j + 1
pub take-next : (b : List ℕ) (j : ℕ) (x : List ℕ) → j < count_of b → x ≡ get_or (items_of b) j [] → take j (items_of b) ++ x ∷ [] ≡ take (j + 1) (items_of b)
take-next b j x low is = ap (λ (y : List ℕ). take j (items_of b) ++ y ∷ []) is ∙ sym (take_more (items_of b) j [] (omega (arith, length-items_of b)))

pub take-items : (b : List ℕ) (n : ℕ) → count_of b ≤ n → take n (items_of b) ≡ items_of b
take-items b n high = take_all n (items_of b) (omega (arith, length-items_of b))

-- no bytes have no items
count_of-nothing : count_of [] ≡ 0
unfolding count_of map_of number_at
count_of-nothing = refl

pub items_of-nothing : items_of [] ≡ []
items_of-nothing = nil_from_length (items_of []) (length-items_of [] ∙ count_of-nothing)

pub item_of-nothing : (i : ℕ) → item_of [] i ≡ None
item_of-nothing zero = item_of-zero []
item_of-nothing (suc i) = item_of-items [] i ∙ slice_get_past (items_of []) i (omega (arith, length-items_of [], count_of-nothing))

-- ---- one item more

slice_get-push : (xs : List (List ℕ)) (x : List ℕ) (j : ℕ) → j ≢ length xs → slice_get (xs ++ x ∷ []) j ≡ slice_get xs j
slice_get-push [] x zero ne = absurd (ne refl)
slice_get-push [] x (suc j) ne = refl
slice_get-push (y ∷ ys) x zero ne = refl
slice_get-push (y ∷ ys) x (suc j) ne = slice_get-push ys x j (λ e. ne (ap suc e))

slice_get-last : (xs : List (List ℕ)) (x : List ℕ) → slice_get (xs ++ x ∷ []) (length xs) ≡ Some x
slice_get-last [] x = refl
slice_get-last (y ∷ ys) x = slice_get-last ys x

-- a block that is laid of the items of another reads as that one
pub item_of-same : (k client root i : ℕ) (b : List ℕ) → fit_block k (items_of b) ≡ true → item_of (block k client root (items_of b)) i ≡ item_of b i
item_of-same k client root zero b fit = item_of-zero (block k client root (items_of b)) ∙ sym (item_of-zero b)
item_of-same k client root (suc j) b fit = item_of-block k client root j (items_of b) fit ∙ sym (item_of-items b j)

-- with one item more, at each other place
pub item_of-others : (k client root i : ℕ) (b x : List ℕ) → fit_block k (items_of b ++ x ∷ []) ≡ true → i ≢ suc (count_of b) → item_of (block k client root (items_of b ++ x ∷ [])) i ≡ item_of b i
item_of-others k client root zero b x fit ne = item_of-zero (block k client root (items_of b ++ x ∷ [])) ∙ sym (item_of-zero b)
item_of-others k client root (suc j) b x fit ne =
    item_of-block k client root j (items_of b ++ x ∷ []) fit
    ∙ slice_get-push (items_of b) x j (λ e. ne (ap suc (e ∙ length-items_of b))) ∙ sym (item_of-items b j)

-- and at its own
pub item_of-last : (k client root : ℕ) (b x : List ℕ) → fit_block k (items_of b ++ x ∷ []) ≡ true → item_of (block k client root (items_of b ++ x ∷ [])) (suc (count_of b)) ≡ Some x
item_of-last k client root b x fit =
    item_of-block k client root (count_of b) (items_of b ++ x ∷ []) fit
    ∙ ap (slice_get (items_of b ++ x ∷ [])) (sym (length-items_of b)) ∙ slice_get-last (items_of b) x

-- where it has room, its place can be named
pub count-fits : (k : ℕ) (b x : List ℕ) → fit_block k (items_of b ++ x ∷ []) ≡ true → count_of b < 2047
count-fits k b x fit =
    let room = room-parts k (length (items_of b ++ x ∷ [])) _ fit in
    omega (arith, room.0, length-append (items_of b) (x ∷ []), length-items_of b)

-- items don't fit where they are too many or too long
pub full-by_count : (k count n : ℕ) → 2047 < count → has_room k count n ≡ false
full-by_count k count n h = false_from_ne_true (has_room k count n) (λ e. let p = room-parts k count n e in omega arith)

pub full-by_size : (k count n : ℕ) → 8176 < n → has_room k count n ≡ false
full-by_size k count n h = false_from_ne_true (has_room k count n) (λ e. let p = room-parts k count n e in omega (arith, p.1))
