-- What a heap reads as when one of its blocks was laid anew, or one more was laid.
use Rattle.std.proofs.Common.{◌≡◌, ◌≢◌, ◌≤◌, ◌<◌, ◌==◌, ◌&&◌, ◌+◌, ◌*◌, ◌%◌, inl, inr, nat_lt, ℕ, suc, true, false, List, [], ◌∷◌, ◌++◌, length, get_or, Some, None, refl, sym, ap, ◌∙◌, subst, arith}
use Rattle.std.proofs.lemmas.Bool.{and_from, and_left, and_right, cases_Bool, cases_eq, cases_lt, eq-eqb, eqb-true, le-ltb, lt-ltb}
use Rattle.std.proofs.lemmas.List.{get_or_past}
use Rattle.std.proofs.lemmas.Option.{slice_get_past, slice_get-get_or}
use Rattle.heap_on_node.specs.Heap.{HasMap, IsHeap, IsStart, block_of, count_of, index_of, item, item_of}
use Rattle.heap_on_node.specs.Layout.{block}
use Rattle.heap_on_node.specs.Packing.{fit_block}
use Rattle.heap_on_node.proofs.LayoutLaws.{HasMap-block, IsPlain-block, item_of-zero}
use Rattle.heap_on_node.proofs.FinishLaws.{IsHeap-laid}
use Rattle.heap_on_node.proofs.PackingLaws.{hid-parts}
use Rattle.pst_base.specs.Fields.{number_at}
use Rattle.heap_edit.specs.Edits.{with_at}
use Rattle.heap_edit.specs.Heaps.{Adds, SetsRoot}
use Rattle.heap_edit.specs.Items.{IsLaid, items_of}
use Rattle.heap_edit.proofs.EditLaws.{get_or-with_at, get_or-with_at-other, length-with_at-end, length-with_at-in}
use Rattle.heap_edit.proofs.ItemLaws.{count-fits, item_of-items, item_of-last, item_of-nothing, item_of-others, item_of-same, items_of-nothing, length-items_of}

item-off : (blocks : List (List ℕ)) (h : ℕ) → ((h % 32 == 0) && nat_lt (block_of h) (length blocks)) ≡ false → item blocks h ≡ None
unfolding item
item-off blocks h f = rw f refl

item-on : (blocks : List (List ℕ)) (h : ℕ) → h % 32 ≡ 0 → block_of h < length blocks → item blocks h ≡ item_of (get_or blocks (block_of h) []) (index_of h)
unfolding item
item-on blocks h a b = rw (and_from (h % 32 == 0) (nat_lt (block_of h) (length blocks)) (eq-eqb (h % 32) 0 a) (lt-ltb (block_of h) (length blocks) b)) refl

-- an item is that of its block, be there such a block or not
pub item-at : (blocks : List (List ℕ)) (h : ℕ) → h % 32 ≡ 0 → item blocks h ≡ item_of (get_or blocks (block_of h) []) (index_of h)
item-at blocks h a = elim (cases_lt (block_of h) (length blocks)) [
  | inl low ↦ item-on blocks h a low
  | inr high ↦
      item-off blocks h (and_right (h % 32 == 0) (nat_lt (block_of h) (length blocks)) (le-ltb (block_of h) (length blocks) high))
      ∙ sym (ap (λ (b : List ℕ). item_of b (index_of h)) (get_or_past blocks (block_of h) [] high) ∙ item_of-nothing (index_of h))
]

pub item-none : (blocks : List (List ℕ)) (h : ℕ) → (h % 32 == 0) ≡ false → item blocks h ≡ None
item-none blocks h f = item-off blocks h (and_left (h % 32 == 0) (nat_lt (block_of h) (length blocks)) f)

pub item-zero : (blocks : List (List ℕ)) (h : ℕ) → h % 32 ≡ 0 → index_of h ≡ 0 → item blocks h ≡ None
item-zero blocks h a i = item-at blocks h a ∙ ap (item_of (get_or blocks (block_of h) [])) i ∙ item_of-zero (get_or blocks (block_of h) [])

pub item-past : (blocks : List (List ℕ)) (h : ℕ) → length blocks ≤ block_of h → item blocks h ≡ None
item-past blocks h high = item-off blocks h (and_right (h % 32 == 0) (nat_lt (block_of h) (length blocks)) (le-ltb (block_of h) (length blocks) high))

pub item-over : (blocks : List (List ℕ)) (h at : ℕ) → h % 32 ≡ 0 → index_of h ≡ at + 1 → count_of (get_or blocks (block_of h) []) ≤ at → item blocks h ≡ None
item-over blocks h at a i high =
    let next : index_of h ≡ suc at = omega arith in
    item-at blocks h a
    ∙ ap (item_of (get_or blocks (block_of h) [])) next
    ∙ item_of-items (get_or blocks (block_of h) []) at
    ∙ slice_get_past (items_of (get_or blocks (block_of h) [])) at (omega (arith, length-items_of (get_or blocks (block_of h) [])))

pub item-in : (blocks : List (List ℕ)) (h at : ℕ) → h % 32 ≡ 0 → index_of h ≡ at + 1 → at < count_of (get_or blocks (block_of h) [])
    → item blocks h ≡ Some (get_or (items_of (get_or blocks (block_of h) [])) at [])
item-in blocks h at a i low =
    let next : index_of h ≡ suc at = omega arith in
    item-at blocks h a
    ∙ ap (item_of (get_or blocks (block_of h) [])) next
    ∙ item_of-items (get_or blocks (block_of h) []) at
    ∙ slice_get-get_or (items_of (get_or blocks (block_of h) [])) at [] (omega (arith, length-items_of (get_or blocks (block_of h) [])))

hid-same : (g h i : ℕ) → g % 32 ≡ 0 → h % 32 ≡ 0 → block_of g ≡ block_of h → index_of g ≡ i → index_of h ≡ i → g ≡ h
hid-same g h i a b c d e = omega arith

-- ---- one block laid

-- the blocks with one that was laid anew, or one more, are a heap: its first block has the client and the root
laid-heap : (old : List (List ℕ)) (k c r : ℕ) (xs : List (List ℕ)) (new : List ℕ) (client was root : ℕ) → k ≤ length old → IsLaid k c r xs new → (k ≡ 0 → (c ≡ client) × (r ≡ root)) → (k ≢ 0 → was ≡ root)
    → IsHeap old client was → IsHeap (with_at old k new) client root
laid-heap old k c r xs new client was root low laid head rest h =
    let here : get_or (with_at old k new) k [] ≡ new = get_or-with_at old k new [] low in
    let maps : (j : ℕ) → j < length (with_at old k new) → HasMap (get_or (with_at old k new) j []) = λ j within. elim (cases_eq j k) [
      | inl e ↦ rw (e, here, laid.laid) (HasMap-block k c r xs laid.fit)
      | inr ne ↦
          let less : j < length old = elim (cases_lt k (length old)) [
            | inl in_old ↦ omega (arith, length-with_at-in old k new in_old)
            | inr at_end ↦ let len = length-with_at-end old k new at_end in grind arith
          ] in
          rw (get_or-with_at-other old k j new [] low ne) (h.start.maps j less)
    ] in
    elim (cases_eq 0 k) [
      | inl e ↦
          let fit : fit_block 0 xs ≡ true = ap (λ (n : ℕ). fit_block n xs) e ∙ laid.fit in
          let first = IsHeap-laid c r (xs ∷ []) laid.low (omega arith) (λ j low. let z : j ≡ 0 = omega arith in rw z fit) in
          let is : get_or (with_at old k new) 0 [] ≡ block 0 c r xs = ap (λ (n : ℕ). get_or (with_at old k new) n []) e ∙ here ∙ laid.laid ∙ ap (λ (n : ℕ). block n c r xs) (sym e) in
          record {
            start = record { begins = rw is first.start.begins; signature = rw is first.start.signature; maps = maps };
            client_is = rw is (first.client_is ∙ (head (sym e)).0);
            root_is = rw is (first.root_is ∙ (head (sym e)).1);
          }
      | inr ne ↦
          let is : get_or (with_at old k new) 0 [] ≡ get_or old 0 [] = get_or-with_at-other old k 0 new [] low ne in
          record {
            start = record { begins = rw is h.start.begins; signature = rw is h.start.signature; maps = maps };
            client_is = rw is h.client_is;
            root_is = rw is (h.root_is ∙ rest (λ e. ne (sym e)));
          }
    ]

-- the items of the other blocks are as before
other-block : (old : List (List ℕ)) (k h : ℕ) (new : List ℕ) → k ≤ length old → h % 32 ≡ 0 → block_of h ≢ k → item (with_at old k new) h ≡ item old h
other-block old k h new low a ne =
    item-at (with_at old k new) h a ∙ ap (λ (n : List ℕ). item_of n (index_of h)) (get_or-with_at-other old k (block_of h) new [] low ne) ∙ sym (item-at old h a)

-- the items of the block are those that it was laid of
this-block : (old : List (List ℕ)) (k h : ℕ) (new : List ℕ) → k ≤ length old → h % 32 ≡ 0 → block_of h ≡ k → item_of new (index_of h) ≡ item_of (get_or old k []) (index_of h) → item (with_at old k new) h ≡ item old h
this-block old k h new low a e same =
    item-at (with_at old k new) h a
    ∙ ap (λ (n : ℕ). item_of (get_or (with_at old k new) n []) (index_of h)) e
    ∙ ap (λ (n : List ℕ). item_of n (index_of h)) (get_or-with_at old k new [] low)
    ∙ same ∙ ap (λ (n : ℕ). item_of (get_or old n []) (index_of h)) (sym e) ∙ sym (item-at old h a)

-- ---- an item is added

-- the blocks with one that has x behind its items
pub adds-item : (old : List (List ℕ)) (k c r : ℕ) (x new : List ℕ) → k ≤ length old → IsLaid k c r (items_of (get_or old k []) ++ x ∷ []) new
    → (k ≡ 0 → (c ≡ number_at 1 3 (get_or old k [])) × (r ≡ number_at 4 4 (get_or old k []))) → Adds old (k * 65536 + (count_of (get_or old k []) + 1) * 32) x (with_at old k new)
adds-item old k c r x new low laid head =
    let few = count-fits k (get_or old k []) x laid.fit in
    let parts = hid-parts k (count_of (get_or old k []) + 1) (omega arith) (omega arith) in
    let here : get_or (with_at old k new) k [] ≡ new = get_or-with_at old k new [] low in
    let next : index_of (k * 65536 + (count_of (get_or old k []) + 1) * 32) ≡ suc (count_of (get_or old k [])) = omega (arith, parts.2) in
    record {
      free = item-over old (k * 65536 + (count_of (get_or old k []) + 1) * 32) (count_of (get_or old k [])) parts.0 parts.2 (omega (arith, ap (λ (n : ℕ). count_of (get_or old n [])) parts.1));
      here =
          item-at (with_at old k new) (k * 65536 + (count_of (get_or old k []) + 1) * 32) parts.0
          ∙ ap (λ (n : ℕ). item_of (get_or (with_at old k new) n []) (index_of (k * 65536 + (count_of (get_or old k []) + 1) * 32))) parts.1
          ∙ ap (λ (n : List ℕ). item_of n (index_of (k * 65536 + (count_of (get_or old k []) + 1) * 32))) (here ∙ laid.laid)
          ∙ ap (item_of (block k c r (items_of (get_or old k []) ++ x ∷ []))) next
          ∙ item_of-last k c r (get_or old k []) x laid.fit;
      others = λ h other. elim (cases_Bool (h % 32 == 0)) [
        | inr f ↦ item-none (with_at old k new) h f ∙ sym (item-none old h f)
        | inl t ↦
            let a : h % 32 ≡ 0 = eqb-true (h % 32) 0 t in
            elim (cases_eq (block_of h) k) [
              | inl e ↦
                  this-block old k h new low a e
                  (ap (λ (n : List ℕ). item_of n (index_of h)) laid.laid
                  ∙ item_of-others k c r (index_of h) (get_or old k []) x laid.fit
                  (λ same. other (hid-same h (k * 65536 + (count_of (get_or old k []) + 1) * 32) (suc (count_of (get_or old k []))) a parts.0 (e ∙ sym parts.1) same next)))
              | inr ne ↦ other-block old k h new low a ne
            ]
      ];
      kind = parts.0;
      some = λ e. absurd (omega arith);
      heap = λ client root h. laid-heap old k c r (items_of (get_or old k []) ++ x ∷ []) new client root root low laid
          (λ e. (
            (head e).0 ∙ ap (λ (n : ℕ). number_at 1 3 (get_or old n [])) e ∙ h.client_is,
            (head e).1 ∙ ap (λ (n : ℕ). number_at 4 4 (get_or old n [])) e ∙ h.root_is,
          )) (λ ne. refl) h;
      within = omega (arith, parts.1);
      blocks = ap (with_at old k) (sym here) ∙ ap (λ (n : ℕ). with_at old n (get_or (with_at old k new) n [])) (sym parts.1);
      count = elim (cases_lt k (length old)) [
        | inl in_old ↦ omega (arith, length-with_at-in old k new in_old)
        | inr at_end ↦ omega (arith, length-with_at-end old k new at_end)
      ];
      plain = rw (parts.1, here, laid.laid) (IsPlain-block k c r (items_of (get_or old k []) ++ x ∷ []) laid.fit);
    }

-- b is the block there
pub adds-to : (old : List (List ℕ)) (k c r hid : ℕ) (b x new : List ℕ) → b ≡ get_or old k [] → k ≤ length old → IsLaid k c r (items_of b ++ x ∷ []) new
    → (k ≡ 0 → (c ≡ number_at 1 3 b) × (r ≡ number_at 4 4 b)) → hid ≡ k * 65536 + (count_of b + 1) * 32 → Adds old hid x (with_at old k new)
adds-to old k c r hid b x new e low laid head is =
    let P : List ℕ → Type 0 = λ n. IsLaid k c r (items_of n ++ x ∷ []) new → (k ≡ 0 → (c ≡ number_at 1 3 n) × (r ≡ number_at 4 4 n)) → hid ≡ k * 65536 + (count_of n + 1) * 32 → Adds old hid x (with_at old k new) in
    subst P (sym e) (λ l h i. subst (λ (n : ℕ). Adds old n x (with_at old k new)) (sym i) (adds-item old k c r x new low l h)) laid head is

-- and none is there behind all
pub adds-new : (old : List (List ℕ)) (k hid : ℕ) (x new : List ℕ) → k ≡ length old → 0 < k → IsLaid k 0 0 (x ∷ []) new → hid ≡ k * 65536 + 32 → Adds old hid x (with_at old k new)
adds-new old k hid x new end later laid is =
    let none = length-items_of [] in
    let zero_items : count_of [] ≡ 0 = sym none ∙ ap length items_of-nothing in
    adds-to old k 0 0 hid [] x new (sym (get_or_past old k [] (omega arith))) (omega arith)
    (subst (λ (is : List (List ℕ)). IsLaid k 0 0 (is ++ x ∷ []) new) (sym items_of-nothing) laid)
    (λ e. absurd (omega arith)) (omega (arith, zero_items))

-- ---- the root is set

pub sets-root : (old : List (List ℕ)) (c root : ℕ) (b new : List ℕ) → 0 < length old → b ≡ get_or old 0 [] → c ≡ number_at 1 3 b → IsLaid 0 c root (items_of b) new → SetsRoot old root (with_at old 0 new)
sets-root old c root b new low e client laid =
    let here : get_or (with_at old 0 new) 0 [] ≡ new = get_or-with_at old 0 new [] (omega arith) in
    record {
      items = λ h. elim (cases_Bool (h % 32 == 0)) [
        | inr f ↦ item-none (with_at old 0 new) h f ∙ sym (item-none old h f)
        | inl t ↦
            let a : h % 32 ≡ 0 = eqb-true (h % 32) 0 t in
            elim (cases_eq (block_of h) 0) [
              | inl z ↦
                  this-block old 0 h new (omega arith) a z
                  (ap (λ (n : List ℕ). item_of n (index_of h)) laid.laid ∙ item_of-same 0 c root (index_of h) b laid.fit ∙ ap (λ (n : List ℕ). item_of n (index_of h)) e)
              | inr ne ↦ other-block old 0 h new (omega arith) a ne
            ]
      ];
      heap = λ of was h. laid-heap old 0 c root (items_of b) new of was root (omega arith) laid (λ _. (client ∙ ap (number_at 1 3) e ∙ h.client_is, refl)) (λ ne. absurd (ne refl)) h;
      blocks = ap (with_at old 0) (sym here);
      count = length-with_at-in old 0 new low;
      plain = rw (here, laid.laid) (IsPlain-block 0 c root (items_of b) laid.fit);
    }

-- ---- blocks that begin as a heap does

pub start-some : (old : List (List ℕ)) → IsStart old → 0 < length old
start-some [] h = absurd (let b : 12 ≤ length (get_or {A = List ℕ} [] 0 []) = h.begins in omega arith)
start-some (b ∷ bs) h = omega arith

-- they are a heap of some client, with some root
pub start-heap : (old : List (List ℕ)) → IsStart old → IsHeap old (number_at 1 3 (get_or old 0 [])) (number_at 4 4 (get_or old 0 []))
start-heap old h = record { start = h; client_is = refl; root_is = refl }

pub adds-start : (old : List (List ℕ)) (hid : ℕ) (x : List ℕ) (new : List (List ℕ)) → IsStart old → Adds old hid x new → IsStart new
adds-start old hid x new h a = (a.heap (number_at 1 3 (get_or old 0 [])) (number_at 4 4 (get_or old 0 [])) (start-heap old h)).start
