-- What the blocks of packed groups read as.
use Rattle.std.proofs.Common.{◌≡◌, ◌<◌, ◌==◌, ◌&&◌, ◌+◌, ◌-◌, ◌*◌, ◌%◌, ◌^◌, inl, inr, nat_lt, ℕ, zero, suc, true, false, List, [], ◌∷◌, ◌++◌, length, map, get_or, replicate, Some, None, slice_get, refl, sym, ap, ◌∙◌, arith}
use Rattle.std.proofs.lemmas.Bool.{cases_Bool, cases_lt, and_from, and_left, and_right, eq-eqb, eqb-true, le-ltb, lt-ltb}
use Rattle.std.proofs.lemmas.List.{get_or_past}
use Rattle.std.proofs.lemmas.Option.{get_or_from_slice_get}
use Rattle.std.specs.List.{concat}
use Rattle.byteorder.specs.Endian.{little_bytes}
use Rattle.pst_base.specs.Fields.{number_at}
use Rattle.pst_base.proofs.Numbers.{number_at-first}
use Rattle.heap_on_node.specs.Heap.{IsHeap, block_of, count_of, index_of, item, item_of, offset_of}
use Rattle.heap_on_node.specs.Layout.{block, head_rest, laid, page_map}
use Rattle.heap_on_node.specs.Packing.{IsPacked, IsPlain, PacksTight, fit_block, has_room, item_in}
use Rattle.heap_on_node.proofs.LayoutLaws.{HasMap-block, IsPlain-block, count_of-block, item_of-block, item_of-zero, items-span, length-block}
use Rattle.heap_on_node.proofs.PackingLaws.{fit_block-push, hid-parts, item_in-at, item_in-off}

pub length-laid : (from client root : ℕ) (gs : List (List (List ℕ))) → length (laid from client root gs) ≡ length gs
length-laid from client root [] = refl
length-laid from client root (g ∷ gs) = ap suc (length-laid (from + 1) client root gs)

laid-from : (from client root i : ℕ) (gs : List (List (List ℕ))) → i < length gs → get_or (laid from client root gs) i [] ≡ block (from + i) client root (get_or gs i [])
laid-from from client root i [] h = absurd (omega arith)
laid-from from client root zero (g ∷ gs) h = let e : from ≡ from + 0 = omega arith in ap (λ (k : ℕ). block k client root g) e
laid-from from client root (suc i) (g ∷ gs) h =
    let e : from + 1 + i ≡ from + suc i = omega arith in
    laid-from (from + 1) client root i gs (omega arith) ∙ ap (λ (k : ℕ). block k client root (get_or gs i [])) e

-- block i of the blocks of some groups
pub laid-at : (client root i : ℕ) (gs : List (List (List ℕ))) → i < length gs → get_or (laid 0 client root gs) i [] ≡ block i client root (get_or gs i [])
laid-at client root i gs h =
    let e : 0 + i ≡ i = omega arith in
    laid-from 0 client root i gs h ∙ ap (λ (k : ℕ). block k client root (get_or gs i [])) e

signature-block : (client root : ℕ) (xs : List (List ℕ)) → number_at 1 2 (block 0 client root xs) ≡ 0xEC
unfolding number_at block head_rest
signature-block client root xs = refl

client-block : (client root : ℕ) (xs : List (List ℕ)) → number_at 1 3 (block 0 client root xs) ≡ client
unfolding number_at block head_rest
client-block client root xs = omega arith

root-behind : (client root : ℕ) (xs : List (List ℕ)) → number_at 4 4 (block 0 client root xs)
    ≡ number_at 4 0 (little_bytes 4 root ++ (replicate 4 0 ++ (concat xs ++ (replicate (length (concat xs) % 2) 0 ++ page_map 12 (map length xs)))))
unfolding number_at block head_rest
root-behind client root xs = refl

root-block : (client root : ℕ) (xs : List (List ℕ)) → root < 2 ^ 32 → number_at 4 4 (block 0 client root xs) ≡ root
root-block client root xs fit =
    root-behind client root xs
    ∙ number_at-first 4 root (replicate 4 0 ++ (concat xs ++ (replicate (length (concat xs) % 2) 0 ++ page_map 12 (map length xs)))) fit

-- the blocks are a heap
pub IsHeap-laid : (client root : ℕ) (gs : List (List (List ℕ))) → root < 2 ^ 32 → 0 < length gs → ((k : ℕ) → k < length gs → fit_block k (get_or gs k []) ≡ true)
    → IsHeap (laid 0 client root gs) client root
IsHeap-laid client root gs small some fit =
    let first = laid-at client root 0 gs some in
    record {
      start = record {
        begins = rw first (omega (arith, length-block 0 client root (get_or gs 0 [])));
        signature = rw first (signature-block client root (get_or gs 0 []));
        maps = λ k h.
            let low : k < length gs = omega (arith, length-laid 0 client root gs) in
            rw (laid-at client root k gs low) (HasMap-block k client root (get_or gs k []) (fit k low));
      };
      client_is = rw first (client-block client root (get_or gs 0 []));
      root_is = rw first (root-block client root (get_or gs 0 []) small);
    }

item-on : (blocks : List (List ℕ)) (h : ℕ) → h % 32 ≡ 0 → block_of h < length blocks → item blocks h ≡ item_of (get_or blocks (block_of h) []) (index_of h)
unfolding item
item-on blocks h a b = rw (and_from (h % 32 == 0) (nat_lt (block_of h) (length blocks)) (eq-eqb (h % 32) 0 a) (lt-ltb (block_of h) (length blocks) b)) refl

item-off : (blocks : List (List ℕ)) (h : ℕ) → ((h % 32 == 0) && nat_lt (block_of h) (length blocks)) ≡ false → item blocks h ≡ None
unfolding item
item-off blocks h f = rw f refl

-- the item of a block against that of its group
item_of-group : (k client root i h : ℕ) (gs : List (List (List ℕ))) → fit_block k (get_or gs k []) ≡ true → h % 32 ≡ 0 → block_of h ≡ k → index_of h ≡ i
    → item_of (block k client root (get_or gs k [])) i ≡ item_in gs h
item_of-group k client root zero h gs fit a b i =
    item_of-zero (block k client root (get_or gs k []))
    ∙ sym (item_in-off gs h (and_right (h % 32 == 0) (nat_lt 0 (index_of h)) (le-ltb 0 (index_of h) (omega arith))))
item_of-group k client root (suc j) h gs fit a b i =
    let low : 0 < index_of h = omega arith in
    let e : index_of h - 1 ≡ j = omega arith in
    item_of-block k client root j (get_or gs k []) fit
    ∙ ap (λ (n : ℕ). slice_get (get_or gs n []) j) (sym b) ∙ ap (slice_get (get_or gs (block_of h) [])) (sym e) ∙ sym (item_in-at gs h a low)

-- the blocks have just the items of the groups
pub item-laid : (client root : ℕ) (gs : List (List (List ℕ))) → ((k : ℕ) → k < length gs → fit_block k (get_or gs k []) ≡ true)
    → (h : ℕ) → item (laid 0 client root gs) h ≡ item_in gs h
item-laid client root gs fit h =
    let len = length-laid 0 client root gs in
    elim (cases_Bool (h % 32 == 0)) [
      | inr f ↦ item-off (laid 0 client root gs) h (and_left (h % 32 == 0) (nat_lt (block_of h) (length (laid 0 client root gs))) f)
          ∙ sym (item_in-off gs h (and_left (h % 32 == 0) (nat_lt 0 (index_of h)) f))
      | inl t ↦
          let a = eqb-true (h % 32) 0 t in
          elim (cases_lt (block_of h) (length gs)) [
            | inl low ↦
                item-on (laid 0 client root gs) h a (omega arith)
                ∙ ap (λ (b : List ℕ). item_of b (index_of h)) (laid-at client root (block_of h) gs low)
                ∙ item_of-group (block_of h) client root (index_of h) h gs (fit (block_of h) low) a refl refl
            | inr high ↦
                item-off (laid 0 client root gs) h (and_right (h % 32 == 0) (nat_lt (block_of h) (length (laid 0 client root gs))) (le-ltb (block_of h) (length (laid 0 client root gs)) (omega arith)))
                ∙ sym (elim (cases_lt 0 (index_of h)) [
                  | inl some ↦ item_in-at gs h a some ∙ ap (λ (g : List (List ℕ)). slice_get g (index_of h - 1)) (get_or_past gs (block_of h) [] high)
                  | inr none ↦ item_in-off gs h (and_right (h % 32 == 0) (nat_lt 0 (index_of h)) (le-ltb 0 (index_of h) none))
                ])
          ]
    ]

-- each block is plain
pub plain-laid : (client root : ℕ) (gs : List (List (List ℕ))) → ((k : ℕ) → k < length gs → fit_block k (get_or gs k []) ≡ true)
    → (k : ℕ) → k < length (laid 0 client root gs) → IsPlain k (get_or (laid 0 client root gs) k [])
plain-laid client root gs fit k h =
    let low : k < length gs = omega (arith, length-laid 0 client root gs) in
    rw (laid-at client root k gs low) (IsPlain-block k client root (get_or gs k []) (fit k low))

none-some : (y : List ℕ) → None ≡ Some y → ⊥
none-some y e = cc

-- no block's first item would have fitted into the block before
pub tight-laid : (client root : ℕ) (gs : List (List (List ℕ))) → IsPacked gs → PacksTight (laid 0 client root gs)
tight-laid client root gs h k x found =
    let parts = hid-parts (k + 1) 1 (omega arith) (omega arith) in
    let hid = (k + 1) * 65536 + 32 in
    let here : slice_get (get_or gs (k + 1) []) 0 ≡ Some x =
    ap (λ (i : ℕ). slice_get (get_or gs (k + 1) []) (i - 1)) (sym parts.2)
    ∙ ap (λ (b : ℕ). slice_get (get_or gs b []) (index_of ((k + 1) * 65536 + 32) - 1)) (sym parts.1)
    ∙ sym (item_in-at gs ((k + 1) * 65536 + 32) parts.0 (omega (arith, parts.2)))
    ∙ sym (item-laid client root gs h.fit ((k + 1) * 65536 + 32)) ∙ found in
    elim (cases_lt (k + 1) (length gs)) [
      | inr past ↦ absurd (none-some x (ap (λ (g : List (List ℕ)). slice_get g 0) (sym (get_or_past gs (k + 1) [] past)) ∙ here))
      | inl within ↦
          let g = get_or gs k [] in
          let low : k < length gs = omega arith in
          let first : x ≡ get_or (get_or gs (k + 1) []) 0 [] = sym (get_or_from_slice_get (get_or gs (k + 1) []) 0 x [] here) in
          ap (λ (b : List ℕ). has_room k (count_of b + 1) (offset_of b (count_of b) - offset_of b 0 + length x)) (laid-at client root k gs low)
          ∙ ap (λ (n : ℕ). has_room k (count_of (block k client root (get_or gs k [])) + 1) (n + length x)) (items-span k client root (get_or gs k []) (h.fit k low))
          ∙ ap (λ (n : ℕ). has_room k (n + 1) (length (concat (get_or gs k [])) + length x)) (count_of-block k client root (get_or gs k []) (h.fit k low))
          ∙ ap (λ (y : List ℕ). has_room k (length (get_or gs k []) + 1) (length (concat (get_or gs k [])) + length y)) first
          ∙ sym (fit_block-push k (get_or gs k []) (get_or (get_or gs (k + 1) []) 0 [])) ∙ h.tight k within
    ]
