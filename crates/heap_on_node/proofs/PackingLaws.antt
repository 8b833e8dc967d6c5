-- Groups of items with one more item.
use Rattle.std.proofs.Common.{◌≡◌, ◌≤◌, ◌<◌, ◌==◌, ◌&&◌, ◌+◌, ◌-◌, ◌*◌, ◌%◌, inl, inr, nat_lt, nat_le, ℕ, zero, suc, true, false, List, [], ◌∷◌, ◌++◌, length, get_or, Some, None, slice_get, refl, sym, ap, ◌∙◌, subst, length-append, arith}
use Rattle.std.proofs.lemmas.Bool.{cases_Bool, cases_eq, cases_lt, and_parts, and_from, leb-true, le-leb, lt-ltb, eq-eqb, eqb-true, ltb-true}
use Rattle.std.proofs.lemmas.List.{append-nil, get_or_append_left, get_or_push, get_or_past, length_push}
use Rattle.std.proofs.lemmas.Option.{slice_get_past, slice_get-get_or}
use Rattle.std.specs.List.{concat}
use Rattle.heap_on_node.specs.Heap.{block_of, index_of}
use Rattle.heap_on_node.specs.Packing.{Adds, IsPacked, fit_block, halves, has_half, has_room, head_size, item_in}
use Rattle.heap_on_node.proofs.DraftLaws.{concat-append}
use Rattle.heap_on_node.proofs.SpreadLaws.{half-in_last, halves-push, spent-in_last, spent-in_new}

slice_get-push : (xs : List (List ℕ)) (x : List ℕ) (j : ℕ) → (j ≡ length xs → ⊥) → slice_get (xs ++ x ∷ []) j ≡ slice_get xs j
slice_get-push [] x zero h = absurd (h refl)
slice_get-push [] x (suc j) h = refl
slice_get-push (y ∷ ys) x zero h = refl
slice_get-push (y ∷ ys) x (suc j) h = slice_get-push ys x j (λ e. h (ap suc e))

-- the room of one more item
pub fit_block-push : (k : ℕ) (xs : List (List ℕ)) (x : List ℕ) → fit_block k (xs ++ x ∷ []) ≡ has_room k (length xs + 1) (length (concat xs) + length x)
fit_block-push k xs x =
    let items : length (xs ++ x ∷ []) ≡ length xs + 1 = length_push xs x in
    let bytes : length (concat (xs ++ x ∷ [])) ≡ length (concat xs) + length x =
    ap length (concat-append xs (x ∷ [])) ∙ length-append (concat xs) (x ++ []) ∙ ap (λ (y : List ℕ). length (concat xs) + length y) (append-nil x) in
    ap (λ (n : ℕ). has_room k n (length (concat (xs ++ x ∷ [])))) items ∙ ap (λ (n : ℕ). has_room k (length xs + 1) n) bytes

-- what room means
pub room-parts : (k count n : ℕ) → has_room k count n ≡ true → (count ≤ 2047) × (head_size k + n + n % 2 + 6 + 2 * count ≤ 8176)
room-parts k count n h =
    let both = and_parts (nat_le count 2047) (nat_le (head_size k + n + n % 2 + 6 + 2 * count) 8176) h in
    (leb-true count 2047 both.0, leb-true (head_size k + n + n % 2 + 6 + 2 * count) 8176 both.1)

pub head-bounds : (k : ℕ) → (2 ≤ head_size k) × (head_size k ≤ 66) × (head_size k % 2 ≡ 0)
head-bounds k = elim (cases_Bool (k == 0)) [
  | inl t ↦ rw t (omega arith, omega arith, refl)
  | inr f ↦ elim (cases_Bool (k % 128 == 8)) [
    | inl t1 ↦ rw (f, t1) (omega arith, omega arith, refl)
    | inr f1 ↦ rw (f, f1) (omega arith, omega arith, refl)
  ]
]

-- room is what its two limits say
pub room-from : (k count n : ℕ) → count ≤ 2047 → head_size k + n + n % 2 + 6 + 2 * count ≤ 8176 → has_room k count n ≡ true
room-from k count n a b =
    and_from (nat_le count 2047) (nat_le (head_size k + n + n % 2 + 6 + 2 * count) 8176) (le-leb count 2047 a) (le-leb (head_size k + n + n % 2 + 6 + 2 * count) 8176 b)

-- a block has room for one item
room-alone : (k n : ℕ) → n ≤ 3580 → has_room k 1 n ≡ true
room-alone k n h =
    let head = head-bounds k in
    let high = head.1 in
    and_from (nat_le 1 2047) (nat_le (head_size k + n + n % 2 + 6 + 2 * 1) 8176) refl (le-leb (head_size k + n + n % 2 + 6 + 2 * 1) 8176 (omega arith))

same-below : (F : List (List (List ℕ))) (A B : List (List ℕ)) (k : ℕ) → k < length F → get_or (F ++ A ∷ []) k [] ≡ get_or (F ++ B ∷ []) k []
same-below F A B k h = get_or_append_left F (A ∷ []) [] k h ∙ sym (get_or_append_left F (B ∷ []) [] k h)

-- one more item in the last group
pub packed-in_last : (F : List (List (List ℕ))) (L : List (List ℕ)) (x : List ℕ) → IsPacked (F ++ L ∷ [])
    → has_room (length F) (length L + 1) (length (concat L) + length x) ≡ true → IsPacked (F ++ (L ++ x ∷ []) ∷ [])
packed-in_last F L x h room = record {
  fit = λ k within. elim (cases_lt k (length F)) [
    | inl low ↦ rw (same-below F (L ++ x ∷ []) L k low) (h.fit k (omega (arith, length_push F L)))
    | inr high ↦
        let e : length F ≡ k = omega (arith, length_push F (L ++ x ∷ []), high, within) in
        rw (get_or_push F (L ++ x ∷ []) [] k e) (ap (λ (i : ℕ). fit_block i (L ++ x ∷ [])) (sym e) ∙ fit_block-push (length F) L x ∙ room)
  ];
  filled = λ k low within. elim (cases_lt k (length F)) [
    | inl l ↦ rw (same-below F (L ++ x ∷ []) L k l) (h.filled k low (omega (arith, length_push F L)))
    | inr high ↦
        let e : length F ≡ k = omega (arith, length_push F (L ++ x ∷ []), high, within) in
        rw (get_or_push F (L ++ x ∷ []) [] k e) (omega (arith, length_push L x))
  ];
  tight = λ k within.
      let low : k < length F = omega (arith, length_push F (L ++ x ∷ []), within) in
      let old = h.tight k (omega (arith, length_push F L)) in
      elim (cases_lt (k + 1) (length F)) [
        | inl l ↦ rw (same-below F (L ++ x ∷ []) L k low, same-below F (L ++ x ∷ []) L (k + 1) l) old
        | inr high ↦
            let e : length F ≡ k + 1 = omega arith in
            let some : 0 < length (get_or (F ++ L ∷ []) (k + 1) []) = h.filled (k + 1) (omega arith) (omega (arith, length_push F L)) in
            let last : get_or (F ++ L ∷ []) (k + 1) [] ≡ L = get_or_push F L [] (k + 1) e in
            let first : get_or (L ++ x ∷ []) 0 [] ≡ get_or L 0 [] = get_or_append_left L (x ∷ []) [] 0 (subst (λ (g : List (List ℕ)). 0 < length g) last some) in
            rw (same-below F (L ++ x ∷ []) L k low, get_or_push F (L ++ x ∷ []) [] (k + 1) e, first) (rw last at old)
      ];
}

-- an item that the last group has no room for, in a new group
pub packed-in_new : (F : List (List (List ℕ))) (L : List (List ℕ)) (x : List ℕ) → IsPacked (F ++ L ∷ []) → length x ≤ 3580
    → has_room (length F) (length L + 1) (length (concat L) + length x) ≡ false → IsPacked ((F ++ L ∷ []) ++ (x ∷ []) ∷ [])
packed-in_new F L x h size full =
    let G = F ++ L ∷ [] in
    let count : length (F ++ L ∷ []) ≡ length F + 1 = length_push F L in
    let all : length ((F ++ L ∷ []) ++ (x ∷ []) ∷ []) ≡ length (F ++ L ∷ []) + 1 = length_push (F ++ L ∷ []) (x ∷ []) in
    let alone : (k : ℕ) → fit_block k (x ∷ []) ≡ true = λ k. ap (λ (n : ℕ). has_room k 1 n) (ap length (append-nil x)) ∙ room-alone k (length x) size in
    record {
      fit = λ k within. elim (cases_lt k (length (F ++ L ∷ []))) [
        | inl low ↦ rw (get_or_append_left (F ++ L ∷ []) ((x ∷ []) ∷ []) [] k low) (h.fit k low)
        | inr high ↦ rw (get_or_push (F ++ L ∷ []) (x ∷ []) [] k (omega arith)) (alone k)
      ];
      filled = λ k low within. elim (cases_lt k (length (F ++ L ∷ []))) [
        | inl l ↦ rw (get_or_append_left (F ++ L ∷ []) ((x ∷ []) ∷ []) [] k l) (h.filled k low l)
        | inr high ↦ rw (get_or_push (F ++ L ∷ []) (x ∷ []) [] k (omega arith)) (omega arith)
      ];
      tight = λ k within.
          let low : k < length (F ++ L ∷ []) = omega arith in
          elim (cases_lt (k + 1) (length (F ++ L ∷ []))) [
            | inl l ↦ rw (get_or_append_left (F ++ L ∷ []) ((x ∷ []) ∷ []) [] k low, get_or_append_left (F ++ L ∷ []) ((x ∷ []) ∷ []) [] (k + 1) l) (h.tight k l)
            | inr high ↦
                let e : length F ≡ k = omega arith in
                rw (get_or_append_left (F ++ L ∷ []) ((x ∷ []) ∷ []) [] k low, get_or_push F L [] k e, get_or_push (F ++ L ∷ []) (x ∷ []) [] (k + 1) (omega arith))
                (ap (λ (i : ℕ). fit_block i (L ++ x ∷ [])) (sym e) ∙ fit_block-push (length F) L x ∙ full)
          ];
    }

half-alone : (k : ℕ) (x : List ℕ) → length x ≤ 3580 → has_half k (x ∷ []) ≡ true
half-alone k x size =
    let head = head-bounds k in
    let high = head.1 in
    room-from k (1 + 1) (length (x ++ []) + 3580) (omega arith) (omega (arith, ap length (append-nil x)))

-- where an item has no room, none of 3580 bytes has
no-half : (k count n size : ℕ) → size ≤ 3580 → has_room k count (n + size) ≡ false → has_room k count (n + 3580) ≡ false
no-half k count n size le full = elim (cases_Bool (has_room k count (n + 3580))) [
  | inr f ↦ f
  | inl t ↦
      let parts = room-parts k count (n + 3580) t in
      let low = parts.1 in
      absurd (true-false (sym (room-from k count (n + size) parts.0 (omega arith)) ∙ full))
]
  where
    true-false : true ≡ false → ⊥
    true-false e = cc

-- an item that begins a block takes half a block
pub half-in_new : (F : List (List (List ℕ))) (L : List (List ℕ)) (x : List ℕ) → length x ≤ 3580 → has_room (length F) (length L + 1) (length (concat L) + length x) ≡ false
    → halves ((F ++ L ∷ []) ++ (x ∷ []) ∷ []) ≤ halves (F ++ L ∷ []) + 1
half-in_new F L x size full =
    let none : has_half (length F) L ≡ false = no-half (length F) (length L + 1) (length (concat L)) (length x) size full in
    rw (halves-push (F ++ L ∷ []) (x ∷ []), halves-push F L, half-alone (length (F ++ L ∷ [])) x size, none) (omega (arith, length_push F L))

-- a heap id's parts
pub hid-parts : (n m : ℕ) → 0 < m → m < 2048 → ((n * 65536 + m * 32) % 32 ≡ 0) × (block_of (n * 65536 + m * 32) ≡ n) × (index_of (n * 65536 + m * 32) ≡ m)
hid-parts n m low high = (omega arith, omega arith, omega arith)

hid-from : (h n m : ℕ) → h % 32 ≡ 0 → block_of h ≡ n → index_of h ≡ m → h ≡ n * 65536 + m * 32
hid-from h n m a b c = omega arith

pub item_in-at : (G : List (List (List ℕ))) (h : ℕ) → h % 32 ≡ 0 → 0 < index_of h → item_in G h ≡ slice_get (get_or G (block_of h) []) (index_of h - 1)
unfolding item_in
item_in-at G h a b = rw (and_from (h % 32 == 0) (nat_lt 0 (index_of h)) (eq-eqb (h % 32) 0 a) (lt-ltb 0 (index_of h) b)) refl

pub item_in-off : (G : List (List (List ℕ))) (h : ℕ) → ((h % 32 == 0) && nat_lt 0 (index_of h)) ≡ false → item_in G h ≡ None
unfolding item_in
item_in-off G h f = rw f refl

pub item_in-same : (A B : List (List (List ℕ))) (h : ℕ)
    → (h % 32 ≡ 0 → 0 < index_of h → slice_get (get_or A (block_of h) []) (index_of h - 1) ≡ slice_get (get_or B (block_of h) []) (index_of h - 1))
    → item_in A h ≡ item_in B h
item_in-same A B h same = elim (cases_Bool ((h % 32 == 0) && nat_lt 0 (index_of h))) [
  | inl t ↦
      let both = and_parts (h % 32 == 0) (nat_lt 0 (index_of h)) t in
      let a : h % 32 ≡ 0 = eqb-true (h % 32) 0 both.0 in
      let b : 0 < index_of h = ltb-true 0 (index_of h) both.1 in
      item_in-at A h a b ∙ same a b ∙ sym (item_in-at B h a b)
  | inr f ↦ item_in-off A h f ∙ sym (item_in-off B h f)
]

-- what one more item in the last group adds
pub adds-in_last : (F : List (List (List ℕ))) (L : List (List ℕ)) (x : List ℕ) → length L + 1 ≤ 2047
    → Adds (F ++ L ∷ []) x (F ++ (L ++ x ∷ []) ∷ []) (length F * 65536 + (length L + 1) * 32)
adds-in_last F L x small =
    let parts = hid-parts (length F) (length L + 1) (omega arith) (omega arith) in
    let hid = length F * 65536 + (length L + 1) * 32 in
    let at : (A : List (List ℕ)) → item_in (F ++ A ∷ []) (length F * 65536 + (length L + 1) * 32) ≡ slice_get A (length L) = λ A.
    item_in-at (F ++ A ∷ []) (length F * 65536 + (length L + 1) * 32) parts.0 (omega (arith, parts.2))
    ∙ ap (λ (k : ℕ). slice_get (get_or (F ++ A ∷ []) k []) (index_of (length F * 65536 + (length L + 1) * 32) - 1)) parts.1
    ∙ ap (λ (g : List (List ℕ)). slice_get g (index_of (length F * 65536 + (length L + 1) * 32) - 1)) (get_or_push F A [] (length F) refl)
    ∙ ap (λ (k : ℕ). slice_get A (k - 1)) parts.2 ∙ ap (slice_get A) (omega arith) in
    record {
      here = at (L ++ x ∷ []) ∙ slice_get-get_or (L ++ x ∷ []) (length L) [] (omega (arith, length_push L x)) ∙ ap Some (get_or_push L x [] (length L) refl);
      free = at L ∙ slice_get_past L (length L) (omega arith);
      others = λ h other. item_in-same (F ++ (L ++ x ∷ []) ∷ []) (F ++ L ∷ []) h (λ a b.
          elim (cases_lt (block_of h) (length F)) [
            | inl low ↦ ap (λ (g : List (List ℕ)). slice_get g (index_of h - 1)) (same-below F (L ++ x ∷ []) L (block_of h) low)
            | inr up ↦ elim (cases_eq (block_of h) (length F)) [
              | inl e ↦
                  let one : get_or (F ++ (L ++ x ∷ []) ∷ []) (block_of h) [] ≡ L ++ x ∷ [] = get_or_push F (L ++ x ∷ []) [] (block_of h) (sym e) in
                  let two : get_or (F ++ L ∷ []) (block_of h) [] ≡ L = get_or_push F L [] (block_of h) (sym e) in
                  let elsewhere : index_of h - 1 ≡ length L → ⊥ = λ j. other (hid-from h (length F) (length L + 1) a e (omega arith)) in
                  ap (λ (g : List (List ℕ)). slice_get g (index_of h - 1)) one ∙ slice_get-push L x (index_of h - 1) elsewhere
                  ∙ ap (λ (g : List (List ℕ)). slice_get g (index_of h - 1)) (sym two)
              | inr ne ↦
                  let past : length F + 1 ≤ block_of h = grind arith in
                  ap (λ (g : List (List ℕ)). slice_get g (index_of h - 1))
                  (get_or_past (F ++ (L ++ x ∷ []) ∷ []) (block_of h) [] (omega (arith, length_push F (L ++ x ∷ [])))
                  ∙ sym (get_or_past (F ++ L ∷ []) (block_of h) [] (omega (arith, length_push F L))))
            ]
          ]);
      blocks = omega (arith, length_push F L, length_push F (L ++ x ∷ []));
      half = half-in_last F L x;
      spent = spent-in_last F L x;
    }

-- an empty group at the end adds nothing
item_in-empty : (G : List (List (List ℕ))) (h : ℕ) → item_in (G ++ [] ∷ []) h ≡ item_in G h
item_in-empty G h = item_in-same (G ++ [] ∷ []) G h (λ a b.
    ap (λ (g : List (List ℕ)). slice_get g (index_of h - 1)) (elim (cases_lt (block_of h) (length G)) [
      | inl low ↦ get_or_append_left G ([] ∷ []) [] (block_of h) low
      | inr up ↦ elim (cases_eq (block_of h) (length G)) [
        | inl e ↦ get_or_push G [] [] (block_of h) (sym e) ∙ sym (get_or_past G (block_of h) [] (omega arith))
        | inr ne ↦
            let past : length G + 1 ≤ block_of h = grind arith in
            get_or_past (G ++ [] ∷ []) (block_of h) [] (omega (arith, length_push G [])) ∙ sym (get_or_past G (block_of h) [] (omega arith))
      ]
    ]))

-- what an item in a new group adds
pub adds-in_new : (G : List (List (List ℕ))) (x : List ℕ) → halves (G ++ (x ∷ []) ∷ []) ≤ halves G + 1 → Adds G x (G ++ (x ∷ []) ∷ []) (length G * 65536 + 32)
adds-in_new G x half =
    let a = adds-in_last G [] x (omega arith) in
    record {
      here = a.here;
      free = sym (item_in-empty G (length G * 65536 + 32)) ∙ a.free;
      others = λ h other. a.others h other ∙ item_in-empty G h;
      blocks = omega (arith, length_push G (x ∷ []));
      half = half;
      spent = spent-in_new G x;
    }

-- what was there stays
pub kept-by_adds : (old new : List (List (List ℕ))) (x : List ℕ) (hid : ℕ) → Adds old x new hid → (h : ℕ) (y : List ℕ) → item_in old h ≡ Some y → item_in new h ≡ Some y
kept-by_adds old new x hid a h y e = elim (cases_eq h hid) [
  | inl same ↦ absurd (none-some y (sym a.free ∙ ap (item_in old) (sym same) ∙ e))
  | inr other ↦ a.others h other ∙ e
]
  where
    none-some : (y : List ℕ) → None ≡ Some y → ⊥
    none-some y e = cc
