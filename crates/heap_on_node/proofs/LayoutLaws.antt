-- What a block of a heap reads as.
use Rattle.std.proofs.Common.{◌≡◌, ◌≤◌, ◌<◌, ◌==◌, ◌&&◌, ◌+◌, ◌-◌, ◌*◌, ◌%◌, inl, inr, nat_lt, nat_le, ℕ, zero, suc, true, false, List, [], ◌∷◌, ◌++◌, length, map, take, drop, get_or, replicate, Some, None, slice_get, slice_range, refl, sym, ap, ◌∙◌, append_assoc, length-append, arith}
use Rattle.std.proofs.lemmas.Bool.{cases_Bool, cases_lt, and_from, and_right, le-leb, lt-leb, lt-ltb}
use Rattle.std.proofs.lemmas.List.{drop_at, take_at, length-map, length-replicate}
use Rattle.std.proofs.lemmas.Option.{slice_get_past, slice_get-get_or}
use Rattle.std.specs.List.{concat, flat_map}
use Rattle.byteorder.specs.Endian.{little_bytes}
use Rattle.byteorder.specs.Numbers.{length-bytes_low_first}
use Rattle.pst_base.specs.Fields.{number_at}
use Rattle.pst_base.proofs.Numbers.{number_at-behind, number_at-first, number_at-next}
use Rattle.heap_on_node.specs.Heap.{HasMap, count_of, free_of, item_of, map_of, offset_of}
use Rattle.heap_on_node.specs.Layout.{block, free_among, head_rest, offsets, page_map, total}
use Rattle.heap_on_node.specs.Packing.{IsPlain, fit_block, head_size, levels_at, map_place}
use Rattle.heap_on_node.proofs.PackingLaws.{head-bounds, room-parts}

-- the sizes add up to the bytes
pub total-lengths : (xs : List (List ℕ)) → total (map length xs) ≡ length (concat xs)
total-lengths [] = refl
total-lengths (x ∷ xs) = ap (λ (n : ℕ). length x + n) (total-lengths xs) ∙ sym (length-append x (concat xs))

offsets-first : (from : ℕ) (ns : List ℕ) → get_or (offsets from ns) 0 0 ≡ from
offsets-first from [] = refl
offsets-first from (n ∷ ns) = refl

length-offsets : (from : ℕ) (ns : List ℕ) → length (offsets from ns) ≡ length ns + 1
length-offsets from [] = refl
length-offsets from (n ∷ ns) = omega (arith, length-offsets (from + n) ns)

offsets-step : (from : ℕ) (ns : List ℕ) (i : ℕ) → i < length ns → get_or (offsets from ns) (suc i) 0 ≡ get_or (offsets from ns) i 0 + get_or ns i 0
offsets-step from [] i h = absurd (omega arith)
offsets-step from (n ∷ ns) zero h = offsets-first (from + n) ns
offsets-step from (n ∷ ns) (suc i) h = offsets-step (from + n) ns i (omega arith)

offsets-high : (from : ℕ) (ns : List ℕ) (i : ℕ) → i ≤ length ns → get_or (offsets from ns) i 0 ≤ from + total ns
offsets-high from [] zero h = omega arith
offsets-high from [] (suc i) h = absurd (omega arith)
offsets-high from (n ∷ ns) zero h = omega arith
offsets-high from (n ∷ ns) (suc i) h = omega (arith, offsets-high (from + n) ns i (omega arith))

offsets-last : (from : ℕ) (ns : List ℕ) → get_or (offsets from ns) (length ns) 0 ≡ from + total ns
offsets-last from [] = omega arith
offsets-last from (n ∷ ns) = omega (arith, offsets-last (from + n) ns)

-- the i-th of some numbers of 2 bytes
number_at-flat : (xs : List ℕ) (i : ℕ) → i < length xs → get_or xs i 0 < 65536 → number_at 2 (2 * i) (flat_map (little_bytes 2) xs) ≡ get_or xs i 0
number_at-flat [] i h fit = absurd (omega arith)
number_at-flat (x ∷ xs) zero h fit = number_at-first 2 x (flat_map (little_bytes 2) xs) fit
number_at-flat (x ∷ xs) (suc i) h fit =
    let e : 2 * suc i ≡ 2 + 2 * i = omega arith in
    ap (λ (k : ℕ). number_at 2 k (little_bytes 2 x ++ flat_map (little_bytes 2) xs)) e
    ∙ number_at-next 2 (2 * i) 2 x (flat_map (little_bytes 2) xs) ∙ number_at-flat xs i (omega arith) fit

length-flat : (xs : List ℕ) → length (flat_map (little_bytes 2) xs) ≡ 2 * length xs
length-flat [] = refl
length-flat (x ∷ xs) = length-append (little_bytes 2 x) (flat_map (little_bytes 2) xs) ∙ omega (arith, length-flat xs, length-bytes_low_first 0 2 x)

length-page_map : (from : ℕ) (ns : List ℕ) → length (page_map from ns) ≡ 6 + 2 * length ns
unfolding page_map
length-page_map from ns =
    omega (
      arith,
      length-append (little_bytes 2 (length ns)) (little_bytes 2 (free_among ns) ++ flat_map (little_bytes 2) (offsets from ns)),
      length-append (little_bytes 2 (free_among ns)) (flat_map (little_bytes 2) (offsets from ns)),
      length-bytes_low_first 0 2 (length ns),
      length-bytes_low_first 0 2 (free_among ns),
      length-flat (offsets from ns),
      length-offsets from ns,
    )

map-count : (from : ℕ) (ns : List ℕ) → length ns < 65536 → number_at 2 0 (page_map from ns) ≡ length ns
unfolding page_map
map-count from ns fit = number_at-first 2 (length ns) (little_bytes 2 (free_among ns) ++ flat_map (little_bytes 2) (offsets from ns)) fit

free-low : (ns : List ℕ) → free_among ns ≤ length ns
free-low [] = omega arith
free-low (n ∷ ns) = elim (cases_Bool (n == 0)) [ inl t ↦ rw t (omega (arith, free-low ns)) | inr f ↦ rw f (omega (arith, free-low ns)) ]

map-free : (from : ℕ) (ns : List ℕ) → length ns < 65536 → number_at 2 2 (page_map from ns) ≡ free_among ns
unfolding page_map
map-free from ns fit =
    number_at-next 2 0 2 (length ns) (little_bytes 2 (free_among ns) ++ flat_map (little_bytes 2) (offsets from ns))
    ∙ number_at-first 2 (free_among ns) (flat_map (little_bytes 2) (offsets from ns)) (omega (arith, free-low ns))

map-offset : (from : ℕ) (ns : List ℕ) (i : ℕ) → i ≤ length ns → from + total ns < 65536 → number_at 2 (4 + 2 * i) (page_map from ns) ≡ get_or (offsets from ns) i 0
unfolding page_map
map-offset from ns i h fit =
    let e : 4 + 2 * i ≡ 2 + (2 + 2 * i) = omega arith in
    ap (λ (k : ℕ). number_at 2 k (little_bytes 2 (length ns) ++ (little_bytes 2 (free_among ns) ++ flat_map (little_bytes 2) (offsets from ns)))) e
    ∙ number_at-next 2 (2 + 2 * i) 2 (length ns) (little_bytes 2 (free_among ns) ++ flat_map (little_bytes 2) (offsets from ns))
    ∙ number_at-next 2 (2 * i) 2 (free_among ns) (flat_map (little_bytes 2) (offsets from ns))
    ∙ number_at-flat (offsets from ns) i (omega (arith, length-offsets from ns)) (omega (arith, offsets-high from ns i h))

-- item j stands between its offsets
item-between : (xs : List (List ℕ)) (from j : ℕ) (H W : List ℕ) → length H ≡ from → j < length xs
    → slice_range (H ++ (concat xs ++ W)) (get_or (offsets from (map length xs)) j 0) (get_or (offsets from (map length xs)) (suc j) 0) ≡ get_or xs j []
item-between [] from j H W len h = absurd (omega arith)
item-between (x ∷ xs) from zero H W len h =
    let e : from + length x - from ≡ length x = omega arith in
    ap (λ (k : ℕ). take (k - from) (drop from (H ++ ((x ++ concat xs) ++ W)))) (offsets-first (from + length x) (map length xs))
    ∙ ap (λ (k : ℕ). take k (drop from (H ++ ((x ++ concat xs) ++ W)))) e
    ∙ ap (take (length x)) (drop_at H ((x ++ concat xs) ++ W) from len ∙ append_assoc x (concat xs) W)
    ∙ take_at x (concat xs ++ W) (length x) refl
item-between (x ∷ xs) from (suc j) H W len h =
    let whole : H ++ ((x ++ concat xs) ++ W) ≡ (H ++ x) ++ (concat xs ++ W) =
    ap (λ (b : List ℕ). H ++ b) (append_assoc x (concat xs) W) ∙ sym (append_assoc H x (concat xs ++ W)) in
    ap (λ (b : List ℕ). slice_range b (get_or (offsets (from + length x) (map length xs)) j 0) (get_or (offsets (from + length x) (map length xs)) (suc j) 0)) whole
    ∙ item-between xs (from + length x) j (H ++ x) W (length-append H x ∙ ap (λ (n : ℕ). n + length x) len) (omega arith)

length-head_rest : (k client root : ℕ) → length (head_rest k client root) + 2 ≡ head_size k
unfolding head_rest
length-head_rest k client root = elim (cases_Bool (k == 0)) [
  | inl t ↦ rw t (omega (arith, length-append (little_bytes 4 root) (replicate 4 0), length-bytes_low_first 0 4 root))
  | inr f ↦ elim (cases_Bool (k % 128 == 8)) [ inl t1 ↦ rw (f, t1) refl | inr f1 ↦ rw (f, f1) refl ]
]

-- a block from its head on, and its page map behind all else
front : ℕ → ℕ → ℕ → ℕ → List ℕ
front k client root n = little_bytes 2 (map_place k n) ++ head_rest k client root

length-front : (k client root n : ℕ) → length (front k client root n) ≡ head_size k
unfolding front
length-front k client root n =
    omega (arith, length-append (little_bytes 2 (map_place k n)) (head_rest k client root), length-bytes_low_first 0 2 (map_place k n), length-head_rest k client root)

block-front : (k client root : ℕ) (xs : List (List ℕ)) → block k client root xs
    ≡ front k client root (length (concat xs)) ++ (concat xs ++ (replicate (length (concat xs) % 2) 0 ++ page_map (head_size k) (map length xs)))
unfolding front block
block-front k client root xs =
    sym (append_assoc (little_bytes 2 (map_place k (length (concat xs)))) (head_rest k client root) (concat xs ++ (replicate (length (concat xs) % 2) 0 ++ page_map (head_size k) (map length xs))))

before : ℕ → ℕ → ℕ → List (List ℕ) → List ℕ
before k client root xs = front k client root (length (concat xs)) ++ (concat xs ++ replicate (length (concat xs) % 2) 0)

length-before : (k client root : ℕ) (xs : List (List ℕ)) → length (before k client root xs) ≡ map_place k (length (concat xs))
unfolding before
length-before k client root xs =
    omega (
      arith,
      length-append (front k client root (length (concat xs))) (concat xs ++ replicate (length (concat xs) % 2) 0),
      length-append (concat xs) (replicate (length (concat xs) % 2) 0),
      length-replicate {A = ℕ} (length (concat xs) % 2) 0,
      length-front k client root (length (concat xs)),
    )

block-before : (k client root : ℕ) (xs : List (List ℕ)) → block k client root xs ≡ before k client root xs ++ page_map (head_size k) (map length xs)
unfolding before
block-before k client root xs =
    block-front k client root xs
    ∙ ap (λ (b : List ℕ). front k client root (length (concat xs)) ++ b) (sym (append_assoc (concat xs) (replicate (length (concat xs) % 2) 0) (page_map (head_size k) (map length xs))))
    ∙ sym (append_assoc (front k client root (length (concat xs))) (concat xs ++ replicate (length (concat xs) % 2) 0) (page_map (head_size k) (map length xs)))

pub length-block : (k client root : ℕ) (xs : List (List ℕ)) → length (block k client root xs) ≡ map_place k (length (concat xs)) + (6 + 2 * length xs)
length-block k client root xs =
    ap length (block-before k client root xs)
    ∙ length-append (before k client root xs) (page_map (head_size k) (map length xs))
    ∙ omega (arith, length-before k client root xs, length-page_map (head_size k) (map length xs), length-map xs (length {A = ℕ}))

pub map_of-block : (k client root : ℕ) (xs : List (List ℕ)) → fit_block k xs ≡ true → map_of (block k client root xs) ≡ map_place k (length (concat xs))
unfolding map_of block
map_of-block k client root xs fit =
    let room = room-parts k (length xs) (length (concat xs)) fit in
    number_at-first 2 (map_place k (length (concat xs)))
    (head_rest k client root ++ (concat xs ++ (replicate (length (concat xs) % 2) 0 ++ page_map (head_size k) (map length xs)))) (omega (arith, room.1))

in_map : (k client root j : ℕ) (xs : List (List ℕ)) → fit_block k xs ≡ true
    → number_at 2 (map_of (block k client root xs) + j) (block k client root xs) ≡ number_at 2 j (page_map (head_size k) (map length xs))
in_map k client root j xs fit =
    ap (λ (m : ℕ). number_at 2 (m + j) (block k client root xs)) (map_of-block k client root xs fit)
    ∙ ap (number_at 2 (map_place k (length (concat xs)) + j)) (block-before k client root xs)
    ∙ number_at-behind 2 j (map_place k (length (concat xs))) (before k client root xs) (page_map (head_size k) (map length xs)) (length-before k client root xs)

pub count_of-block : (k client root : ℕ) (xs : List (List ℕ)) → fit_block k xs ≡ true → count_of (block k client root xs) ≡ length xs
unfolding count_of
count_of-block k client root xs fit =
    let room = room-parts k (length xs) (length (concat xs)) fit in
    let e : map_of (block k client root xs) ≡ map_of (block k client root xs) + 0 = omega arith in
    let len = length-map xs (length {A = ℕ}) in
    ap (λ (m : ℕ). number_at 2 m (block k client root xs)) e
    ∙ in_map k client root 0 xs fit ∙ map-count (head_size k) (map length xs) (omega (arith, room.0, len)) ∙ len

-- a block counts its free items
pub free_of-block : (k client root : ℕ) (xs : List (List ℕ)) → fit_block k xs ≡ true → free_of (block k client root xs) ≡ free_among (map length xs)
unfolding free_of
free_of-block k client root xs fit =
    let room = room-parts k (length xs) (length (concat xs)) fit in
    let len = length-map xs (length {A = ℕ}) in
    in_map k client root 2 xs fit ∙ map-free (head_size k) (map length xs) (omega (arith, room.0, len))

pub offset_of-block : (k client root i : ℕ) (xs : List (List ℕ)) → fit_block k xs ≡ true → i ≤ length xs
    → offset_of (block k client root xs) i ≡ get_or (offsets (head_size k) (map length xs)) i 0
unfolding offset_of
offset_of-block k client root i xs fit h =
    let room = room-parts k (length xs) (length (concat xs)) fit in
    let e : map_of (block k client root xs) + 4 + 2 * i ≡ map_of (block k client root xs) + (4 + 2 * i) = omega arith in
    let len = length-map xs (length {A = ℕ}) in
    ap (λ (m : ℕ). number_at 2 m (block k client root xs)) e
    ∙ in_map k client root (4 + 2 * i) xs fit
    ∙ map-offset (head_size k) (map length xs) i (omega (arith, len)) (omega (arith, room.1, total-lengths xs))

-- a block's page map is in order
pub HasMap-block : (k client root : ℕ) (xs : List (List ℕ)) → fit_block k xs ≡ true → HasMap (block k client root xs)
HasMap-block k client root xs fit =
    let place = map_of-block k client root xs fit in
    let count = count_of-block k client root xs fit in
    let len = length-map xs (length {A = ℕ}) in
    record {
      within = omega (arith, length-block k client root xs);
      ordered = λ i h.
          let low : i < length xs = omega arith in
          let one : suc i ≡ i + 1 = omega arith in
          let step = offsets-step (head_size k) (map length xs) i (omega arith) in
          let a = offset_of-block k client root i xs fit (omega arith) in
          let b = offset_of-block k client root (i + 1) xs fit (omega arith) in
          let c = ap (λ (j : ℕ). get_or (offsets (head_size k) (map length xs)) j 0) one in
          omega arith;
      ends =
          let a = offset_of-block k client root (length xs) xs fit (omega arith) in
          let b = ap (λ (j : ℕ). offset_of (block k client root xs) j) count in
          let c = offsets-last (head_size k) (map length xs) in
          let d = ap (λ (j : ℕ). get_or (offsets (head_size k) (map length xs)) j 0) len in
          let e = total-lengths xs in
          omega arith;
    }

-- the bytes of a block's items
pub items-span : (k client root : ℕ) (xs : List (List ℕ)) → fit_block k xs ≡ true
    → offset_of (block k client root xs) (count_of (block k client root xs)) - offset_of (block k client root xs) 0 ≡ length (concat xs)
items-span k client root xs fit =
    let count = count_of-block k client root xs fit in
    let len = length-map xs (length {A = ℕ}) in
    let a = offset_of-block k client root (length xs) xs fit (omega arith) in
    let b = ap (λ (j : ℕ). offset_of (block k client root xs) j) count in
    let c = offsets-last (head_size k) (map length xs) in
    let d = ap (λ (j : ℕ). get_or (offsets (head_size k) (map length xs)) j 0) len in
    let e = total-lengths xs in
    let f = offset_of-block k client root 0 xs fit (omega arith) in
    let g = offsets-first (head_size k) (map length xs) in
    omega arith

-- the item of a block
pub item_of-block : (k client root j : ℕ) (xs : List (List ℕ)) → fit_block k xs ≡ true → item_of (block k client root xs) (suc j) ≡ slice_get xs j
unfolding item_of
item_of-block k client root j xs fit =
    let count = count_of-block k client root xs fit in
    elim (cases_lt j (length xs)) [
      | inl low ↦
          let t : (nat_lt 0 (suc j) && nat_le (suc j) (count_of (block k client root xs))) ≡ true =
          and_from (nat_lt 0 (suc j)) (nat_le (suc j) (count_of (block k client root xs))) (lt-ltb 0 (suc j) (omega arith)) (le-leb (suc j) (count_of (block k client root xs)) (omega arith)) in
          let less : suc j - 1 ≡ j = omega arith in
          let a = offset_of-block k client root j xs fit (omega arith) in
          let b = offset_of-block k client root (suc j) xs fit (omega arith) in
          let front_len = length-front k client root (length (concat xs)) in
          rw (t, less, a, b)
          (ap Some (ap (λ (s : List ℕ). slice_range s (get_or (offsets (head_size k) (map length xs)) j 0) (get_or (offsets (head_size k) (map length xs)) (suc j) 0)) (block-front k client root xs)
          ∙ item-between xs (head_size k) j (front k client root (length (concat xs))) (replicate (length (concat xs) % 2) 0 ++ page_map (head_size k) (map length xs)) front_len low)
          ∙ sym (slice_get-get_or xs j [] low))
      | inr high ↦
          let f : (nat_lt 0 (suc j) && nat_le (suc j) (count_of (block k client root xs))) ≡ false =
          and_right (nat_lt 0 (suc j)) (nat_le (suc j) (count_of (block k client root xs))) (lt-leb (suc j) (count_of (block k client root xs)) (omega arith)) in
          rw f (sym (slice_get_past xs j high))
    ]

pub item_of-zero : (b : List ℕ) → item_of b 0 ≡ None
unfolding item_of
item_of-zero b = refl

-- the fill levels of a head are 0
levels-head : (k client root n : ℕ) (W : List ℕ) → slice_range (front k client root n ++ W) (levels_at k) (head_size k) ≡ replicate (head_size k - levels_at k) 0
unfolding front head_rest
levels-head k client root n W = elim (cases_Bool (k == 0)) [
  | inl t ↦ rw t refl
  | inr f ↦ elim (cases_Bool (k % 128 == 8)) [ inl t1 ↦ rw (f, t1) refl | inr f1 ↦ rw (f, f1) refl ]
]

-- a block is plain
pub IsPlain-block : (k client root : ℕ) (xs : List (List ℕ)) → fit_block k xs ≡ true → IsPlain k (block k client root xs)
IsPlain-block k client root xs fit =
    let room = room-parts k (length xs) (length (concat xs)) fit in
    record {
      size = omega (arith, room.1, length-block k client root xs);
      even = omega (arith, (head-bounds k).2, map_of-block k client root xs fit);
      levels =
          ap (λ (b : List ℕ). slice_range b (levels_at k) (head_size k)) (block-front k client root xs)
          ∙ levels-head k client root (length (concat xs)) (concat xs ++ (replicate (length (concat xs) % 2) 0 ++ page_map (head_size k) (map length xs)));
    }

-- a block's pieces, in the order in which they are written
pub block-pieces : (k client root : ℕ) (xs : List (List ℕ)) →
    ((little_bytes 2 (map_place k (length (concat xs))) ++ head_rest k client root) ++ (concat xs ++ replicate (length (concat xs) % 2) 0)) ++ page_map (head_size k) (map length xs)
    ≡ block k client root xs
block-pieces k client root xs = sym (unfold front in unfold before in block-before k client root xs)
