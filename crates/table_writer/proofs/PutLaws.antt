-- What a write at a place of a row leaves, and what stands there.
use Rattle.std.proofs.Common.{◌≡◌, ◌∙◌, ◌≤◌, ◌<◌, ◌==◌, ◌+◌, ◌-◌, ◌*◌, ◌/◌, ◌%◌, ◌^◌, ◌++◌, ℕ, zero, suc, Bool, true, false, List, length, get_or, take, drop, Option, Some, None, refl, sym, ap, subst, inl, inr, arith, length-drop}
use Rattle.std.specs.Option.{unwrap_or}
use Rattle.std.proofs.lemmas.Bool.{cases_lt, eqb-true}
use Rattle.std.proofs.lemmas.List.{drop_at, take_at, length-take-le, ext_get_or, get_or-take, get_or-drop, get_or-append_right}
use Rattle.byteorder.specs.Endian.{little_bytes, little_number}
use Rattle.byteorder.specs.Numbers.{length-bytes_low_first, little_number-reads_back}
use Rattle.pst_base.specs.Fields.{number_at, replaced}
use Rattle.pst_base.proofs.Numbers.{number_at-same}
use Rattle.mapi_values.specs.Columns.{in_cell, suits_cell}
use Rattle.mapi_values.specs.Values.{Val}
use Rattle.write_limits.specs.Limits.{heap_bytes, long_value}
use Rattle.write_limits.specs.Space.{long_blocks, short_bytes}
use Rattle.table_writer.specs.declared.value.Made.{Made}
use Rattle.table_writer.specs.Bits.{bits, digit, octet}
use Rattle.table_writer.specs.Making.{Grows, PutsCell, PutsValue, cost, get_of, in_heap, in_subnode, sub_of, subnodes}
use Rattle.node_values.specs.Named.{named}
use Rattle.table_context.specs.Rows.{content, is_set, names, subnode}
use Rattle.table_context.proofs.LayoutLaws.{width-none, width-some}

-- what was written stands there
pub written-there : (at : ℕ) (bs b : List ℕ) → at + length bs ≤ length b → take (length bs) (drop at (replaced at bs b)) ≡ bs
unfolding replaced
written-there at bs b within =
    ap (take (length bs)) (drop_at (take at b) (bs ++ drop (at + length bs) b) at (length-take-le at b (omega arith))) ∙ take_at bs (drop (at + length bs) b) (length bs) refl

pub number-there : (at x : ℕ) (b : List ℕ) → at + 4 ≤ length b → x < 256 ^ 4 → number_at 4 at (replaced at (little_bytes 4 x) b) ≡ x
unfolding number_at replaced
number-there at x b within fit =
    ap (little_number 4) (drop_at (take at b) (little_bytes 4 x ++ drop (at + length (little_bytes 4 x)) b) at (length-take-le at b (omega arith)))
    ∙ little_number-reads_back 4 x (drop (at + length (little_bytes 4 x)) b) fit

heap-cost : (v : Val) → in_cell v.kind ≡ None → heap_bytes v ≡ cost (length v.bytes)
unfolding heap_bytes
heap-cost v e = rw e refl

long-count : (v : Val) → long_value v ≡ subnodes (length v.bytes)
unfolding long_value
long-count v = refl

short-is : (v : Val) → short_bytes v ≡ in_heap (length v.bytes)
unfolding short_bytes
short-is v = refl

long-is : (v : Val) → long_blocks v ≡ in_subnode (length v.bytes)
unfolding long_blocks
long-is v = refl

-- a value that stands in its cell
pub cell-fixed : (made : Made) (row there : List ℕ) (at w : ℕ) (v : Val) → in_cell v.kind ≡ Some w → length v.bytes ≡ w → at + w ≤ length row → there ≡ replaced at v.bytes row → PutsCell made made row there at v
cell-fixed made row there at w v e len room is =
    let stands : take w (drop at there) ≡ v.bytes =
    ap (λ (n : ℕ). take n (drop at there)) (sym len) ∙ ap (λ (b : List ℕ). take (length v.bytes) (drop at b)) is ∙ written-there at v.bytes row (omega (arith, len, room)) in
    record {
      grows = subst (λ (o : Option ℕ). Grows made made (names there at o)) (sym e) (record { items = λ h x f. f; subs = λ n x f. f; left = λ ids. refl });
      here = ap (content (get_of made) (sub_of made) there at) e ∙ ap Some stands;
      weighs = omega arith;
      count = omega arith;
      loads = omega arith;
      blocks = omega arith;
      bytes = v.bytes;
      size = len ∙ sym (width-some v.kind w e);
      row_is = is;
    }

-- a value that its cell names
pub cell-named : (old new : Made) (row there : List ℕ) (at hnid : ℕ) (v : Val) → in_cell v.kind ≡ None → PutsValue old new v.bytes hnid → at + 4 ≤ length row → hnid < 256 ^ 4
    → there ≡ replaced at (little_bytes 4 hnid) row → PutsCell old new row there at v
cell-named old new row there at hnid v e p room fit is =
    let number : number_at 4 at there ≡ hnid = ap (number_at 4 at) is ∙ number-there at hnid row room fit in
    let named_is : subnode (number_at 4 at there) ≡ subnode hnid = ap subnode number in
    record {
      grows = subst (λ (o : Option ℕ). Grows old new (names there at o)) (sym e) (subst (λ (ids : List ℕ). Grows old new ids) (sym named_is) p.grows);
      here = ap (content (get_of new) (sub_of new) there at) e ∙ ap (named (get_of new) (sub_of new)) number ∙ p.here;
      weighs = omega (arith, p.weighs, heap-cost v e);
      count = omega (arith, p.count, long-count v);
      loads = omega (arith, p.loads, short-is v);
      blocks = omega (arith, p.blocks, long-is v);
      bytes = little_bytes 4 hnid;
      size = length-bytes_low_first 0 4 hnid ∙ sym (width-none v.kind e);
      row_is = is;
    }

-- ---- bits

digit-few : (b : Bool) → digit b ≤ 1
digit-few true = omega arith
digit-few false = omega arith

digit-back : (b : Bool) → (digit b == 1) ≡ b
digit-back true = refl
digit-back false = refl

bit-0 : (a b c d e f g h : ℕ) → a ≤ 1 → b ≤ 1 → c ≤ 1 → d ≤ 1 → e ≤ 1 → f ≤ 1 → g ≤ 1 → h ≤ 1 → (a * 128 + b * 64 + c * 32 + d * 16 + e * 8 + f * 4 + g * 2 + h) / 128 % 2 ≡ a
bit-0 a b c d e f g h ha hb hc hd he hf hg hh = omega arith

bit-1 : (a b c d e f g h : ℕ) → a ≤ 1 → b ≤ 1 → c ≤ 1 → d ≤ 1 → e ≤ 1 → f ≤ 1 → g ≤ 1 → h ≤ 1 → (a * 128 + b * 64 + c * 32 + d * 16 + e * 8 + f * 4 + g * 2 + h) / 64 % 2 ≡ b
bit-1 a b c d e f g h ha hb hc hd he hf hg hh = omega arith

bit-2 : (a b c d e f g h : ℕ) → a ≤ 1 → b ≤ 1 → c ≤ 1 → d ≤ 1 → e ≤ 1 → f ≤ 1 → g ≤ 1 → h ≤ 1 → (a * 128 + b * 64 + c * 32 + d * 16 + e * 8 + f * 4 + g * 2 + h) / 32 % 2 ≡ c
bit-2 a b c d e f g h ha hb hc hd he hf hg hh = omega arith

bit-3 : (a b c d e f g h : ℕ) → a ≤ 1 → b ≤ 1 → c ≤ 1 → d ≤ 1 → e ≤ 1 → f ≤ 1 → g ≤ 1 → h ≤ 1 → (a * 128 + b * 64 + c * 32 + d * 16 + e * 8 + f * 4 + g * 2 + h) / 16 % 2 ≡ d
bit-3 a b c d e f g h ha hb hc hd he hf hg hh = omega arith

bit-4 : (a b c d e f g h : ℕ) → a ≤ 1 → b ≤ 1 → c ≤ 1 → d ≤ 1 → e ≤ 1 → f ≤ 1 → g ≤ 1 → h ≤ 1 → (a * 128 + b * 64 + c * 32 + d * 16 + e * 8 + f * 4 + g * 2 + h) / 8 % 2 ≡ e
bit-4 a b c d e f g h ha hb hc hd he hf hg hh = omega arith

bit-5 : (a b c d e f g h : ℕ) → a ≤ 1 → b ≤ 1 → c ≤ 1 → d ≤ 1 → e ≤ 1 → f ≤ 1 → g ≤ 1 → h ≤ 1 → (a * 128 + b * 64 + c * 32 + d * 16 + e * 8 + f * 4 + g * 2 + h) / 4 % 2 ≡ f
bit-5 a b c d e f g h ha hb hc hd he hf hg hh = omega arith

bit-6 : (a b c d e f g h : ℕ) → a ≤ 1 → b ≤ 1 → c ≤ 1 → d ≤ 1 → e ≤ 1 → f ≤ 1 → g ≤ 1 → h ≤ 1 → (a * 128 + b * 64 + c * 32 + d * 16 + e * 8 + f * 4 + g * 2 + h) / 2 % 2 ≡ g
bit-6 a b c d e f g h ha hb hc hd he hf hg hh = omega arith

bit-7 : (a b c d e f g h : ℕ) → a ≤ 1 → b ≤ 1 → c ≤ 1 → d ≤ 1 → e ≤ 1 → f ≤ 1 → g ≤ 1 → h ≤ 1 → (a * 128 + b * 64 + c * 32 + d * 16 + e * 8 + f * 4 + g * 2 + h) / 1 % 2 ≡ h
bit-7 a b c d e f g h ha hb hc hd he hf hg hh = omega arith

module _ (m : List Bool) (at : ℕ) where
  abbrev dg : ℕ → ℕ
  dg k = digit (get_or m (at + k) false)

  few : (k : ℕ) → dg k ≤ 1
  few k = digit-few (get_or m (at + k) false)

  first-few : digit (get_or m at false) ≤ 1
  first-few = digit-few (get_or m at false)

  octet-at : (k n : ℕ) → k ≡ n → octet at m / 2 ^ (7 - n) % 2 ≡ dg n → octet at m / 2 ^ (7 - k) % 2 ≡ dg k
  octet-at k n e h = ap (λ (i : ℕ). octet at m / 2 ^ (7 - i) % 2) e ∙ h ∙ ap dg (sym e)

  octet-first : octet at m / 128 % 2 ≡ dg 0
  octet-first =
      let e : at + 0 ≡ at = omega arith in
      bit-0 (digit (get_or m at false)) (dg 1) (dg 2) (dg 3) (dg 4) (dg 5) (dg 6) (dg 7) first-few (few 1) (few 2) (few 3) (few 4) (few 5) (few 6) (few 7) ∙ ap (λ (n : ℕ). digit (get_or m n false)) (sym e)

  octet-bit : (k : ℕ) → k < 8 → octet at m / 2 ^ (7 - k) % 2 ≡ dg k
  octet-bit k lt = elim (cases_lt k 7) [
    | inl l7 ↦ elim (cases_lt k 6) [
      | inl l6 ↦ elim (cases_lt k 5) [
        | inl l5 ↦ elim (cases_lt k 4) [
          | inl l4 ↦ elim (cases_lt k 3) [
            | inl l3 ↦ elim (cases_lt k 2) [
              | inl l2 ↦ elim (cases_lt k 1) [
                | inl l1 ↦ octet-at k 0 (omega arith) octet-first
                | inr h1 ↦ octet-at k 1 (omega arith) (bit-1 (digit (get_or m at false)) (dg 1) (dg 2) (dg 3) (dg 4) (dg 5) (dg 6) (dg 7) first-few (few 1) (few 2) (few 3) (few 4) (few 5) (few 6) (few 7))
              ]
              | inr h2 ↦ octet-at k 2 (omega arith) (bit-2 (digit (get_or m at false)) (dg 1) (dg 2) (dg 3) (dg 4) (dg 5) (dg 6) (dg 7) first-few (few 1) (few 2) (few 3) (few 4) (few 5) (few 6) (few 7))
            ]
            | inr h3 ↦ octet-at k 3 (omega arith) (bit-3 (digit (get_or m at false)) (dg 1) (dg 2) (dg 3) (dg 4) (dg 5) (dg 6) (dg 7) first-few (few 1) (few 2) (few 3) (few 4) (few 5) (few 6) (few 7))
          ]
          | inr h4 ↦ octet-at k 4 (omega arith) (bit-4 (digit (get_or m at false)) (dg 1) (dg 2) (dg 3) (dg 4) (dg 5) (dg 6) (dg 7) first-few (few 1) (few 2) (few 3) (few 4) (few 5) (few 6) (few 7))
        ]
        | inr h5 ↦ octet-at k 5 (omega arith) (bit-5 (digit (get_or m at false)) (dg 1) (dg 2) (dg 3) (dg 4) (dg 5) (dg 6) (dg 7) first-few (few 1) (few 2) (few 3) (few 4) (few 5) (few 6) (few 7))
      ]
      | inr h6 ↦ octet-at k 6 (omega arith) (bit-6 (digit (get_or m at false)) (dg 1) (dg 2) (dg 3) (dg 4) (dg 5) (dg 6) (dg 7) first-few (few 1) (few 2) (few 3) (few 4) (few 5) (few 6) (few 7))
    ]
    | inr h7 ↦ octet-at k 7 (omega arith) (bit-7 (digit (get_or m at false)) (dg 1) (dg 2) (dg 3) (dg 4) (dg 5) (dg 6) (dg 7) first-few (few 1) (few 2) (few 3) (few 4) (few 5) (few 6) (few 7))
  ]

bits-get : (n at j : ℕ) (m : List Bool) → j < n → get_or (bits n at m) j 0 ≡ octet (at + 8 * j) m
bits-get zero at j m lt = absurd (omega (arith, lt))
bits-get (suc n) at zero m lt = let e : at ≡ at + 8 * 0 = omega arith in ap (λ (k : ℕ). octet k m) e
bits-get (suc n) at (suc j) m lt =
    let e : at + 8 + 8 * j ≡ at + 8 * suc j = omega arith in
    bits-get n (at + 8) j m (omega (arith, lt)) ∙ ap (λ (k : ℕ). octet k m) e

-- the existence bits behind the cells are the marks
pub marked : (front : List ℕ) (m : List Bool) (n bit from : ℕ) → from ≡ length front → bit / 8 < n → is_set from (front ++ bits n 0 m) bit ≡ get_or m bit false
unfolding is_set
marked front m n bit from e lt =
    let place : from + bit / 8 - from ≡ bit / 8 = omega arith in
    let whole : 0 + 8 * (bit / 8) + bit % 8 ≡ bit = omega arith in
    let byte : get_or (front ++ bits n 0 m) (from + bit / 8) 0 ≡ octet (0 + 8 * (bit / 8)) m =
    get_or-append_right front (bits n 0 m) from (from + bit / 8) 0 (sym e) (omega arith) ∙ ap (λ (k : ℕ). get_or (bits n 0 m) k 0) place ∙ bits-get n 0 (bit / 8) m lt in
    ap (λ (x : ℕ). x / 2 ^ (7 - bit % 8) % 2 == 1) byte
    ∙ ap (λ (x : ℕ). x == 1) (octet-bit m (0 + 8 * (bit / 8)) (bit % 8) (omega arith))
    ∙ digit-back (get_or m (0 + 8 * (bit / 8) + bit % 8) false)
    ∙ ap (λ (k : ℕ). get_or m k false) whole

-- ---- content

-- the same bytes in a cell are the same content
pub content-same : (get : ℕ → Option (List ℕ)) (sub : ℕ → Option (List (List ℕ))) (a b : List ℕ) (at : ℕ) (o : Option ℕ) → at + unwrap_or o 4 ≤ length a → at + unwrap_or o 4 ≤ length b
    → ((k : ℕ) → k < unwrap_or o 4 → get_or a (at + k) 0 ≡ get_or b (at + k) 0) → content get sub a at o ≡ content get sub b at o
content-same get sub a b at None ra rb same = ap (named get sub) (number_at-same 4 at at a b same)
content-same get sub a b at (Some w) ra rb same =
    let la : length (take w (drop at a)) ≡ w = length-take-le w (drop at a) (omega (arith, length-drop at a)) in
    let lb : length (take w (drop at b)) ≡ w = length-take-le w (drop at b) (omega (arith, length-drop at b)) in
    ap Some (ext_get_or 0 (take w (drop at a)) (take w (drop at b)) (la ∙ sym lb)
    (λ i lt. let low : i < w = omega (arith, lt, la) in
    get_or-take w (drop at a) i 0 low ∙ get_or-drop at a i 0 ∙ same i low ∙ sym (get_or-drop at b i 0) ∙ sym (get_or-take w (drop at b) i 0 low)))

pub suits-width : (kind n w : ℕ) → suits_cell kind n ≡ true → in_cell kind ≡ Some w → n ≡ w
unfolding suits_cell
suits-width kind n w h e =
    let t : (w == n) ≡ true = rw e at h in
    sym (eqb-true w n t)
