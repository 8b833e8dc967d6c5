-- What writes to bytes do to their bits.
use Rattle.std.proofs.Common.{take, drop, max, suc, zero, ◌≡◌, ◌<◌, ◌≤◌, ◌==◌, ◌+◌, ◌-◌, ◌*◌, ◌/◌, ◌%◌, ◌^◌, ℕ, Bool, true, false, List, length, get_or, set, replicate, refl, sym, ap, ◌∙◌, inl, inr, arith, length-set, bit_and, bit_or, ◌||◌}
use Rattle.std.proofs.lemmas.Bool.{eqb-true, eq-eqb, ne_eqb, cases_lt, cases_eq, eqb-false}
use Rattle.std.proofs.lemmas.List.{ext_get_or, get_or-drop, get_or-take, length-drop, length-take-le, get_or-set_same, get_or-set_other, get_or_past, get_or-replicate, length-replicate, same_lists, get_or_default}
use Rattle.std.proofs.lemmas.List.FromFn.{length-map-range_with_len, get_or-map-range_with_len}
use Rattle.std.proofs.lemmas.Nat.Bits.{bit_at_set_same, bit_at_set_other, bit_at_clear_same, bit_at_clear_other, bit_at_or, shr_and_one, bit_at-zero, bit_at-lt, same_from_bits_below}
use Rattle.std.specs.Int.{bit_at, w8}
use Rattle.alloc_map.specs.Packed.{bits_of, packed_bit}
use Rattle.alloc_map.specs.Slots.{is_used, AreAll, Becomes, Unites}

pub length-bits_of : (bs : List ℕ) → length (bits_of bs) ≡ 8 * length bs
unfolding bits_of
length-bits_of bs = length-map-range_with_len (packed_bit bs) 0 (8 * length bs)

pub bits_of-at : (bs : List ℕ) (i : ℕ) → i < 8 * length bs → is_used (bits_of bs) i ≡ packed_bit bs i
unfolding bits_of
bits_of-at bs i h = get_or-map-range_with_len (packed_bit bs) 0 (8 * length bs) i i false h (omega arith)

-- one byte is written
module _ (bs : List ℕ) (at y : ℕ) (within : at < 8 * length bs) where
  packed-written : packed_bit (set bs (at / 8) y) at ≡ (bit_at y (7 - at % 8) == 1)
  unfolding packed_bit
  packed-written = ap (λ (x : ℕ). bit_at x (7 - at % 8) == 1) (get_or-set_same bs (at / 8) y 0 (omega arith))

  packed-other : ((i : ℕ) → i < 8 → (i ≡ 7 - at % 8 → ⊥) → bit_at y i ≡ bit_at (get_or bs (at / 8) 0) i) → (s : ℕ) → (s ≡ at → ⊥) → packed_bit (set bs (at / 8) y) s ≡ packed_bit bs s
  unfolding packed_bit
  packed-other same s ne = elim (cases_eq (s / 8) (at / 8)) [
    | inl e ↦
        let read : get_or (set bs (at / 8) y) (s / 8) 0 ≡ y = ap (λ (q : ℕ). get_or (set bs (at / 8) y) q 0) e ∙ get_or-set_same bs (at / 8) y 0 (omega arith) in
        let bit : bit_at y (7 - s % 8) ≡ bit_at (get_or bs (at / 8) 0) (7 - s % 8) = same (7 - s % 8) (omega arith) (λ q. ne (omega arith)) in
        ap (λ (x : ℕ). bit_at x (7 - s % 8) == 1) read ∙ ap (λ (x : ℕ). x == 1) bit ∙ ap (λ (q : ℕ). bit_at (get_or bs q 0) (7 - s % 8) == 1) (sym e)
    | inr e ↦ ap (λ (x : ℕ). bit_at x (7 - s % 8) == 1) (get_or-set_other bs (at / 8) (s / 8) y 0 e)
  ]

  is_used-other : ((i : ℕ) → i < 8 → (i ≡ 7 - at % 8 → ⊥) → bit_at y i ≡ bit_at (get_or bs (at / 8) 0) i) → (s : ℕ) → (s ≡ at → ⊥) → is_used (bits_of (set bs (at / 8) y)) s ≡ is_used (bits_of bs) s
  is_used-other same s ne = elim (cases_lt s (8 * length bs)) [
    | inl lt ↦ bits_of-at (set bs (at / 8) y) s (omega (arith, length-set bs (at / 8) y)) ∙ packed-other same s ne ∙ sym (bits_of-at bs s lt)
    | inr ge ↦ get_or_past (bits_of (set bs (at / 8) y)) s false (omega (arith, length-bits_of (set bs (at / 8) y), length-set bs (at / 8) y)) ∙ sym (get_or_past (bits_of bs) s false (omega (arith, length-bits_of bs)))
  ]

  pub written_bit : (v : Bool) → (bit_at y (7 - at % 8) == 1) ≡ v → ((i : ℕ) → i < 8 → (i ≡ 7 - at % 8 → ⊥) → bit_at y i ≡ bit_at (get_or bs (at / 8) 0) i) → Becomes (bits_of bs) (bits_of (set bs (at / 8) y)) at 1 v
  written_bit v bit same = record {
    size = length-bits_of (set bs (at / 8) y) ∙ ap (λ (n : ℕ). 8 * n) (length-set bs (at / 8) y) ∙ sym (length-bits_of bs);
    inside = λ s low high. let e : s ≡ at = omega arith in ap (is_used (bits_of (set bs (at / 8) y))) e ∙ bits_of-at (set bs (at / 8) y) at (omega (arith, length-set bs (at / 8) y)) ∙ packed-written ∙ bit;
    below = λ s lt. is_used-other same s (λ e. omega arith);
    above = λ s le. is_used-other same s (λ e. omega arith);
  }

pub set_bit : (used : List Bool) (bs : List ℕ) (at x : ℕ) (v : Bool) → bits_of bs ≡ used → at < length used → v ≡ true → x ≡ get_or bs (at / 8) 0 → Becomes used (bits_of (set bs (at / 8) (bit_or x (1 * 2 ^ (7 - at % 8) % 256)))) at 1 v
set_bit used bs at x v is within on read =
    let place : 7 - at % 8 < 8 = omega arith in
    let whole : at < 8 * length bs = omega (arith, length-bits_of bs, ap length is) in
    rw (← is, on) (written_bit bs at (bit_or x (1 * 2 ^ (7 - at % 8) % 256)) whole true
    (ap (λ (b : ℕ). b == 1) (bit_at_set_same w8 x (7 - at % 8) place))
    (λ i small ne. bit_at_set_other w8 x (7 - at % 8) place i ne ∙ ap (λ (y : ℕ). bit_at y i) read))

pub clear_bit : (used : List Bool) (bs : List ℕ) (at x : ℕ) (v : Bool) → bits_of bs ≡ used → at < length used → v ≡ false → x ≡ get_or bs (at / 8) 0 → Becomes used (bits_of (set bs (at / 8) (bit_and x (255 - 1 * 2 ^ (7 - at % 8) % 256)))) at 1 v
clear_bit used bs at x v is within off read =
    let place : 7 - at % 8 < 8 = omega arith in
    let whole : at < 8 * length bs = omega (arith, length-bits_of bs, ap length is) in
    rw (← is, off) (written_bit bs at (bit_and x (255 - 1 * 2 ^ (7 - at % 8) % 256)) whole false
    (ap (λ (b : ℕ). b == 1) (bit_at_clear_same w8 x (7 - at % 8) place))
    (λ i small ne. bit_at_clear_other w8 x (7 - at % 8) place i small ne ∙ ap (λ (y : ℕ). bit_at y i) read))

pub read_bit : (used : List Bool) (bs : List ℕ) (at x : ℕ) → bits_of bs ≡ used → at < length used → x ≡ get_or bs (at / 8) 0 → (bit_and (x / 2 ^ (7 - at % 8)) 1 == 1) ≡ is_used used at
unfolding packed_bit
read_bit used bs at x is within read =
    let whole : at < 8 * length bs = omega (arith, length-bits_of bs, ap length is) in
    ap (λ (b : ℕ). b == 1) (shr_and_one x (7 - at % 8)) ∙ ap (λ (y : ℕ). bit_at y (7 - at % 8) == 1) read ∙ sym (bits_of-at bs at whole) ∙ ap (λ (u : List Bool). is_used u at) is

-- the bits of a byte
module _ (used : List Bool) (bs : List ℕ) (byte : ℕ) (is : bits_of bs ≡ used) (within : byte < length bs) where
  bit_in : (s : ℕ) → 8 * byte ≤ s → s < 8 * byte + 8 → is_used used s ≡ (bit_at (get_or bs byte 0) (7 - s % 8) == 1)
  unfolding packed_bit
  bit_in s low high =
      let e : s / 8 ≡ byte = omega arith in
      ap (λ (u : List Bool). is_used u s) (sym is) ∙ bits_of-at bs s (omega arith) ∙ ap (λ (q : ℕ). bit_at (get_or bs q 0) (7 - s % 8) == 1) e

  pub clear_byte : (x : ℕ) → x ≡ get_or bs byte 0 → x ≡ 0 → AreAll used (8 * byte) 8 false
  clear_byte x read none = λ s low high. bit_in s low high ∙ ap (λ (y : ℕ). bit_at y (7 - s % 8) == 1) (sym read ∙ none) ∙ ap (λ (b : ℕ). b == 1) (bit_at-zero (7 - s % 8))

  pub byte_clear : (x : ℕ) → x ≡ get_or bs byte 0 → x < 256 → AreAll used (8 * byte) 8 false → x ≡ 0
  byte_clear x read small all = same_from_bits_below 8 x 0 small (omega arith) (λ i lt.
      let s : ℕ = 8 * byte + (7 - i) in
      let place : 7 - s % 8 ≡ i = omega arith in
      let off : (bit_at (get_or bs byte 0) (7 - s % 8) == 1) ≡ false = sym (bit_in s (omega arith) (omega arith)) ∙ all s (omega arith) (omega arith) in
      let ne : bit_at (get_or bs byte 0) (7 - s % 8) ≡ 1 → ⊥ = eqb-false _ _ off in
      let there : bit_at x i ≡ bit_at (get_or bs byte 0) (7 - s % 8) = ap (λ (y : ℕ). bit_at y i) read ∙ ap (bit_at (get_or bs byte 0)) (sym place) in
      let below : bit_at x i < 2 = bit_at-lt x i in
      let off_bit : bit_at x i ≡ 0 = zero_of (bit_at x i) below (λ e. ne (sym there ∙ e)) in
      off_bit ∙ sym (bit_at-zero i))
    where
      zero_of : (b : ℕ) → b < 2 → (b ≡ 1 → ⊥) → b ≡ 0
      zero_of b lt ne = omega arith

size_of : (n : ℕ) → length {A = ℕ} (replicate n 0) ≡ n
size_of n = length-replicate {A = ℕ} n 0

-- bytes that are 0 have no bit set
pub bits_of-zeros : (n : ℕ) → bits_of (replicate n 0) ≡ replicate (8 * n) false
unfolding packed_bit
bits_of-zeros n =
    let size : length (bits_of (replicate n 0)) ≡ 8 * n = length-bits_of (replicate n 0) ∙ ap (λ (k : ℕ). 8 * k) (size_of n) in
    same_lists _ _ (size ∙ sym (length-replicate (8 * n) false)) (λ k d h.
    get_or_default _ k d false h ∙ bits_of-at (replicate n 0) k (omega (arith, size_of n))
    ∙ ap (λ (x : ℕ). bit_at x (7 - k % 8) == 1) (get_or-replicate n (k / 8) 0 0 (omega arith))
    ∙ ap (λ (b : ℕ). b == 1) (bit_at-zero (7 - k % 8))
    ∙ sym (get_or-replicate (8 * n) k false d (omega arith)))

-- the bits of bytes of which each is the bitwise or of two
pub united : (one other new : List ℕ) → length other ≡ length one → length new ≡ length one → ((k : ℕ) → k < length one → get_or new k 0 ≡ bit_or (get_or one k 0) (get_or other k 0)) → Unites (bits_of one) (bits_of other) (bits_of new)
unfolding packed_bit
united one other new e f each = record {
  size = length-bits_of new ∙ ap (λ (n : ℕ). 8 * n) f ∙ sym (length-bits_of one);
  either = λ s. elim (cases_lt s (8 * length one)) [
    | inl lt ↦
        bits_of-at new s (omega arith)
        ∙ ap (λ (x : ℕ). bit_at x (7 - s % 8) == 1) (each (s / 8) (omega arith))
        ∙ ap (λ (b : ℕ). b == 1) (bit_at_or (get_or one (s / 8) 0) (get_or other (s / 8) 0) (7 - s % 8))
        ∙ max_is (bit_at (get_or one (s / 8) 0) (7 - s % 8)) (bit_at (get_or other (s / 8) 0) (7 - s % 8)) (bit_at-lt _ _) (bit_at-lt _ _)
        ∙ sym (ap (λ (b : Bool). b || packed_bit other s) (bits_of-at one s lt))
        ∙ sym (ap (λ (b : Bool). is_used (bits_of one) s || b) (bits_of-at other s (omega arith)))
    | inr ge ↦
        get_or_past (bits_of new) s false (omega (arith, length-bits_of new))
        ∙ sym (ap (λ (b : Bool). b || false) (get_or_past (bits_of one) s false (omega (arith, length-bits_of one))))
        ∙ sym (ap (λ (b : Bool). is_used (bits_of one) s || b) (get_or_past (bits_of other) s false (omega (arith, length-bits_of other))))
  ];
}
  where
    max_is : (a b : ℕ) → a < 2 → b < 2 → (max a b == 1) ≡ ((a == 1) || (b == 1))
    max_is zero zero _ _ = refl
    max_is zero (suc zero) _ _ = refl
    max_is (suc zero) zero _ _ = refl
    max_is (suc zero) (suc zero) _ _ = refl
    max_is zero (suc (suc b)) _ h = absurd (omega arith)
    max_is (suc zero) (suc (suc b)) _ h = absurd (omega arith)
    max_is (suc (suc a)) b h _ = absurd (omega arith)

-- one more byte is united
pub or_step : (one now added : List ℕ) (at x : ℕ) → at < length now → x ≡ get_or now at 0 → get_or now at 0 ≡ get_or one at 0 → ((k : ℕ) → k < at → get_or now k 0 ≡ bit_or (get_or one k 0) (get_or added k 0)) → (k : ℕ) → k < at + 1 → get_or (set now at (bit_or x (get_or added at 0))) k 0 ≡ bit_or (get_or one k 0) (get_or added k 0)
or_step one now added at x within read same passed k below = elim (cases_eq k at) [
  | inl e ↦ rw (e, get_or-set_same now at (bit_or x (get_or added at 0)) 0 within) (ap (λ (y : ℕ). bit_or y (get_or added at 0)) (read ∙ same))
  | inr e ↦ get_or-set_other now at k (bit_or x (get_or added at 0)) 0 e ∙ passed k (at_below k at below e)
]
  where
    at_below : (i j : ℕ) → i < j + 1 → (i ≡ j → ⊥) → i < j
    at_below i j h ne = omega arith

-- the bits of some of the bytes are some of the bits
pub bits_of-part : (bs : List ℕ) (r : ℕ) → 496 * r + 496 ≤ length bs → bits_of (take 496 (drop (496 * r) bs)) ≡ take 3968 (drop (3968 * r) (bits_of bs))
unfolding packed_bit
bits_of-part bs r within =
    let part = take 496 (drop (496 * r) bs) in
    let few : length part ≡ 496 = length-take-le 496 (drop (496 * r) bs) (omega (arith, length-drop (496 * r) bs)) in
    let bits : length (bits_of part) ≡ 3968 = omega (arith, length-bits_of part) in
    let back : length (take 3968 (drop (3968 * r) (bits_of bs))) ≡ 3968 = length-take-le 3968 (drop (3968 * r) (bits_of bs)) (omega (arith, length-drop (3968 * r) (bits_of bs), length-bits_of bs)) in
    same_lists _ _ (bits ∙ sym back) (λ k d h.
    let byte : 496 * r + k / 8 ≡ (3968 * r + k) / 8 = omega arith in
    let bit : 7 - k % 8 ≡ 7 - (3968 * r + k) % 8 = omega arith in
    get_or_default (bits_of part) k d false h ∙ bits_of-at part k (omega arith)
    ∙ ap (λ (x : ℕ). bit_at x (7 - k % 8) == 1) (get_or-take 496 (drop (496 * r) bs) (k / 8) 0 (omega arith) ∙ get_or-drop (496 * r) bs (k / 8) 0 ∙ ap (λ (q : ℕ). get_or bs q 0) byte)
    ∙ ap (λ (q : ℕ). bit_at (get_or bs ((3968 * r + k) / 8) 0) q == 1) bit
    ∙ sym (bits_of-at bs (3968 * r + k) (omega arith))
    ∙ get_or_default (bits_of bs) (3968 * r + k) false d (omega (arith, length-bits_of bs))
    ∙ sym (get_or-drop (3968 * r) (bits_of bs) k d)
    ∙ sym (get_or-take 3968 (drop (3968 * r) (bits_of bs)) k d (omega arith)))

same_bit : (a b : ℕ) → a < 2 → b < 2 → (a == 1) ≡ (b == 1) → a ≡ b
same_bit a b p q e = elim (cases_eq b 1) [
  | inl one ↦ eqb-true a 1 (e ∙ eq-eqb b 1 one) ∙ sym one
  | inr other ↦ both_zero a b p q (eqb-false a 1 (e ∙ ne_eqb b 1 other)) other
]
  where
    both_zero : (a b : ℕ) → a < 2 → b < 2 → (a ≡ 1 → ⊥) → (b ≡ 1 → ⊥) → a ≡ b
    both_zero a b p q f g = omega arith

-- bytes with the same bits are the same
pub same_from_bits_of : (xs ys : List ℕ) → length xs ≡ length ys → ((i : ℕ) → get_or xs i 0 < 256) → ((i : ℕ) → get_or ys i 0 < 256) → bits_of xs ≡ bits_of ys → xs ≡ ys
unfolding packed_bit
same_from_bits_of xs ys len small_x small_y same = ext_get_or 0 xs ys len (λ k h.
    same_from_bits_below 8 (get_or xs k 0) (get_or ys k 0) (small_x k) (small_y k) (λ i lt.
    let at : (8 * k + (7 - i)) / 8 ≡ k = omega arith in
    let bit : 7 - (8 * k + (7 - i)) % 8 ≡ i = omega arith in
    let of_x : packed_bit xs (8 * k + (7 - i)) ≡ (bit_at (get_or xs k 0) i == 1) = ap (λ (q : ℕ). bit_at (get_or xs q 0) (7 - (8 * k + (7 - i)) % 8) == 1) at ∙ ap (λ (q : ℕ). bit_at (get_or xs k 0) q == 1) bit in
    let of_y : packed_bit ys (8 * k + (7 - i)) ≡ (bit_at (get_or ys k 0) i == 1) = ap (λ (q : ℕ). bit_at (get_or ys q 0) (7 - (8 * k + (7 - i)) % 8) == 1) at ∙ ap (λ (q : ℕ). bit_at (get_or ys k 0) q == 1) bit in
    same_bit (bit_at (get_or xs k 0) i) (bit_at (get_or ys k 0) i) (bit_at-lt _ _) (bit_at-lt _ _)
    (sym of_x ∙ sym (bits_of-at xs (8 * k + (7 - i)) (omega arith)) ∙ ap (λ (u : List Bool). is_used u (8 * k + (7 - i))) same ∙ bits_of-at ys (8 * k + (7 - i)) (omega arith) ∙ of_y)))
