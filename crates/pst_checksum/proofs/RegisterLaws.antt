-- The checksum's register is linear: what a sum of numbers makes of it is the sum of what each makes.
use Rattle.std.proofs.Common.{◌≡◌, ℕ, zero, suc, ◌+◌, ◌*◌, ◌/◌, ◌%◌, ◌^◌, ◌<◌, ◌≤◌, ◌==◌, if◌then◌else◌, bit_xor, List, [], ◌∷◌, length, get_or, drop, refl, sym, ap, ◌∙◌, arith}
use Rattle.std.proofs.lemmas.Nat.{xor_comm, xor_mod, xor_shr, shr_split, shr-shr}
use lib.Bits.{xor_assoc, xor_self, xor_zero_r, xor_shifted, shifted_half, shifted_even}
use Rattle.byteorder.specs.Endian.{little_number}
use Rattle.byteorder.specs.Numbers.{little_from-cons}
use Rattle.pst_checksum.specs.Crc.{after_bit, after_bits, crc_from}

-- one bit on, from the bit that falls out and the half
abbrev fell : ℕ → ℕ → ℕ
fell r q = if r == 1 then bit_xor q 0xEDB88320 else q

after_bit-fell : (c : ℕ) → after_bit c ≡ fell (c % 2) (c / 2)
unfolding after_bit
after_bit-fell c = refl

swap_middle : (q t p : ℕ) → bit_xor (bit_xor q t) p ≡ bit_xor (bit_xor q p) t
swap_middle q t p = xor_assoc q t p ∙ ap (bit_xor q) (xor_comm t p) ∙ sym (xor_assoc q p t)

cancel_both : (q t p : ℕ) → bit_xor q t ≡ bit_xor (bit_xor q p) (bit_xor t p)
cancel_both q t p =
    sym (sym (xor_assoc (bit_xor q p) t p) ∙ ap (λ (x : ℕ). bit_xor x p) (swap_middle q p t) ∙ xor_assoc (bit_xor q t) p p ∙ ap (bit_xor (bit_xor q t)) (xor_self p) ∙ xor_zero_r (bit_xor q t))

fell-xor : (r s q t : ℕ) → r < 2 → s < 2 → fell (bit_xor r s) (bit_xor q t) ≡ bit_xor (fell r q) (fell s t)
fell-xor zero zero q t hr hs = refl
fell-xor zero (suc zero) q t hr hs = xor_assoc q t 0xEDB88320
fell-xor zero (suc (suc s)) q t hr hs = absurd (omega arith)
fell-xor (suc zero) zero q t hr hs = swap_middle q t 0xEDB88320
fell-xor (suc zero) (suc zero) q t hr hs = cancel_both q t 0xEDB88320
fell-xor (suc zero) (suc (suc s)) q t hr hs = absurd (omega arith)
fell-xor (suc (suc r)) s q t hr hs = absurd (omega arith)

after_bit-xor : (a b : ℕ) → after_bit (bit_xor a b) ≡ bit_xor (after_bit a) (after_bit b)
after_bit-xor a b =
    let odd : bit_xor a b % 2 ≡ bit_xor (a % 2) (b % 2) = xor_mod a b 1 in
    let half : bit_xor a b / 2 ≡ bit_xor (a / 2) (b / 2) = xor_shr a b 1 in
    after_bit-fell (bit_xor a b)
    ∙ ap (λ (r : ℕ). fell r (bit_xor a b / 2)) odd
    ∙ ap (λ (q : ℕ). fell (bit_xor (a % 2) (b % 2)) q) half
    ∙ fell-xor (a % 2) (b % 2) (a / 2) (b / 2) (omega arith) (omega arith)
    ∙ ap (λ (x : ℕ). bit_xor x (fell (b % 2) (b / 2))) (sym (after_bit-fell a))
    ∙ ap (λ (x : ℕ). bit_xor (after_bit a) x) (sym (after_bit-fell b))

pub after_bits-xor : (n a b : ℕ) → after_bits n (bit_xor a b) ≡ bit_xor (after_bits n a) (after_bits n b)
unfolding after_bits
after_bits-xor zero a b = refl
after_bits-xor (suc n) a b = ap (after_bits n) (after_bit-xor a b) ∙ after_bits-xor n (after_bit a) (after_bit b)

pub after_bits-add : (m n c : ℕ) → after_bits (m + n) c ≡ after_bits n (after_bits m c)
unfolding after_bits
after_bits-add zero n c = let e : zero + n ≡ n = omega arith in ap (λ (k : ℕ). after_bits k c) e
after_bits-add (suc m) n c =
    let e : suc m + n ≡ suc (m + n) = omega arith in
    ap (λ (k : ℕ). after_bits k c) e ∙ after_bits-add m n (after_bit c)

after_bit-shifted : (n a : ℕ) → after_bit (a * 2 ^ suc n) ≡ a * 2 ^ n
after_bit-shifted n a =
    after_bit-fell (a * 2 ^ suc n)
    ∙ ap (λ (r : ℕ). fell r (a * 2 ^ suc n / 2)) (shifted_even a n)
    ∙ shifted_half a n

-- a number above all bits that fall out comes down as it is
pub after_bits-shifted : (n a : ℕ) → after_bits n (a * 2 ^ n) ≡ a
unfolding after_bits
after_bits-shifted zero a = let e : a * 1 ≡ a = omega arith in e
after_bits-shifted (suc n) a = ap (after_bits n) (after_bit-shifted n a) ∙ after_bits-shifted n a

pub after_bits-none : (c : ℕ) → after_bits 0 c ≡ c
unfolding after_bits
after_bits-none c = refl

-- the lowest byte and the rest go on apart
after_bits-low : (n y : ℕ) → after_bits (8 + n) y ≡ bit_xor (after_bits n (y / 2 ^ 8)) (after_bits (8 + n) (y % 2 ^ 8))
after_bits-low n y =
    let h = y / 2 ^ 8 in
    let low : y % 2 ^ 8 < 2 ^ 8 = omega arith in
    ap (after_bits (8 + n)) (sym (shr_split y 8) ∙ sym (xor_shifted h 8 (y % 2 ^ 8) low))
    ∙ after_bits-xor (8 + n) (h * 2 ^ 8) (y % 2 ^ 8)
    ∙ ap (λ (x : ℕ). bit_xor x (after_bits (8 + n) (y % 2 ^ 8))) (after_bits-add 8 n (h * 2 ^ 8) ∙ ap (after_bits n) (after_bits-shifted 8 h))

after_bits-split : (n k y : ℕ)
    → after_bits (8 + n) (y / 2 ^ k) ≡ bit_xor (after_bits n (y / 2 ^ (k + 8))) (after_bits (8 + n) (y / 2 ^ k % 2 ^ 8))
after_bits-split n k y =
    after_bits-low n (y / 2 ^ k) ∙ ap (λ (h : ℕ). bit_xor (after_bits n h) (after_bits (8 + n) (y / 2 ^ k % 2 ^ 8))) (shr-shr y k 8)

-- what each of the 8 bytes of y makes of the register, with s bits more to go
abbrev pub eight_parts : ℕ → ℕ → ℕ
eight_parts s y =
    bit_xor (bit_xor (bit_xor (bit_xor (bit_xor (bit_xor (bit_xor
    (after_bits (8 + s) (y / 2 ^ 56))
    (after_bits (8 + (8 + s)) (y / 2 ^ 48 % 2 ^ 8)))
    (after_bits (8 + (8 + (8 + s))) (y / 2 ^ 40 % 2 ^ 8)))
    (after_bits (8 + (8 + (8 + (8 + s)))) (y / 2 ^ 32 % 2 ^ 8)))
    (after_bits (8 + (8 + (8 + (8 + (8 + s))))) (y / 2 ^ 24 % 2 ^ 8)))
    (after_bits (8 + (8 + (8 + (8 + (8 + (8 + s)))))) (y / 2 ^ 16 % 2 ^ 8)))
    (after_bits (8 + (8 + (8 + (8 + (8 + (8 + (8 + s))))))) (y / 2 ^ 8 % 2 ^ 8)))
    (after_bits (8 + (8 + (8 + (8 + (8 + (8 + (8 + (8 + s)))))))) (y % 2 ^ 8))

pub after_bits-eight : (s y : ℕ) → after_bits (8 + (8 + (8 + (8 + (8 + (8 + (8 + (8 + s)))))))) y ≡ eight_parts s y
after_bits-eight s y =
    rw (
      after_bits-low (8 + (8 + (8 + (8 + (8 + (8 + (8 + s))))))) y,
      after_bits-split (8 + (8 + (8 + (8 + (8 + (8 + s)))))) 8 y,
      after_bits-split (8 + (8 + (8 + (8 + (8 + s))))) 16 y,
      after_bits-split (8 + (8 + (8 + (8 + s)))) 24 y,
      after_bits-split (8 + (8 + (8 + s))) 32 y,
      after_bits-split (8 + (8 + s)) 40 y,
      after_bits-split (8 + s) 48 y,
    ) refl

-- a byte that is added to the register, of which the table knows only the lowest byte
pub after_bits-byte : (c b : ℕ) → b < 256 → bit_xor (after_bits 8 (bit_xor (c % 2 ^ 8) b)) (c / 2 ^ 8) ≡ after_bits 8 (bit_xor c b)
after_bits-byte c b h =
    let gone : b / 2 ^ 8 ≡ 0 = omega arith in
    let same : b % 2 ^ 8 ≡ b = omega arith in
    let high : bit_xor c b / 2 ^ 8 ≡ c / 2 ^ 8 = xor_shr c b 8 ∙ ap (bit_xor (c / 2 ^ 8)) gone ∙ xor_zero_r (c / 2 ^ 8) in
    let low : bit_xor c b % 2 ^ 8 ≡ bit_xor (c % 2 ^ 8) b = xor_mod c b 8 ∙ ap (bit_xor (c % 2 ^ 8)) same in
    sym (after_bits-low 0 (bit_xor c b)
    ∙ ap (λ (x : ℕ). bit_xor x (after_bits 8 (bit_xor c b % 2 ^ 8))) (after_bits-none (bit_xor c b / 2 ^ 8) ∙ high)
    ∙ ap (λ (x : ℕ). bit_xor (c / 2 ^ 8) (after_bits 8 x)) low
    ∙ xor_comm (c / 2 ^ 8) (after_bits 8 (bit_xor (c % 2 ^ 8) b)))

pub crc_from-nil : (c : ℕ) → crc_from c [] ≡ c
unfolding crc_from
crc_from-nil c = refl

pub crc_from-cons : (c b : ℕ) (bs : List ℕ) → crc_from c (b ∷ bs) ≡ crc_from (after_bits 8 (bit_xor c b)) bs
unfolding crc_from
crc_from-cons c b bs = refl

-- a byte below a number
add_below : (m c b n : ℕ) → b < 256
    → after_bits (8 + m) (bit_xor c (b + 256 * n)) ≡ after_bits m (bit_xor (after_bits 8 (bit_xor c b)) n)
add_below m c b n h =
    let e : b + 256 * n ≡ n * 2 ^ 8 + b = omega arith in
    let apart : bit_xor c (b + 256 * n) ≡ bit_xor (bit_xor c b) (n * 2 ^ 8) =
    ap (bit_xor c) (e ∙ sym (xor_shifted n 8 b h) ∙ xor_comm (n * 2 ^ 8) b) ∙ sym (xor_assoc c b (n * 2 ^ 8)) in
    ap (after_bits (8 + m)) apart
    ∙ after_bits-add 8 m (bit_xor (bit_xor c b) (n * 2 ^ 8))
    ∙ ap (after_bits m) (after_bits-xor 8 (bit_xor c b) (n * 2 ^ 8) ∙ ap (bit_xor (after_bits 8 (bit_xor c b))) (after_bits-shifted 8 n))

-- the first n bytes, added as one number
pub crc_from-number : (n c : ℕ) (bs : List ℕ) → n ≤ length bs → ((i : ℕ) → get_or bs i 0 < 256)
    → crc_from c bs ≡ crc_from (after_bits (8 * n) (bit_xor c (little_number n bs))) (drop n bs)
crc_from-number zero c bs len fit =
    ap (λ (x : ℕ). crc_from x bs) (sym (after_bits-none (bit_xor c 0) ∙ xor_zero_r c))
crc_from-number (suc n) c [] len fit = absurd (omega arith)
crc_from-number (suc n) c (b ∷ bs) len fit =
    let m : 8 * suc n ≡ 8 + 8 * n = omega arith in
    let first : b < 256 = fit 0 in
    let number : little_number (suc n) (b ∷ bs) ≡ b + 256 * little_number n bs = ap (λ (x : ℕ). b + 256 * x) (little_from-cons 0 n b bs) in
    let step : after_bits (8 * suc n) (bit_xor c (little_number (suc n) (b ∷ bs))) ≡ after_bits (8 * n) (bit_xor (after_bits 8 (bit_xor c b)) (little_number n bs)) =
    ap (λ (k : ℕ). after_bits k (bit_xor c (little_number (suc n) (b ∷ bs)))) m
    ∙ ap (λ (x : ℕ). after_bits (8 + 8 * n) (bit_xor c x)) number
    ∙ add_below (8 * n) c b (little_number n bs) first in
    crc_from-cons c b bs
    ∙ crc_from-number n (after_bits 8 (bit_xor c b)) bs (omega arith) (λ i. fit (suc i))
    ∙ ap (λ (x : ℕ). crc_from x (drop n bs)) (sym step)
