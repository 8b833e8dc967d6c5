-- A word that is taken out leaves the checksum as it is.
use Rattle.std.proofs.Common.{◌≡◌, ℕ, zero, suc, ◌+◌, ◌*◌, ◌-◌, ◌/◌, ◌%◌, ◌^◌, ◌<◌, ◌≤◌, bit_xor, List, [], ◌∷◌, length, get_or, drop, refl, sym, ap, ◌∙◌, arith}
use Rattle.std.proofs.lemmas.List.{get_or-drop, length-drop}
use Rattle.std.proofs.lemmas.Nat.{xor_comm, xor_lt, shl-shr, shr-shr, shr_le, shr_split}
use Rattle.std.proofs.Math.Pow.{shr_lt}
use lib.Bits.{xor_assoc, xor_self, xor_shifted, xor_zero_l, xor_zero_r}
use Rattle.pst_base.proofs.FieldLaws.{number_at-zero}
use Rattle.pst_base.proofs.Numbers.{number_at-fits}
use Rattle.pst_base.specs.Fields.{number_at}
use Rattle.pst_checksum.specs.Crc.{after_bit, after_bits, crc_from, crc_of}
use Rattle.pst_checksum.specs.Taken.{carried, crc_added, crc_taken, shifted}
use Rattle.pst_checksum.proofs.RegisterLaws.{after_bits-add, after_bits-none, after_bits-shifted, after_bits-xor, crc_from-cons, crc_from-nil, crc_from-number}

crc_of-from : (bs : List ℕ) → crc_of bs ≡ crc_from 0 bs
unfolding crc_of
crc_of-from bs = refl

-- what the register held is added at the end
pub crc_from-apart : (c : ℕ) (bs : List ℕ) → crc_from c bs ≡ bit_xor (after_bits (8 * length bs) c) (crc_from 0 bs)
crc_from-apart c [] = crc_from-nil c ∙ sym (ap (bit_xor (after_bits 0 c)) (crc_from-nil 0) ∙ xor_zero_r (after_bits 0 c) ∙ after_bits-none c)
crc_from-apart c (b ∷ bs) =
    let m = 8 * length bs in
    let more : 8 * suc (length bs) ≡ 8 + m = omega arith in
    let rest = crc_from 0 bs in
    crc_from-cons c b bs
    ∙ crc_from-apart (after_bits 8 (bit_xor c b)) bs
    ∙ ap (λ (x : ℕ). bit_xor x rest) (ap (after_bits m) (after_bits-xor 8 c b) ∙ after_bits-xor m (after_bits 8 c) (after_bits 8 b))
    ∙ xor_assoc (after_bits m (after_bits 8 c)) (after_bits m (after_bits 8 b)) rest
    ∙ ap (λ (x : ℕ). bit_xor x (bit_xor (after_bits m (after_bits 8 b)) rest)) (sym (after_bits-add 8 m c) ∙ ap (λ (k : ℕ). after_bits k c) (sym more))
    ∙ ap (bit_xor (after_bits (8 * suc (length bs)) c))
    (sym (crc_from-cons 0 b bs ∙ crc_from-apart (after_bits 8 (bit_xor 0 b)) bs ∙ ap (λ (x : ℕ). bit_xor (after_bits m (after_bits 8 x)) rest) (xor_zero_l b)))

after_bits-zero : (n : ℕ) → after_bits n 0 ≡ 0
after_bits-zero n = after_bits-xor n 0 0 ∙ xor_self (after_bits n 0)

middle : (a b c d : ℕ) → bit_xor (bit_xor a b) (bit_xor c d) ≡ bit_xor (bit_xor a c) (bit_xor b d)
middle a b c d =
    xor_assoc a b (bit_xor c d)
    ∙ ap (bit_xor a) (sym (xor_assoc b c d) ∙ ap (λ (x : ℕ). bit_xor x d) (xor_comm b c) ∙ xor_assoc c b d)
    ∙ sym (xor_assoc a c (bit_xor b d))

swap_last : (a b c : ℕ) → bit_xor a (bit_xor b c) ≡ bit_xor (bit_xor b a) c
swap_last a b c = sym (xor_assoc a b c) ∙ ap (λ (x : ℕ). bit_xor x c) (xor_comm a b)

-- what words make, each 64 bits above the next and the last 64 bits above m more
abbrev spread : ℕ → List ℕ → ℕ
spread m [] = 0
spread m (w ∷ ws) = bit_xor (after_bits (64 * length (w ∷ ws) + m) w) (spread m ws)

first_word : (c : ℕ) (bs : List ℕ) → 8 ≤ length bs → ((i : ℕ) → get_or bs i 0 < 256)
    → crc_from (after_bits 64 (bit_xor c (number_at 8 0 bs))) (drop 8 bs) ≡ crc_from c bs
first_word c bs len fit =
    ap (λ (n : ℕ). crc_from (after_bits 64 (bit_xor c n)) (drop 8 bs)) (number_at-zero 8 bs) ∙ sym (crc_from-number 8 c bs len fit)

fit_drop : (n : ℕ) (bs : List ℕ) → ((i : ℕ) → get_or bs i 0 < 256) → (i : ℕ) → get_or (drop n bs) i 0 < 256
fit_drop n bs fit i = let e = get_or-drop n bs i 0 in let f : get_or bs (n + i) 0 < 256 = fit (n + i) in omega (arith, e, f)

-- words that are added count apart from the bytes
crc_added-apart : (ws : List ℕ) (c m : ℕ) (bs : List ℕ) → 8 * length bs ≡ 64 * length ws + m → ((i : ℕ) → get_or bs i 0 < 256)
    → crc_added c ws bs ≡ bit_xor (spread m ws) (crc_from c bs)
unfolding crc_added
crc_added-apart [] c m bs len fit = sym (xor_zero_l (crc_from c bs))
crc_added-apart (w ∷ ws) c m bs len fit =
    let l = length-drop 8 bs in
    let len2 : 8 * length bs ≡ 64 * suc (length ws) + m = len in
    let n = number_at 8 0 bs in
    let rest = drop 8 bs in
    let bits = 64 * length (w ∷ ws) + m in
    let aw = after_bits bits w in
    let swapped : bit_xor (bit_xor c w) n ≡ bit_xor (bit_xor w c) n = ap (λ (x : ℕ). bit_xor x n) (xor_comm c w) in
    let all : crc_from (after_bits 64 (bit_xor (bit_xor c w) n)) rest ≡ bit_xor aw (crc_from c bs) =
    ap (λ (x : ℕ). crc_from (after_bits 64 x) rest) swapped
    ∙ first_word (bit_xor w c) bs (omega (arith, len2)) fit
    ∙ crc_from-apart (bit_xor w c) bs
    ∙ ap (λ (k : ℕ). bit_xor (after_bits k (bit_xor w c)) (crc_from 0 bs)) len
    ∙ ap (λ (x : ℕ). bit_xor x (crc_from 0 bs)) (after_bits-xor bits w c)
    ∙ xor_assoc aw (after_bits bits c) (crc_from 0 bs)
    ∙ ap (bit_xor aw) (sym (crc_from-apart c bs ∙ ap (λ (k : ℕ). bit_xor (after_bits k c) (crc_from 0 bs)) len)) in
    crc_added-apart ws (after_bits 64 (bit_xor (bit_xor c w) n)) m rest (omega (arith, len2, l)) (fit_drop 8 bs fit)
    ∙ ap (bit_xor (spread m ws)) all
    ∙ swap_last (spread m ws) aw (crc_from c bs)

-- the multiple of the polynomial: a bit, and the same bit 145, 183, 211 and 300 bits further on
multiple : after_bits 300 1 ≡ bit_xor (bit_xor (after_bits 155 1) (after_bits 117 1)) (bit_xor (after_bits 89 1) (after_bits 0 1))
unfolding after_bit after_bits
multiple = refl

-- a number at the places of the multiple's terms but the top one, with k bits after the last
abbrev terms : ℕ → ℕ → ℕ
terms k v = bit_xor (bit_xor (after_bits (155 + k) v) (after_bits (117 + k) v)) (bit_xor (after_bits (89 + k) v) (after_bits k v))

terms-xor : (k v w : ℕ) → terms k (bit_xor v w) ≡ bit_xor (terms k v) (terms k w)
terms-xor k v w =
    let a = after_bits (155 + k) in
    let b = after_bits (117 + k) in
    let c = after_bits (89 + k) in
    let d = after_bits k in
    rw (after_bits-xor (155 + k) v w, after_bits-xor (117 + k) v w, after_bits-xor (89 + k) v w, after_bits-xor k v w)
    (ap (λ (x : ℕ). bit_xor x (bit_xor (bit_xor (c v) (c w)) (bit_xor (d v) (d w)))) (middle (a v) (a w) (b v) (b w))
    ∙ ap (bit_xor (bit_xor (bit_xor (a v) (b v)) (bit_xor (a w) (b w)))) (middle (c v) (c w) (d v) (d w))
    ∙ middle (bit_xor (a v) (b v)) (bit_xor (a w) (b w)) (bit_xor (c v) (d v)) (bit_xor (c w) (d w)))

-- the same number, some bits on
terms-more : (k m v : ℕ) → after_bits m (terms k v) ≡ terms (k + m) v
terms-more k m v =
    let e1 : 155 + k + m ≡ 155 + (k + m) = omega arith in
    let e2 : 117 + k + m ≡ 117 + (k + m) = omega arith in
    let e3 : 89 + k + m ≡ 89 + (k + m) = omega arith in
    rw (
      after_bits-xor m (bit_xor (after_bits (155 + k) v) (after_bits (117 + k) v)) (bit_xor (after_bits (89 + k) v) (after_bits k v)),
      after_bits-xor m (after_bits (155 + k) v) (after_bits (117 + k) v),
      after_bits-xor m (after_bits (89 + k) v) (after_bits k v),
      ← after_bits-add (155 + k) m v,
      ← after_bits-add (117 + k) m v,
      ← after_bits-add (89 + k) m v,
      ← after_bits-add k m v,
      e1,
      e2,
      e3,
    ) refl

one_on : (n k h : ℕ) → after_bits (n + suc k) (h * 2 ^ 1) ≡ after_bits (n + k) h
one_on n k h =
    let e : n + suc k ≡ 1 + (n + k) = omega arith in
    ap (λ (j : ℕ). after_bits j (h * 2 ^ 1)) e ∙ after_bits-add 1 (n + k) (h * 2 ^ 1) ∙ ap (after_bits (n + k)) (after_bits-shifted 1 h)

last_on : (k h : ℕ) → after_bits (suc k) (h * 2 ^ 1) ≡ after_bits k h
last_on k h =
    let e : suc k ≡ 1 + k = omega arith in
    ap (λ (j : ℕ). after_bits j (h * 2 ^ 1)) e ∙ after_bits-add 1 k (h * 2 ^ 1) ∙ ap (after_bits k) (after_bits-shifted 1 h)

terms-shifted : (k h : ℕ) → terms (suc k) (h * 2 ^ 1) ≡ terms k h
terms-shifted k h = rw (one_on 155 k h, one_on 117 k h, one_on 89 k h, last_on k h) refl

-- the lowest bit of a number
terms-bit : (k r : ℕ) → r < 2 → after_bits (300 + k) r ≡ terms k r
terms-bit k zero h =
    rw (after_bits-zero (300 + k), after_bits-zero (155 + k), after_bits-zero (117 + k), after_bits-zero (89 + k), after_bits-zero k) refl
terms-bit k (suc zero) h =
    let e : 0 + k ≡ k = omega arith in
    after_bits-add 300 k 1 ∙ ap (after_bits k) multiple ∙ terms-more 0 k 1 ∙ ap (λ (j : ℕ). terms j 1) e
terms-bit k (suc (suc r)) h = absurd (omega arith)

-- a number below 2 ^ k, k bits or more before the end
terms-top : (k v : ℕ) → v < 2 ^ k → after_bits (300 + k) v ≡ terms k v
terms-top zero v h = let none : v ≡ 0 = omega (arith, h) in rw none (terms-bit 0 0 (omega arith))
terms-top (suc k) v h =
    let half = v / 2 ^ 1 in
    let low = v % 2 ^ 1 in
    let bit : v % 2 ^ 1 < 2 = omega arith in
    let apart : bit_xor (half * 2 ^ 1) low ≡ v = xor_shifted half 1 low bit ∙ shr_split v 1 in
    let e : suc k ≡ k + 1 = omega arith in
    let fits : v < 2 ^ (k + 1) = rw e at h in
    ap (after_bits (300 + suc k)) (sym apart)
    ∙ after_bits-xor (300 + suc k) (half * 2 ^ 1) low
    ∙ ap (λ (x : ℕ). bit_xor x (after_bits (300 + suc k) low)) (one_on 300 k half ∙ terms-top k half (shr_lt k 1 fits) ∙ sym (terms-shifted k half))
    ∙ ap (bit_xor (terms (suc k) (half * 2 ^ 1))) (terms-bit (suc k) low bit)
    ∙ sym (terms-xor (suc k) (half * 2 ^ 1) low)
    ∙ ap (terms (suc k)) apart

left_comm : (a b c : ℕ) → bit_xor a (bit_xor b c) ≡ bit_xor b (bit_xor a c)
left_comm a b c = swap_last a b c ∙ xor_assoc b a c

mod_fits : (x : ℕ) → x % 2 ^ 64 < 2 ^ 64
mod_fits x = omega arith

-- a word moved k bits on is within the word that it came into and the next
shifted-apart : (j k n high_bits all_bits x : ℕ) → k + j ≡ 64 → high_bits ≡ 64 + n → all_bits ≡ j + n
    → bit_xor (after_bits high_bits (x * 2 ^ k % 2 ^ 64)) (after_bits n (x / 2 ^ j)) ≡ after_bits all_bits x
shifted-apart j k n high_bits all_bits x all eh ea =
    let y = x * 2 ^ k in
    let q = y / 2 ^ 64 in
    let low = y % 2 ^ 64 in
    let high : q ≡ x / 2 ^ j = ap (λ (i : ℕ). y / 2 ^ i) (sym all) ∙ sym (shr-shr y k j) ∙ ap (λ (z : ℕ). z / 2 ^ j) (shl-shr x k) in
    let bits : 64 + n ≡ k + (j + n) = omega (arith, all) in
    let whole : after_bits (64 + n) y ≡ after_bits (j + n) x =
    ap (λ (i : ℕ). after_bits i y) bits ∙ after_bits-add k (j + n) y ∙ ap (after_bits (j + n)) (after_bits-shifted k x) in
    ap (λ (i : ℕ). bit_xor (after_bits i low) (after_bits n (x / 2 ^ j))) eh
    ∙ ap (bit_xor (after_bits (64 + n) low)) (ap (after_bits n) (sym high) ∙ sym (after_bits-add 64 n (q * 2 ^ 64) ∙ ap (after_bits n) (after_bits-shifted 64 q)))
    ∙ xor_comm (after_bits (64 + n) low) (after_bits (64 + n) (q * 2 ^ 64))
    ∙ sym (after_bits-xor (64 + n) (q * 2 ^ 64) low)
    ∙ ap (after_bits (64 + n)) (xor_shifted q 64 low (mod_fits y) ∙ shr_split y 64)
    ∙ whole
    ∙ ap (λ (i : ℕ). after_bits i x) (sym ea)

-- what a word that is taken out adds to the words 2, 3, 4 and 5 words on
abbrev second_on : ℕ → ℕ
second_on f = bit_xor (f * 2 ^ 17 % 2 ^ 64) (f * 2 ^ 55 % 2 ^ 64)

abbrev third_on : ℕ → ℕ
third_on f = bit_xor (bit_xor (f / 2 ^ 47) (f / 2 ^ 9)) (f * 2 ^ 19 % 2 ^ 64)

abbrev fourth_on : ℕ → ℕ
fourth_on f = bit_xor (f / 2 ^ 45) (f * 2 ^ 44 % 2 ^ 64)

abbrev fifth_on : ℕ → ℕ
fifth_on f = f / 2 ^ 20

four_pairs : (a b c d e f g h : ℕ)
    → bit_xor (bit_xor a b) (bit_xor (bit_xor (bit_xor c d) e) (bit_xor (bit_xor f g) h))
    ≡ bit_xor (bit_xor (bit_xor a c) (bit_xor b d)) (bit_xor (bit_xor e f) (bit_xor g h))
four_pairs a b c d e f g h = simp (xor_assoc, left_comm)

-- those are the multiple's terms
taken_word : (m f : ℕ) → f < 2 ^ 64
    → bit_xor (after_bits (256 + m) (second_on f)) (bit_xor (after_bits (192 + m) (third_on f)) (bit_xor (after_bits (128 + m) (fourth_on f)) (after_bits (64 + m) (fifth_on f))))
    ≡ after_bits (384 + m) f
taken_word m f fit =
    let s17 = f * 2 ^ 17 % 2 ^ 64 in
    let s55 = f * 2 ^ 55 % 2 ^ 64 in
    let s19 = f * 2 ^ 19 % 2 ^ 64 in
    let s44 = f * 2 ^ 44 % 2 ^ 64 in
    let k = 64 + (20 + m) in
    let p17 : bit_xor (after_bits (256 + m) s17) (after_bits (192 + m) (f / 2 ^ 47)) ≡ after_bits (155 + k) f =
    shifted-apart 47 17 (192 + m) (256 + m) (155 + k) f refl (omega arith) (omega arith) in
    let p55 : bit_xor (after_bits (256 + m) s55) (after_bits (192 + m) (f / 2 ^ 9)) ≡ after_bits (117 + k) f =
    shifted-apart 9 55 (192 + m) (256 + m) (117 + k) f refl (omega arith) (omega arith) in
    let p19 : bit_xor (after_bits (192 + m) s19) (after_bits (128 + m) (f / 2 ^ 45)) ≡ after_bits (89 + k) f =
    shifted-apart 45 19 (128 + m) (192 + m) (89 + k) f refl (omega arith) (omega arith) in
    let p44 : bit_xor (after_bits (128 + m) s44) (after_bits (64 + m) (f / 2 ^ 20)) ≡ after_bits k f =
    shifted-apart 20 44 (64 + m) (128 + m) k f refl (omega arith) (omega arith) in
    let bits : 384 + m ≡ 300 + 64 + (20 + m) = omega arith in
    let top : after_bits (384 + m) f ≡ terms k f =
    ap (λ (n : ℕ). after_bits n f) bits ∙ after_bits-add (300 + 64) (20 + m) f ∙ ap (after_bits (20 + m)) (terms-top 64 f fit) ∙ terms-more 64 (20 + m) f in
    rw (
      after_bits-xor (256 + m) s17 s55,
      after_bits-xor (192 + m) (bit_xor (f / 2 ^ 47) (f / 2 ^ 9)) s19,
      after_bits-xor (192 + m) (f / 2 ^ 47) (f / 2 ^ 9),
      after_bits-xor (128 + m) (f / 2 ^ 45) s44,
    )
    (four_pairs (after_bits (256 + m) s17) (after_bits (256 + m) s55) (after_bits (192 + m) (f / 2 ^ 47)) (after_bits (192 + m) (f / 2 ^ 9)) (after_bits (192 + m) s19) (after_bits (128 + m) (f / 2 ^ 45)) (after_bits (128 + m) s44) (after_bits (64 + m) (f / 2 ^ 20))
    ∙ rw (p17, p55, p19, p44) (sym top))

carried_second : (f e d c : ℕ) → carried f e d c ≡ bit_xor (carried 0 e d c) (second_on f)
unfolding carried shifted
carried_second f e d c = simp (xor_zero_l, xor_assoc, left_comm, xor_comm)

carried_third : (f e d : ℕ) → carried 0 f e d ≡ bit_xor (carried 0 0 e d) (third_on f)
unfolding carried shifted
carried_third f e d = simp (xor_zero_l, xor_assoc, left_comm, xor_comm)

carried_fourth : (f e : ℕ) → carried 0 0 f e ≡ bit_xor (carried 0 0 0 e) (fourth_on f)
unfolding carried shifted
carried_fourth f e = simp (xor_zero_l, left_comm, xor_comm)

carried_fifth : (f : ℕ) → carried 0 0 0 f ≡ fifth_on f
unfolding carried shifted
carried_fifth f = simp (xor_zero_l)

shifted-lt : (j k a b : ℕ) → b < 2 ^ 64 → bit_xor (a * 2 ^ k % 2 ^ 64) (b / 2 ^ j) < 2 ^ 64
shifted-lt j k a b hb =
    let le = shr_le b j in
    let r : b / 2 ^ j < 2 ^ 64 = omega (arith, le, hb) in
    xor_lt 64 (a * 2 ^ k % 2 ^ 64) (b / 2 ^ j) (mod_fits (a * 2 ^ k)) r

carried-lt : (a b c d : ℕ) → b < 2 ^ 64 → c < 2 ^ 64 → d < 2 ^ 64 → carried a b c d < 2 ^ 64
unfolding carried shifted
carried-lt a b c d hb hc hd =
    let x17 = shifted-lt 47 17 a b hb in
    let x55 = shifted-lt 9 55 a b hb in
    let x19 = shifted-lt 45 19 b c hc in
    let x44 = shifted-lt 20 44 c d hd in
    let s17 = shifted 17 a b in
    let s55 = shifted 55 a b in
    let s19 = shifted 19 b c in
    xor_lt 64 (bit_xor (bit_xor s17 s55) s19) (shifted 44 c d) (xor_lt 64 (bit_xor s17 s55) s19 (xor_lt 64 s17 s55 x17 x55) x19) x44

crc_taken-apart : (a b c d e m : ℕ) (bs : List ℕ) → 8 * length bs ≡ 320 + m → ((i : ℕ) → get_or bs i 0 < 256)
    → crc_taken a b c d e bs ≡ bit_xor (spread m (carried d c b a ∷ carried e d c b ∷ carried 0 e d c ∷ carried 0 0 e d ∷ carried 0 0 0 e ∷ [])) (crc_from 0 bs)
unfolding crc_taken
crc_taken-apart a b c d e m bs len fit =
    crc_added-apart (carried d c b a ∷ carried e d c b ∷ carried 0 e d c ∷ carried 0 0 e d ∷ carried 0 0 0 e ∷ []) 0 m bs len fit

no_words : carried 0 0 0 0 ≡ 0
unfolding carried shifted
no_words = refl

-- where no word was taken out
pub crc_taken-none : (bs : List ℕ) → 40 ≤ length bs → ((i : ℕ) → get_or bs i 0 < 256) → crc_taken 0 0 0 0 0 bs ≡ crc_of bs
crc_taken-none bs len fit =
    let m = 8 * length bs - 320 in
    let l : 8 * length bs ≡ 320 + m = omega (arith, len) in
    crc_taken-apart 0 0 0 0 0 m bs l fit
    ∙ simp (no_words, after_bits-zero, xor_zero_l)
    (sym (crc_of-from bs))

spread_five : (m p q r s t : ℕ) → spread m (p ∷ q ∷ r ∷ s ∷ t ∷ [])
    ≡ bit_xor (after_bits (320 + m) p) (bit_xor (after_bits (256 + m) q) (bit_xor (after_bits (192 + m) r) (bit_xor (after_bits (128 + m) s) (bit_xor (after_bits (64 + m) t) 0))))
spread_five m p q r s t = refl

added_five : (b2 b3 b4 b5 u1 u2 u3 u4 rest : ℕ)
    → bit_xor (bit_xor b2 (bit_xor (bit_xor b3 u1) (bit_xor (bit_xor b4 u2) (bit_xor (bit_xor b5 u3) (bit_xor u4 0))))) rest
    ≡ bit_xor (bit_xor u1 (bit_xor u2 (bit_xor u3 u4))) (bit_xor (bit_xor b2 (bit_xor b3 (bit_xor b4 b5))) rest)
added_five b2 b3 b4 b5 u1 u2 u3 u4 rest = simp (xor_zero_r, xor_assoc, left_comm)

first_of_five : (n b1 b2 b3 b4 b5 rest : ℕ)
    → bit_xor (bit_xor b1 (bit_xor b2 (bit_xor b3 (bit_xor b4 (bit_xor b5 0))))) (bit_xor n rest)
    ≡ bit_xor (bit_xor n b1) (bit_xor (bit_xor b2 (bit_xor b3 (bit_xor b4 b5))) rest)
first_of_five n b1 b2 b3 b4 b5 rest = simp (xor_zero_r, xor_assoc, left_comm)

-- one word more
pub crc_taken-word : (a b c d e : ℕ) (bs : List ℕ) → 48 ≤ length bs → ((i : ℕ) → get_or bs i 0 < 256)
    → a < 2 ^ 64 → b < 2 ^ 64 → c < 2 ^ 64
    → crc_taken b c d e (bit_xor (number_at 8 0 bs) (carried d c b a)) (drop 8 bs) ≡ crc_taken a b c d e bs
crc_taken-word a b c d e bs len fit ha hb hc =
    let m = 8 * length bs - 384 in
    let rest = drop 8 bs in
    let l = length-drop 8 bs in
    let bits : 8 * length bs ≡ 320 + (64 + m) = omega (arith, len) in
    let bits_rest : 8 * length rest ≡ 320 + m = omega (arith, len, l) in
    let n = number_at 8 0 bs in
    let p1 = carried d c b a in
    let p2 = carried e d c b in
    let p3 = carried 0 e d c in
    let p4 = carried 0 0 e d in
    let p5 = carried 0 0 0 e in
    let f = bit_xor n p1 in
    let n_fits : n < 2 ^ 64 = number_at-fits 8 0 bs fit in
    let f_fits : f < 2 ^ 64 = xor_lt 64 n p1 n_fits (carried-lt d c b a hc hb ha) in
    let tail = crc_from 0 rest in
    let B2 = after_bits (320 + m) p2 in
    let B3 = after_bits (256 + m) p3 in
    let B4 = after_bits (192 + m) p4 in
    let B5 = after_bits (128 + m) p5 in
    let U1 = after_bits (256 + m) (second_on f) in
    let U2 = after_bits (192 + m) (third_on f) in
    let U3 = after_bits (128 + m) (fourth_on f) in
    let U4 = after_bits (64 + m) (fifth_on f) in
    let N = after_bits (384 + m) n in
    let B1 = after_bits (384 + m) p1 in
    let others = bit_xor B2 (bit_xor B3 (bit_xor B4 B5)) in
    let x1 : 320 + (64 + m) ≡ 384 + m = omega arith in
    let x2 : 256 + (64 + m) ≡ 320 + m = omega arith in
    let x3 : 192 + (64 + m) ≡ 256 + m = omega arith in
    let x4 : 128 + (64 + m) ≡ 192 + m = omega arith in
    let x5 : 64 + (64 + m) ≡ 128 + m = omega arith in
    let x6 : 64 + (320 + m) ≡ 384 + m = omega arith in
    let new : spread m (p2 ∷ carried f e d c ∷ carried 0 f e d ∷ carried 0 0 f e ∷ carried 0 0 0 f ∷ [])
    ≡ bit_xor B2 (bit_xor (bit_xor B3 U1) (bit_xor (bit_xor B4 U2) (bit_xor (bit_xor B5 U3) (bit_xor U4 0)))) =
    spread_five m p2 (carried f e d c) (carried 0 f e d) (carried 0 0 f e) (carried 0 0 0 f)
    ∙ rw (
      carried_second f e d c,
      carried_third f e d,
      carried_fourth f e,
      carried_fifth f,
      after_bits-xor (256 + m) p3 (second_on f),
      after_bits-xor (192 + m) p4 (third_on f),
      after_bits-xor (128 + m) p5 (fourth_on f),
    ) refl in
    let old : spread (64 + m) (p1 ∷ p2 ∷ p3 ∷ p4 ∷ p5 ∷ []) ≡ bit_xor B1 (bit_xor B2 (bit_xor B3 (bit_xor B4 (bit_xor B5 0)))) =
    spread_five (64 + m) p1 p2 p3 p4 p5 ∙ rw (x1, x2, x3, x4, x5) refl in
    let whole : crc_from 0 bs ≡ bit_xor N tail =
    sym (first_word 0 bs (omega (arith, len)) fit)
    ∙ crc_from-apart (after_bits 64 (bit_xor 0 n)) rest
    ∙ ap (λ (k : ℕ). bit_xor (after_bits k (after_bits 64 (bit_xor 0 n))) tail) bits_rest
    ∙ ap (λ (x : ℕ). bit_xor (after_bits (320 + m) (after_bits 64 x)) tail) (xor_zero_l n)
    ∙ ap (λ (x : ℕ). bit_xor x tail) (sym (after_bits-add 64 (320 + m) n) ∙ ap (λ (k : ℕ). after_bits k n) x6) in
    crc_taken-apart b c d e f m rest bits_rest (fit_drop 8 bs fit)
    ∙ ap (λ (x : ℕ). bit_xor x tail) new
    ∙ added_five B2 B3 B4 B5 U1 U2 U3 U4 tail
    ∙ ap (λ (x : ℕ). bit_xor x (bit_xor others tail)) (taken_word m f f_fits ∙ after_bits-xor (384 + m) n p1)
    ∙ sym (crc_taken-apart a b c d e (64 + m) bs bits fit
    ∙ ap (λ (x : ℕ). bit_xor x (crc_from 0 bs)) old
    ∙ ap (bit_xor (bit_xor B1 (bit_xor B2 (bit_xor B3 (bit_xor B4 (bit_xor B5 0)))))) whole
    ∙ first_of_five N B1 B2 B3 B4 B5 tail)

pub crc_added-none : (c : ℕ) (bs : List ℕ) → crc_added c [] bs ≡ crc_from c bs
unfolding crc_added
crc_added-none c bs = refl

pub crc_added-word : (c w : ℕ) (ws bs : List ℕ) → crc_added c (w ∷ ws) bs ≡ crc_added (after_bits 64 (bit_xor (bit_xor c w) (number_at 8 0 bs))) ws (drop 8 bs)
unfolding crc_added
crc_added-word c w ws bs = refl
