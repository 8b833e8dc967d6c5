-- Numbers of n bytes in lists of bytes: where they stand behind others, how large they are, and which bytes they read.
use Rattle.std.proofs.Common.{◌≡◌, ℕ, zero, suc, ◌+◌, ◌^◌, ◌<◌, ◌≤◌, List, ◌++◌, length, get_or, slice_index, drop, refl, sym, ap, ◌∙◌, arith}
use Rattle.std.proofs.lemmas.List.{drop_at, drop-drop, get_or-drop}
use Rattle.byteorder.specs.Endian.{little_bytes, little_from, little_number}
use Rattle.byteorder.specs.Numbers.{length-bytes_low_first, little_from-lt, little_number-reads_back}
use Rattle.pst_base.specs.Fields.{number_at}

-- a number behind k bytes
pub number_at-behind : (n at k : ℕ) (xs ys : List ℕ) → length xs ≡ k → number_at n (k + at) (xs ++ ys) ≡ number_at n at ys
unfolding number_at
number_at-behind n at k xs ys len =
    ap (little_number n) (sym (drop-drop at k (xs ++ ys)) ∙ ap (drop at) (drop_at xs ys k len))

-- a number behind another of k bytes
pub number_at-next : (n at k x : ℕ) (ys : List ℕ) → number_at n (k + at) (little_bytes k x ++ ys) ≡ number_at n at ys
number_at-next n at k x ys = number_at-behind n at k (little_bytes k x) ys (length-bytes_low_first 0 k x)

-- the number whose bytes come first
pub number_at-first : (n x : ℕ) (ys : List ℕ) → x < 256 ^ n → number_at n 0 (little_bytes n x ++ ys) ≡ x
unfolding number_at
number_at-first n x ys fit = little_number-reads_back n x ys fit

-- what n bytes can hold
pub number_at-fits : (n at : ℕ) (b : List ℕ) → ((i : ℕ) → get_or b i 0 < 256) → number_at n at b < 256 ^ n
unfolding number_at
number_at-fits n at b fit =
    little_from-lt 0 n (drop at b) (λ k. let e = get_or-drop at b k 0 in let h : get_or b (at + k) 0 < 256 = fit (at + k) in omega (arith, e, h))

little_from-same : (i n : ℕ) (a b : List ℕ) → ((k : ℕ) → k < i + n → i ≤ k → get_or a k 0 ≡ get_or b k 0) → little_from i n a ≡ little_from i n b
little_from-same i zero a b same = refl
little_from-same i (suc n) a b same =
    let byte : slice_index a i ≡ slice_index b i = same i (omega arith) (omega arith) in
    let rest = little_from-same (suc i) n a b (λ k high low. same k (omega arith) (omega arith)) in
    rw (byte, rest) refl

-- the same bytes from places on make the same number
pub number_at-same : (n p q : ℕ) (a b : List ℕ) → ((k : ℕ) → k < n → get_or a (p + k) 0 ≡ get_or b (q + k) 0) → number_at n p a ≡ number_at n q b
unfolding number_at
number_at-same n p q a b same =
    little_from-same 0 n (drop p a) (drop q b) (λ k high low. get_or-drop p a k 0 ∙ same k (omega arith) ∙ sym (get_or-drop q b k 0))
