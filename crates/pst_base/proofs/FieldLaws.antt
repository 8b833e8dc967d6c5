-- What a write at a place leaves.
use Rattle.std.proofs.Common.{◌≡◌, ℕ, suc, ◌+◌, ◌-◌, ◌%◌, ◌<◌, ◌≤◌, List, [], ◌∷◌, ◌++◌, length, take, drop, set, refl, sym, ap, ◌∙◌, arith}
use Rattle.std.proofs.lemmas.List.{append-nil, drop-drop, drop_all, set_split, take_rest}
use borrow.Rule.Slice.PartMut.{put_mid}
use Rattle.byteorder.specs.Endian.{little_number}
use Rattle.pst_base.specs.Fields.{number_at, replaced}

-- a write to all that stands from a place on, whose end is as it was
pub replaced-by_tail : (at n : ℕ) (b bs ys : List ℕ) → at + n ≤ length b → length bs ≡ n
    → ys ≡ bs ++ drop n (take (length b - at) (drop at b))
    → put_mid at (length b - at) b ys ≡ replaced at bs b
unfolding replaced
replaced-by_tail at n b bs ys within len new =
    let none : drop (length b - at) (drop at b) ≡ [] = drop-drop (length b - at) at b ∙ drop_all (at + (length b - at)) b (omega arith) in
    let rest : drop n (take (length b - at) (drop at b)) ≡ drop (at + length bs) b = ap (drop n) (take_rest b at) ∙ drop-drop n at b ∙ ap (λ (k : ℕ). drop (at + k) b) (sym len) in
    ap (λ (zs : List ℕ). take at b ++ (ys ++ zs)) none
    ∙ ap (λ (zs : List ℕ). take at b ++ zs) (append-nil ys ∙ new ∙ ap (λ (zs : List ℕ). bs ++ zs) rest)

-- a write of one byte
pub replaced-by_set : (at x : ℕ) (b : List ℕ) → at < length b → x < 256 → set b at x ≡ replaced at (x % 256 ∷ []) b
unfolding replaced
replaced-by_set at x b within fit =
    let e : x % 256 ≡ x = omega arith in
    let next : at + 1 ≡ suc at = omega arith in
    set_split b at x within ∙ rw (e, next) refl

pub number_at-zero : (n : ℕ) (b : List ℕ) → number_at n 0 b ≡ little_number n b
unfolding number_at
number_at-zero n b = refl
