-- Ranges of lists.
use Rattle.std.proofs.Common.{◌≡◌, ◌∙◌, ℕ, ◌+◌, ◌-◌, ◌≤◌, ap, sym, arith, List, ◌++◌, length, take, drop, length-drop}
use Rattle.std.specs.Prelude.{slice_range}
use Rattle.std.proofs.lemmas.List.{drop-take, drop-drop, length-take-le}
use Rattle.std.proofs.Math.Seq.{take-add}

-- a range as the end of a front
pub slice_range-front : (s e : ℕ) (b : List ℕ) → s ≤ e → slice_range b s e ≡ drop s (take e b)
slice_range-front s e b le = let same : s + (e - s) ≡ e = omega arith in sym (drop-take s (e - s) b) ∙ ap (λ i. drop s (take i b)) same

-- ranges of lists with the same front are the same
pub slice_range-kept : (s e : ℕ) (a b : List ℕ) → s ≤ e → take e a ≡ take e b → slice_range a s e ≡ slice_range b s e
slice_range-kept s e a b le same = slice_range-front s e a le ∙ ap (drop s) same ∙ sym (slice_range-front s e b le)

-- what is behind the first n of a range
pub slice_range-behind : (n s e : ℕ) (b : List ℕ) → s + n ≤ e → slice_range b (s + n) e ≡ drop n (slice_range b s e)
slice_range-behind n s e b le =
    let same : n + (e - (s + n)) ≡ e - s = omega arith in
    ap (take (e - (s + n))) (sym (drop-drop n s b)) ∙ sym (drop-take n (e - (s + n)) (drop s b)) ∙ ap (λ m. drop n (take m (drop s b))) same

-- a longer range is the range and what follows it
pub slice_range-more : (s e n : ℕ) (b : List ℕ) → s ≤ e → slice_range b s (e + n) ≡ slice_range b s e ++ slice_range b e (e + n)
slice_range-more s e n b le =
    let split : (e + n) - s ≡ (e - s) + n = omega arith in
    let rest : (e + n) - e ≡ n = omega arith in
    let place : s + (e - s) ≡ e = omega arith in
    ap (λ m. take m (drop s b)) split ∙ take-add (e - s) n (drop s b)
    ∙ ap (λ x. take (e - s) (drop s b) ++ take n x) (drop-drop (e - s) s b ∙ ap (λ i. drop i b) place)
    ∙ ap (λ m. slice_range b s e ++ take m (drop e b)) (sym rest)

pub length-range : (s e : ℕ) (b : List ℕ) → s ≤ e → e ≤ length b → length (slice_range b s e) ≡ e - s
length-range s e b le within = length-take-le (e - s) (drop s b) (omega (arith, length-drop s b))
