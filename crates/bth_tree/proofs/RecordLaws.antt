-- Records in bytes, one after the other.
use Rattle.std.proofs.Common.{◌≡◌, ◌≤◌, ◌<◌, ◌==◌, ◌+◌, ◌-◌, ◌/◌, ◌%◌, if◌then◌else◌, inl, inr, ℕ, suc, List, [], ◌∷◌, length, take, drop, Some, None, refl, sym, ap, ◌∙◌, length-drop, arith}
use Rattle.std.proofs.lemmas.Bool.{cases_Bool, eq-eqb, ne_eqb, lt-leb, le-leb, lt-ltb}
use Rattle.std.proofs.Math.Nat.{mod-eq-sub-mod, mod-eq_of_lt, add-div_right}
use Rattle.std.specs.Option.{option_and_then}
use Rattle.byteorder.specs.Endian.{little_number}
use Rattle.bth_tree.specs.Records.{ordered, record_of, whole, within}
use Rattle.bth_tree.proofs.OptionLaws.{before}

zero-mod : (s : ℕ) → 0 % s ≡ 0
zero-mod s = omega arith

zero-div : (s : ℕ) → 0 / s ≡ 0
zero-div s = omega arith

one : (n : ℕ) → n + 1 ≡ suc n
one n = omega arith

pub whole-none : (k e : ℕ) → 0 < k → whole k e [] ≡ Some []
unfolding whole
whole-none k e low = rw (eq-eqb (0 % (k + e)) 0 (zero-mod (k + e)), zero-div (k + e)) refl

pub whole-short : (k e : ℕ) (x : List ℕ) → 0 < length x → length x < k + e → whole k e x ≡ None
unfolding whole
whole-short k e x low high =
    let same : length x % (k + e) ≡ length x = mod-eq_of_lt high in
    rw (ne_eqb (length x % (k + e)) 0 (λ z. absurd (omega arith))) refl

pub whole-step : (k e : ℕ) (x : List ℕ) → 0 < k → k + e ≤ length x
    → whole k e x ≡ option_and_then (λ (rs : List (ℕ × List ℕ)). Some (record_of k (take (k + e) x) ∷ rs)) (whole k e (drop (k + e) x))
unfolding whole
whole-step k e x low room =
    let len : length (drop (k + e) x) ≡ length x - (k + e) = length-drop (k + e) x in
    let rem : length x % (k + e) ≡ (length x - (k + e)) % (k + e) = mod-eq-sub-mod room in
    let pos : 0 < k + e = omega arith in
    let back : length x - (k + e) + (k + e) ≡ length x = omega arith in
    let quo : length x / (k + e) ≡ suc ((length x - (k + e)) / (k + e)) =
    ap (λ (n : ℕ). n / (k + e)) (sym back) ∙ add-div_right (length x - (k + e)) pos ∙ one ((length x - (k + e)) / (k + e)) in
    rw (len, rem, quo)
    (elim (cases_Bool ((length x - (k + e)) % (k + e) == 0)) [
      | inl t ↦ rw t refl
      | inr f ↦ rw f refl
    ])

pub ordered-none : (k e low high : ℕ) → 0 < k → ordered k e low high [] ≡ Some []
unfolding ordered
ordered-none k e low high pos = rw (whole-none k e pos) refl

pub ordered-short : (k e low high : ℕ) (x : List ℕ) → 0 < length x → length x < k + e → ordered k e low high x ≡ None
unfolding ordered
ordered-short k e low high x a b = rw (whole-short k e x a b) refl

-- a key that is too low
pub ordered-low : (k e low high : ℕ) (x : List ℕ) → 0 < k → k + e ≤ length x → little_number k (take (k + e) x) < low → ordered k e low high x ≡ None
unfolding ordered
ordered-low k e low high x pos room below = rw (whole-step k e x pos room)
    (elim (whole k e (drop (k + e) x)) as (λ o. option_and_then (λ (rs : List (ℕ × List ℕ)). if within low high rs then Some rs else None)
    (option_and_then (λ (rs : List (ℕ × List ℕ)). Some (record_of k (take (k + e) x) ∷ rs)) o) ≡ None) [
      | None ↦ refl
      | Some rs ↦ rw (lt-leb low (little_number k (take (k + e) x)) below) refl
    ])

-- a key that may stand there
pub ordered-step : (k e low high : ℕ) (x : List ℕ) → 0 < k → k + e ≤ length x → low ≤ little_number k (take (k + e) x) → little_number k (take (k + e) x) < high
    → ordered k e low high x ≡ before (record_of k (take (k + e) x) ∷ []) (ordered k e (suc (little_number k (take (k + e) x))) high (drop (k + e) x))
unfolding ordered
ordered-step k e low high x pos room above below = rw (whole-step k e x pos room)
    (elim (whole k e (drop (k + e) x)) as (λ o. option_and_then (λ (rs : List (ℕ × List ℕ)). if within low high rs then Some rs else None)
    (option_and_then (λ (rs : List (ℕ × List ℕ)). Some (record_of k (take (k + e) x) ∷ rs)) o)
    ≡ before (record_of k (take (k + e) x) ∷ []) (option_and_then (λ (rs : List (ℕ × List ℕ)). if within (suc (little_number k (take (k + e) x))) high rs then Some rs else None) o)) [
      | None ↦ refl
      | Some rs ↦ rw (le-leb low (little_number k (take (k + e) x)) above, lt-ltb (little_number k (take (k + e) x)) high below)
          (elim (cases_Bool (within (suc (little_number k (take (k + e) x))) high rs)) [
            | inl t ↦ rw t refl
            | inr f ↦ rw f refl
          ])
    ])
