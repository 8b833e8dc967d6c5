-- Hex digits, read one after another.
use Rattle.std.proofs.Common.{◌≡◌, ℕ, ◌+◌, ◌*◌, ◌^◌, ◌<◌, ◌≤◌, true, false, List, get_or, length, take, drop, suc, refl, ap, sym, ◌∙◌, arith, Some, None}
use Rattle.std.specs.List.{list_all}
use Rattle.std.specs.Prelude.{◌&&◌}
use Rattle.std.specs.Char.{digit_value, is_digit}
use Rattle.std.specs.Str.Parse.{digits_value}
use Rattle.std.proofs.Math.Nat.{pow-le-pow_right, pow-suc}
use Rattle.std.proofs.lemmas.Bool.{lt-ltb, le-ltb}
use Rattle.std.proofs.lemmas.List.{drop_more, drop_all, take_all}
use Rattle.std.proofs.lemmas.Int.Digits.{digits_value_more}
use Rattle.command_text.specs.Words.{hex_value}

-- number is that of the first i digits, and all of these are hex digits
pub record ReadsHex (ds : List ℕ) (i number : ℕ) : Type 0 where
  pub value : number ≡ digits_value 16 (take i ds)
  pub below : number < 16 ^ i
  pub rest : list_all (λ d. is_digit d 16) (drop i ds) ≡ list_all (λ d. is_digit d 16) ds

pub hex-small : (ds : List ℕ) (i number value : ℕ) → ReadsHex ds i number → i < 8 → value < 16 → number * 16 + value < 2 ^ 32
hex-small ds i number value here less small =
    let more : 16 ^ suc i ≡ 16 ^ i * 16 = pow-suc 16 i in
    let most : 16 ^ suc i ≤ 16 ^ 8 = pow-le-pow_right {n = 16} (omega arith) {i = suc i} {j = 8} (omega arith) in
    omega (arith, here.below)

-- the test of the digit at i comes off the front
front : (ds : List ℕ) (i : ℕ) → i < length ds
    → list_all (λ d. is_digit d 16) (drop i ds) ≡ (is_digit (get_or ds i 0) 16 && list_all (λ d. is_digit d 16) (drop (i + 1) ds))
front ds i within = ap (list_all (λ d. is_digit d 16)) (drop_more ds i 0 within)

pub hex-more : (ds : List ℕ) (i number next value : ℕ) → ReadsHex ds i number → i < length ds → digit_value (get_or ds i 0) < 16
    → value ≡ digit_value (get_or ds i 0) → next ≡ number * 16 + value → ReadsHex ds (i + 1) next
hex-more ds i number next value here within small is e = record {
  value = e ∙ (ap (λ v. number * 16 + v) is ∙ (ap (λ n. n * 16 + digit_value (get_or ds i 0)) here.value ∙ sym (digits_value_more 16 ds i within)));
  below =
      let more : 16 ^ suc i ≡ 16 ^ i * 16 = pow-suc 16 i in
      let same : i + 1 ≡ suc i = omega arith in
      rw same (omega (arith, here.below));
  rest = sym (front ds i within ∙ ap (λ t. t && list_all (λ d. is_digit d 16) (drop (i + 1) ds)) (lt-ltb _ 16 small)) ∙ here.rest;
}

pub hex-fault : (ds : List ℕ) (i number : ℕ) → ReadsHex ds i number → i < length ds → (digit_value (get_or ds i 0) < 16 → ⊥) → hex_value ds ≡ None
unfolding hex_value
hex-fault ds i number here within bad =
    let not_hex : is_digit (get_or ds i 0) 16 ≡ false = le-ltb _ 16 (omega (arith, bad)) in
    let none : list_all (λ d. is_digit d 16) ds ≡ false =
    sym here.rest ∙ (front ds i within ∙ ap (λ t. t && list_all (λ d. is_digit d 16) (drop (i + 1) ds)) not_hex) in
    rw none refl

pub hex-end : (ds : List ℕ) (i number : ℕ) → ReadsHex ds i number → length ds ≤ i → hex_value ds ≡ Some number
unfolding hex_value
hex-end ds i number here past =
    let all : list_all (λ d. is_digit d 16) ds ≡ true = sym here.rest ∙ ap (list_all (λ d. is_digit d 16)) (drop_all i ds past) in
    rw all (ap Some (sym (here.value ∙ ap (digits_value 16) (take_all i ds past))))
