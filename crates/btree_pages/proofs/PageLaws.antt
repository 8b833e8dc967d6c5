-- Pieces of a page by their places, and ascending keys.
use Rattle.std.proofs.Common.{Bool, true, false, ◌≡◌, ℕ, zero, suc, ◌+◌, ◌*◌, ◌-◌, ◌<◌, ◌≤◌, ltb, ◌&&◌, List, [], ◌∷◌, length, take, drop, get_or, Some, inl, inr, refl, sym, ap, subst, ◌∙◌, arith}
use Rattle.std.specs.List.{slice_get}
use Rattle.std.proofs.lemmas.Bool.{and_parts, cases_lt, ne_eqb, ltb-true, le-ltb}
use Rattle.std.proofs.lemmas.List.{drop-drop, drop_all, length-map}
use Rattle.std.proofs.lemmas.Nat.{mul-le}
use Rattle.std.proofs.Math.Seq.{drop-cons}
use Rattle.btree_pages.specs.Pages.{pieces, rise_above, ascend, keys, key_in, size_at}

pub length-pieces : (s n : ℕ) (b : List ℕ) → length (pieces s n b) ≡ n
length-pieces s zero b = refl
length-pieces s (suc n) b = ap suc (length-pieces s n (drop s b))

times-suc : (i s : ℕ) → suc i * s ≡ s + i * s
times-suc i s = omega arith

pub slice_get-pieces : (s n : ℕ) (b : List ℕ) (i : ℕ) → i < n → slice_get (pieces s n b) i ≡ Some (take s (drop (i * s) b))
slice_get-pieces s zero b i h = absurd (omega arith)
slice_get-pieces s (suc n) b zero h = let e : zero * s ≡ zero = omega arith in ap (λ (k : ℕ). Some (take s (drop k b))) (sym e)
slice_get-pieces s (suc n) b (suc i) h =
    slice_get-pieces s n (drop s b) i (omega arith)
    ∙ ap (λ (c : List ℕ). Some (take s c)) (drop-drop (i * s) s b ∙ ap (λ (k : ℕ). drop k b) (sym (times-suc i s)))

-- a piece lies within what all pieces have
pub piece_within : (s n m i : ℕ) → n * s ≤ m → i < n → i * s + s ≤ m
piece_within s n m i h less = let e = times-suc i s in let more : suc i * s ≤ n * s = mul-le (suc i) s n s (omega arith) (omega arith) in omega (arith, e, more, h)

pub length-keys : (rule : ℕ → ℕ) (s n : ℕ) (b : List ℕ) → length (keys rule (pieces s n b)) ≡ n
length-keys rule s n b = length-map (pieces s n b) (key_in rule) ∙ length-pieces s n b

-- ---- ascending

-- the keys from a place on
drop-here : (i : ℕ) (ks : List ℕ) → i < length ks → drop i ks ≡ get_or ks i 0 ∷ drop (i + 1) ks
drop-here i ks h = let e : suc i ≡ i + 1 = omega arith in drop-cons ks i 0 h ∙ ap (λ (k : ℕ). get_or ks i 0 ∷ drop k ks) e

pub rise-stop : (low i : ℕ) (ks : List ℕ) → i < length ks → get_or ks i 0 ≤ low → rise_above low (drop i ks) ≡ false
rise-stop low i ks h below =
    ap (rise_above low) (drop-here i ks h) ∙ ap (λ (t : Bool). t && rise_above (get_or ks i 0) (drop (i + 1) ks)) (le-ltb low (get_or ks i 0) below)

pub rise-end : (low i : ℕ) (ks : List ℕ) → length ks ≤ i → rise_above low (drop i ks) ≡ true
rise-end low i ks h = ap (rise_above low) (drop_all i ks h)

rise-index : (low : ℕ) (ks : List ℕ) → rise_above low ks ≡ true → (j : ℕ) → j < length ks → low < get_or ks j 0
rise-index low [] r j h = absurd (omega arith)
rise-index low (k ∷ ks) r zero h = ltb-true low k (and_parts (ltb low k) (rise_above k ks) r).0
rise-index low (k ∷ ks) r (suc j) h =
    let both = and_parts (ltb low k) (rise_above k ks) r in
    let first : low < k = ltb-true low k both.0 in
    let later : k < get_or ks j 0 = rise-index k ks both.1 j (omega arith) in
    omega (arith, first, later)

pub ascend-index : (ks : List ℕ) → ascend ks ≡ true → (i j : ℕ) → i < j → j < length ks → get_or ks i 0 < get_or ks j 0
ascend-index [] r i j less h = absurd (omega arith)
ascend-index (k ∷ ks) r i zero less h = absurd (omega arith)
ascend-index (k ∷ ks) r zero (suc j) less h = rise-index k ks r j (omega arith)
ascend-index (k ∷ []) r (suc i) (suc j) less h = absurd (omega arith)
ascend-index (k ∷ m ∷ ks) r (suc i) (suc j) less h =
    ascend-index (m ∷ ks) (and_parts (ltb k m) (rise_above m ks) r).1 i j (omega arith) (omega arith)

-- ---- the last key that isn't above a key

-- the search has come to this: below low no key is above, from high on all are
pub record Between (ks : List ℕ) (key low high : ℕ) : Type 0 where
  pub ordered : low ≤ high
  pub within : high ≤ length ks
  pub below : (j : ℕ) → j < low → get_or ks j 0 ≤ key
  pub above : (j : ℕ) → high ≤ j → j < length ks → key < get_or ks j 0

pub between-start : (ks : List ℕ) (key n : ℕ) → length ks ≡ n → Between ks key 0 n
between-start ks key n len = record {
  ordered = omega arith;
  within = omega arith;
  below = λ j h. absurd (omega arith);
  above = λ j h k. absurd (omega arith);
}

pub between-low : (ks : List ℕ) (key low middle high : ℕ) → ascend ks ≡ true → Between ks key low high → middle < high → get_or ks middle 0 ≤ key
    → Between ks key (middle + 1) high
between-low ks key low middle high rising between less reached =
    let within = between.within in
    record {
      ordered = omega arith;
      within = within;
      below = λ j h. elim (cases_lt j middle) [
        | inl under ↦ let less_key : get_or ks j 0 < get_or ks middle 0 = ascend-index ks rising j middle under (omega arith) in omega (arith, less_key, reached)
        | inr from ↦ let e : j ≡ middle = omega arith in let at : ℕ → Type 0 = λ k. get_or ks k 0 ≤ key in subst at (sym e) reached
      ];
      above = between.above;
    }

pub between-high : (ks : List ℕ) (key low middle high : ℕ) → ascend ks ≡ true → Between ks key low high → low ≤ middle → middle < high → key < get_or ks middle 0
    → Between ks key low middle
between-high ks key low middle high rising between from less over =
    let within = between.within in
    record {
      ordered = from;
      within = omega arith;
      below = between.below;
      above = λ j h k. elim (cases_lt middle j) [
        | inl later ↦ let less_key : get_or ks middle 0 < get_or ks j 0 = ascend-index ks rising middle j later k in omega (arith, less_key, over)
        | inr here ↦ let e : j ≡ middle = omega arith in let at : ℕ → Type 0 = λ n. key < get_or ks n 0 in subst at (sym e) over
      ];
    }

pub size_at-inner : (leaf level : ℕ) → 1 ≤ level → size_at leaf level ≡ 24
size_at-inner leaf zero low = absurd (omega arith)
size_at-inner leaf (suc level) low = rw (ne_eqb (suc level) 0 (λ e. absurd (omega (arith, e)))) refl
