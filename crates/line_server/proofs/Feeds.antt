-- Where the first LF is, put together from a front that has none and a search of the rest.
use Rattle.std.proofs.Common.{◌≡◌, ◌∙◌, ℕ, ◌+◌, ◌-◌, ◌<◌, ◌≤◌, ap, sym, arith, List, length, get_or, take, drop, eq-eqb, eqb-true, true, eqb, inl, inr, length-drop}
use Rattle.std.proofs.lemmas.List.{get_or-drop, take_all}
use Rattle.std.proofs.lemmas.Bool.{cases_lt}
use Rattle.line_server.specs.Lines.{NoFeedBelow}

-- the slice behind the first n bytes
abbrev pub behind : ℕ → List ℕ → List ℕ
behind n bytes = take (length bytes - n) (drop n bytes)

pub behind-is : (n : ℕ) (bytes : List ℕ) → behind n bytes ≡ drop n bytes
behind-is n bytes = take_all (length bytes - n) (drop n bytes) (omega (arith, length-drop n bytes))

pub get_or-behind : (n k : ℕ) (bytes : List ℕ) → get_or (behind n bytes) k 0 ≡ get_or bytes (n + k) 0
get_or-behind n k bytes = ap (λ xs. get_or xs k 0) (behind-is n bytes) ∙ get_or-drop n bytes k 0

pub length-behind : (n : ℕ) (bytes : List ℕ) → length (behind n bytes) ≡ length bytes - n
length-behind n bytes = ap length (behind-is n bytes) ∙ length-drop n bytes

-- no place of the rest below m passes the search
abbrev pub NotFound : ℕ → List ℕ → Type 0
NotFound m rest = (k : ℕ) → 0 ≤ k → k < m → eqb (get_or rest k 0) 10 ≡ true → ⊥

pub no_feed_on : (n m : ℕ) (bytes : List ℕ) → NoFeedBelow n bytes → NotFound m (behind n bytes) → NoFeedBelow (n + m) bytes
no_feed_on n m bytes clean none k low is =
    elim (cases_lt k n) [
      | inl l ↦ clean k l is
      | inr l ↦ let same : n + (k - n) ≡ k = omega arith in
          none (k - n) (omega arith) (omega arith) (eq-eqb _ _ (get_or-behind n (k - n) bytes ∙ ap (λ i. get_or bytes i 0) same ∙ is))
    ]

pub no_feed : (n : ℕ) (bytes : List ℕ) → n ≤ length bytes → NoFeedBelow n bytes → NotFound (length (behind n bytes)) (behind n bytes) → NoFeedBelow (length bytes) bytes
no_feed n bytes within clean none k low is =
    no_feed_on n (length (behind n bytes)) bytes clean none k (omega (arith, length-behind n bytes)) is

pub feed_at : (n k : ℕ) (bytes : List ℕ) → eqb (get_or (behind n bytes) k 0) 10 ≡ true → get_or bytes (n + k) 0 ≡ 10
feed_at n k bytes is = sym (get_or-behind n k bytes) ∙ eqb-true _ _ is
