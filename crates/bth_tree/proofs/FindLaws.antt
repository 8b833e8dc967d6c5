-- Sums of records, one part behind the other.
use Rattle.std.proofs.Common.{◌≡◌, ◌≤◌, ◌<◌, ◌==◌, ◌&&◌, ◌+◌, inl, inr, nat_lt, nat_le, ℕ, suc, Bool, true, false, List, [], ◌∷◌, ◌++◌, length, take, drop, Option, Some, refl, sym, ap, ◌∙◌, arith}
use Rattle.std.proofs.lemmas.Bool.{cases_Bool, le-leb, lt-ltb, ltb-true}
use Rattle.std.proofs.lemmas.List.{append-nil}
use Rattle.byteorder.specs.Endian.{little_number}
use Rattle.bth_tree.specs.Find.{either, last_key}
use Rattle.bth_tree.specs.Records.{entry_of, ordered, record_of, within}
use Rattle.bth_tree.specs.Tree.{end_of}
use Rattle.bth_tree.proofs.OptionLaws.{before, before-more}
use Rattle.bth_tree.proofs.RecordLaws.{ordered-step}
use Rattle.bth_tree.proofs.WholeLaws.{first-within}

pub end-append : (xs ys : List (ℕ × List ℕ)) → 0 < length xs → end_of (xs ++ ys) ≡ end_of xs
end-append [] ys h = absurd (omega arith)
end-append (x ∷ xs) ys h = refl

pub last-append : (xs ys : List (ℕ × List ℕ)) → 0 < length ys → last_key (xs ++ ys) ≡ last_key ys
last-append [] ys h = refl
last-append (x ∷ []) [] h = absurd (omega arith)
last-append (x ∷ []) (y ∷ ys) h = refl
last-append (x ∷ (z ∷ xs)) ys h = last-append (z ∷ xs) ys h

pub entry-append : (key : ℕ) (xs ys : List (ℕ × List ℕ)) → entry_of key (xs ++ ys) ≡ either (entry_of key xs) (entry_of key ys)
entry-append key [] ys = refl
entry-append key (x ∷ xs) ys = elim (cases_Bool (x.0 == key)) [
  | inl t ↦ rw t refl
  | inr f ↦ rw f (entry-append key xs ys)
]

-- the last key of ascending records
last-high : (low high : ℕ) (rs : List (ℕ × List ℕ)) → 0 < length rs → within low high rs ≡ true → low ≤ last_key rs
last-high low high [] n h = absurd (omega arith)
last-high low high (r ∷ []) n h = (first-within low high r [] h).0
last-high low high (r ∷ (s ∷ rs)) n h =
    let f = first-within low high r (s ∷ rs) h in
    omega (arith, f.0, last-high (suc r.0) high (s ∷ rs) (omega arith) f.2)

and-true : (b : Bool) → (b && true) ≡ b
and-true true = refl
and-true false = refl

and-false : (b : Bool) → (b && false) ≡ false
and-false true = refl
and-false false = refl

-- ascending records stand within a span where the first and the last do
pub ends-within : (low end below high : ℕ) (rs : List (ℕ × List ℕ)) → 0 < length rs → within below high rs ≡ true → (nat_le low (end_of rs) && nat_lt (last_key rs) end) ≡ within low end rs
ends-within low end below high [] n h = absurd (omega arith)
ends-within low end below high (r ∷ []) n h = ap (λ (b : Bool). nat_le low r.0 && b) (sym (and-true (nat_lt r.0 end)))
ends-within low end below high (r ∷ (s ∷ rs)) n h =
    let f = first-within below high r (s ∷ rs) h in
    let next = ends-within (suc r.0) end (suc r.0) high (s ∷ rs) (omega arith) f.2 in
    let g = first-within (suc r.0) high s rs f.2 in
    let over = last-high (suc r.0) high (s ∷ rs) (omega arith) f.2 in
    ap (λ (b : Bool). nat_le low r.0 && b)
    (elim (cases_Bool (nat_lt (last_key (s ∷ rs)) end)) [
      | inl t ↦
          let less : r.0 < end = omega (arith, over, ltb-true (last_key (s ∷ rs)) end t) in
          rw (← next, t, lt-ltb r.0 end less, le-leb (suc r.0) s.0 g.0) refl
      | inr z ↦ rw (← next, z, and-false (nat_le (suc r.0) s.0), and-false (nat_lt r.0 end)) refl
    ])

pub before-all : (rs : List (ℕ × List ℕ)) (o : Option (List (ℕ × List ℕ))) → before rs (Some []) ≡ o → o ≡ Some rs
before-all rs o h = sym h ∙ ap Some (append-nil rs)

-- one more record
pub look-step : (k e low high key : ℕ) (entry rest : List ℕ) (so_far : List (ℕ × List ℕ)) → 0 < k → k + e ≤ length rest → low ≤ key → key < high
    → key ≡ little_number k (take (k + e) rest) → entry ≡ drop k (take (k + e) rest)
    → before (so_far ++ (key, entry) ∷ []) (ordered k e (key + 1) high (drop (k + e) rest)) ≡ before so_far (ordered k e low high rest)
look-step k e low high key entry rest so_far pos room above below key_is entry_is =
    let next : key + 1 ≡ suc (little_number k (take (k + e) rest)) = omega arith in
    ap (λ (n : ℕ). before (so_far ++ (n, entry) ∷ []) (ordered k e (key + 1) high (drop (k + e) rest))) key_is
    ∙ ap (λ (x : List ℕ). before (so_far ++ (little_number k (take (k + e) rest), x) ∷ []) (ordered k e (key + 1) high (drop (k + e) rest))) entry_is
    ∙ ap (λ (n : ℕ). before (so_far ++ record_of k (take (k + e) rest) ∷ []) (ordered k e n high (drop (k + e) rest))) next
    ∙ before-more so_far (record_of k (take (k + e) rest) ∷ []) (ordered k e (suc (little_number k (take (k + e) rest))) high (drop (k + e) rest))
    ∙ ap (before so_far) (sym (ordered-step k e low high rest pos room (omega arith) (omega arith)))
