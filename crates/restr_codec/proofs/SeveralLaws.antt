-- Several restrictions, or several values, one after the other.
use Rattle.std.proofs.Common.{◌≡◌, ◌≤◌, ◌<◌, ◌∙◌, ℕ, suc, ◌+◌, ◌-◌, List, [], ◌∷◌, ◌++◌, Ok, Err, ap, sym, refl, arith, append_assoc}
use Rattle.pst_base.specs.declared.stops.MemOr.{MemOr}
use Rattle.pst_base.specs.declared.stops.MemOr.TheVariants.{Memory, Refused}
use Rattle.mapi_values.specs.Values.{Val}
use Rattle.restr_codec.specs.declared.fields.Fault.{Fault}
use Rattle.restr_codec.specs.declared.fields.Tags.TheVariants.{OfValues}
use Rattle.restr_codec.specs.Forms.{restrs}
use Rattle.restr_codec.specs.Restr.{Restr, Restrs, none, more}
use Rattle.restr_codec.specs.Reading.{Part, Read, Reads, next, several, tagged, tagged_values}

abbrev pub before : List Restr → Restrs → Restrs
before [] rs = rs
before (x ∷ xs) rs = more x (before xs rs)

before_none : (xs : List Restr) → before xs none ≡ restrs xs
before_none [] = refl
before_none (x ∷ xs) = ap (more x) (before_none xs)

before_one : (xs : List Restr) (x : Restr) (rs : Restrs) → before (xs ++ (x ∷ [])) rs ≡ before xs (more x rs)
before_one [] x rs = refl
before_one (y ∷ xs) x rs = ap (more y) (before_one xs x rs)

-- those that were read, and what comes behind them
abbrev pub with_those : List Restr → Read (Restrs × ℕ) → Read (Restrs × ℕ)
with_those xs rest = next rest (λ p behind. Ok ((before xs p.0, p.1), behind))

-- so many were read: what is said of those to come is said of all
pub record SoFar (one : Part) (count left : ℕ) (bytes : List ℕ) (taken : ℕ) (xs : List Restr) (still : ℕ) (rest : List ℕ) : Type 0 where
  pub same : several one count left bytes ≡ with_those xs (several one (count - taken) still rest)

with_one : (xs : List Restr) (x : Restr) (a : Read (Restrs × ℕ)) → with_those xs (next a (λ q behind. Ok ((more x q.0, q.1), behind))) ≡ with_those (xs ++ (x ∷ [])) a
with_one xs x (Ok p) = ap (λ rs. Ok ((rs, p.0.1), p.1)) (sym (before_one xs x p.0.0))
with_one xs x (Err fault) = refl

-- one more was read
pub one_more : (one : Part) (count left : ℕ) (bytes : List ℕ) (taken : ℕ) (xs ys : List Restr) (still less : ℕ) (rest behind : List ℕ) (x : Restr) → taken < count → SoFar one count left bytes taken xs still rest
    → one still rest ≡ Ok ((x, less), behind) → ys ≡ xs ++ (x ∷ []) → SoFar one count left bytes (taken + 1) ys less behind
one_more one count left bytes taken xs ys still less rest behind x lt so read e = record {
  same = so.same ∙ ap (λ n. with_those xs (several one n still rest)) more_left
      ∙ ap (λ a. with_those xs (next a (λ p bytes1. next (several one (count - (taken + 1)) p.1 bytes1) (λ q bytes2. Ok ((more p.0 q.0, q.1), bytes2))))) read
      ∙ with_one xs x (several one (count - (taken + 1)) less behind)
      ∙ ap (λ zs. with_those zs (several one (count - (taken + 1)) less behind)) (sym e);
}
  where
    more_left : count - taken ≡ suc (count - (taken + 1))
    more_left = omega (arith, lt)

-- all were read
pub all_so_far : (one : Part) (count left : ℕ) (bytes : List ℕ) (taken : ℕ) (xs : List Restr) (still : ℕ) (rest : List ℕ) → count ≤ taken → SoFar one count left bytes taken xs still rest
    → several one count left bytes ≡ Ok ((restrs xs, still), rest)
all_so_far one count left bytes taken xs still rest past so =
    let none_left : count - taken ≡ 0 = omega (arith, past) in
    so.same ∙ ap (λ n. with_those xs (several one n still rest)) none_left ∙ ap (λ rs. Ok ((rs, still), rest)) (before_none xs)

-- one couldn't be read
pub stops_at : {B C : Type 0} (view : B → Restr × ℕ) (view' : C → Restrs × ℕ) (one : Part) (count left : ℕ) (bytes : List ℕ) (taken : ℕ) (xs : List Restr) (still : ℕ) (rest : List ℕ) (e : MemOr Fault) → taken < count
    → SoFar one count left bytes taken xs still rest → Reads view (Err e) (one still rest) → Reads view' (Err e) (several one count left bytes)
stops_at view view' one count left bytes taken xs still rest Memory lt so read = tt
stops_at view view' one count left bytes taken xs still rest (Refused fault) lt so read =
    so.same ∙ ap (λ n. with_those xs (several one n still rest)) more_left
    ∙ ap (λ a. with_those xs (next a (λ p bytes1. next (several one (count - (taken + 1)) p.1 bytes1) (λ q bytes2. Ok ((more p.0 q.0, q.1), bytes2))))) read
  where
    more_left : count - taken ≡ suc (count - (taken + 1))
    more_left = omega (arith, lt)

-- the same of values
abbrev pub with_values : List Val → Read (List Val) → Read (List Val)
with_values xs rest = next rest (λ vs behind. Ok (xs ++ vs, behind))

pub record ValuesSoFar (count : ℕ) (bytes : List ℕ) (taken : ℕ) (xs : List Val) (rest : List ℕ) : Type 0 where
  pub same : tagged_values count bytes ≡ with_values xs (tagged_values (count - taken) rest)

with_value : (xs : List Val) (x : Val) (a : Read (List Val)) → with_values xs (next a (λ vs behind. Ok (x ∷ vs, behind))) ≡ with_values (xs ++ (x ∷ [])) a
with_value xs x (Ok p) = ap (λ vs. Ok (vs, p.1)) (sym (append_assoc xs (x ∷ []) p.0))
with_value xs x (Err fault) = refl

pub one_more_value : (count : ℕ) (bytes : List ℕ) (taken : ℕ) (xs ys : List Val) (rest behind : List ℕ) (x : Val) → taken < count → ValuesSoFar count bytes taken xs rest
    → tagged OfValues rest ≡ Ok (x, behind) → ys ≡ xs ++ (x ∷ []) → ValuesSoFar count bytes (taken + 1) ys behind
one_more_value count bytes taken xs ys rest behind x lt so read e = record {
  same = so.same ∙ ap (λ n. with_values xs (tagged_values n rest)) more_left
      ∙ ap (λ a. with_values xs (next a (λ v bytes1. next (tagged_values (count - (taken + 1)) bytes1) (λ vs bytes2. Ok (v ∷ vs, bytes2))))) read
      ∙ with_value xs x (tagged_values (count - (taken + 1)) behind)
      ∙ ap (λ zs. with_values zs (tagged_values (count - (taken + 1)) behind)) (sym e);
}
  where
    more_left : count - taken ≡ suc (count - (taken + 1))
    more_left = omega (arith, lt)

pub stops_at_value : {B C : Type 0} (view : B → Val) (view' : C → List Val) (count : ℕ) (bytes : List ℕ) (taken : ℕ) (xs : List Val) (rest : List ℕ) (e : MemOr Fault) → taken < count
    → ValuesSoFar count bytes taken xs rest → Reads view (Err e) (tagged OfValues rest) → Reads view' (Err e) (tagged_values count bytes)
stops_at_value view view' count bytes taken xs rest Memory lt so read = tt
stops_at_value view view' count bytes taken xs rest (Refused fault) lt so read =
    so.same ∙ ap (λ n. with_values xs (tagged_values n rest)) more_left
    ∙ ap (λ a. with_values xs (next a (λ v bytes1. next (tagged_values (count - (taken + 1)) bytes1) (λ vs bytes2. Ok (v ∷ vs, bytes2))))) read
  where
    more_left : count - taken ≡ suc (count - (taken + 1))
    more_left = omega (arith, lt)
