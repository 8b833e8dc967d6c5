-- One reading after another.
use Rattle.std.proofs.Common.{◌≡◌, IsErrAnd, sym, subst, ◌-◌, zero, suc, Bool, length, List, ℕ, Result, Ok, Err, Option, None, Some, ◌+◌, refl, arith, ap, ◌∙◌}
use Rattle.std.specs.Borrow.{Bor}
use Rattle.pst_base.specs.declared.stops.MemOr.{MemOr}
use Rattle.pst_base.specs.declared.stops.MemOr.TheVariants.{Memory, Refused}
use Rattle.restr_codec.specs.declared.fields.Fault.{Fault}
use Rattle.restr_codec.specs.Reading.{Read, Reads, by_code, longer, next, part, started}

-- what stops the first stops the whole
pub stops : {A B C D : Type 0} (view : B → A) (view' : D → C) (first : Read A) (f : A → List ℕ → Read C) (e : MemOr Fault)
    → Reads view (Err e) first → Reads view' (Err e) (next first f)
stops view view' first f Memory h = tt
stops view view' first f (Refused fault) h = ap (λ x. next x f) h

-- what the first gives goes into the next
pub goes : {A B C D : Type 0} (view : B → A) (view' : D → C) (first : Read A) (f : A → List ℕ → Read C) (y : B) (rest : Bor (List ℕ)) (result : Result (D × Bor (List ℕ)) (MemOr Fault))
    → Reads view (Ok (y, rest)) first → Reads view' result (f (view y) rest.now) → Reads view' result (next first f)
goes view view' first f y rest (Ok p) h after = ap (λ x. next x f) h ∙ after
goes view view' first f y rest (Err Memory) h after = tt
goes view view' first f y rest (Err (Refused fault)) h after = ap (λ x. next x f) h ∙ after

pub longer_longer : (m n : ℕ) (len : Option ℕ) → longer m (longer n len) ≡ longer (m + n) len
longer_longer m n None = refl
longer_longer m n (Some len) = ap Some (omega arith)

pub longer_zero : (len : Option ℕ) → longer 0 len ≡ len
longer_zero None = refl
longer_zero (Some len) = ap Some (omega arith)

-- a reading with room for one restriction more within one another
pub deeper : (deep : ℕ) (inner : Bool) (left : ℕ) (bytes : List ℕ) → (deep ≡ 0 → ⊥)
    → part deep inner left bytes ≡ next (started inner left bytes) (λ c bytes1. by_code (part (deep - 1)) inner c (left - 1) bytes1)
unfolding part
deeper zero inner left bytes n = absurd (n refl)
deeper (suc deep) inner left bytes n = ap (λ k. next (started inner left bytes) (λ c bytes1. by_code (part k) inner c (left - 1) bytes1)) (omega arith)

pub no_deeper : (deep : ℕ) (inner : Bool) (left : ℕ) (bytes : List ℕ) → deep ≡ 0 → part deep inner left bytes ≡ Err (length bytes)
unfolding part
no_deeper zero inner left bytes e = refl
no_deeper (suc deep) inner left bytes e = absurd (omega (arith, e))

-- the error that is given
pub given : {A B : Type 0} (view : B → A) (read : Read A) (e : MemOr Fault) (result : Result (B × Bor (List ℕ)) (MemOr Fault)) → IsErrAnd result (λ x. x ≡ e) → Reads view (Err e) read → Reads view result read
given view read e (Ok y) h reads = absurd h
given view read e (Err x) h reads = subst (λ z. Reads view (Err z) read) (sym h) reads
