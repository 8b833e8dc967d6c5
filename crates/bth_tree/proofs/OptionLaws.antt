-- Readings that may find nothing, one after the other.
use Rattle.std.proofs.Common.{◌≡◌, ℕ, List, ◌++◌, Option, Some, None, refl, sym, ap, append_assoc}
use Rattle.std.specs.Option.{option_and_then}

pub none-some : {B : Type 0} (y : B) → None ≡ Some y → ⊥
none-some y e = cc

pub bind-some : {A B : Type 0} (f : A → Option B) (o : Option A) (y : B) → option_and_then f o ≡ Some y → (x : A) × (o ≡ Some x) × (f x ≡ Some y)
bind-some f None y h = absurd (none-some y h)
bind-some f (Some x) y h = (x, refl, h)

pub some-injective : {B : Type 0} (x y : B) → Some x ≡ Some y → x ≡ y
some-injective x y e = cc

-- the records put so far, and those that a reading finds
abbrev pub before : List (ℕ × List ℕ) → Option (List (ℕ × List ℕ)) → Option (List (ℕ × List ℕ))
before out o = option_and_then (λ (more : List (ℕ × List ℕ)). Some (out ++ more)) o

-- one more reading behind the first
pub before-more : (out rs : List (ℕ × List ℕ)) (o : Option (List (ℕ × List ℕ))) → before (out ++ rs) o ≡ before out (before rs o)
before-more out rs None = refl
before-more out rs (Some more) = ap Some (append_assoc out rs more)

pub before-none : (out : List (ℕ × List ℕ)) (o : Option (List (ℕ × List ℕ))) → before out o ≡ None → o ≡ None
before-none out None h = refl
before-none out (Some more) h = absurd (none-some (out ++ more) (sym h))
