-- Lists that are found one by one.
use Rattle.std.proofs.Common.{◌≡◌, List, [], ◌∷◌, ◌++◌, Option, Some, None, refl, ap, append_assoc}
use Rattle.std.specs.Option.{option_and_then}

-- what was found so far, and what a reading finds
abbrev pub before : {X : Type 0} → List X → Option (List X) → Option (List X)
before out o = option_and_then (λ more. Some (out ++ more)) o

-- one more in front
abbrev pub first : {X : Type 0} → X → Option (List X) → Option (List X)
first x o = option_and_then (λ xs. Some (x ∷ xs)) o

pub before-step : {X : Type 0} (out : List X) (x : X) (o : Option (List X)) → before (out ++ x ∷ []) o ≡ before out (first x o)
before-step out x None = refl
before-step out x (Some more) = ap Some (append_assoc out (x ∷ []) more)
