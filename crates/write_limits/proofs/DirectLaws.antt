-- The subnodes directly in a list are those of the level 0 in its flat list.
use Rattle.std.proofs.Common.{◌≡◌, ◌+◌, ◌++◌, List, [], ◌∷◌, map, length, arith, refl}
use Rattle.pst_base.specs.Flat.{Flat}
use Rattle.pst_base.specs.Subs.{flattened, one_deeper}
use Rattle.pst_base.specs.declared.subs.Sub.{Sub}
use Rattle.std.proofs.lemmas.Bool.{ne_eqb}
use Rattle.write_limits.specs.Limits.{direct}

deeper : (fs : List Flat) → direct (map one_deeper fs) ≡ 0
deeper [] = refl
deeper (f ∷ fs) = rw (ne_eqb (f.level + 1) 0 (λ e. omega arith), deeper fs) refl

joined : (fs gs : List Flat) → direct (fs ++ gs) ≡ direct fs + direct gs
joined [] gs = omega arith
joined (f ∷ fs) gs = omega (arith, joined fs gs)

pub direct-flattened : (subs : List Sub) → direct (flattened subs) ≡ length subs
direct-flattened [] = refl
direct-flattened (s ∷ subs) = omega (arith, joined (map one_deeper s.subs) (flattened subs), deeper s.subs, direct-flattened subs)
