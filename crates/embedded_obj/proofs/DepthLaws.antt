-- How deep subnodes stand.
use Rattle.std.proofs.Common.{◌≡◌, ◌∙◌, ℕ, ◌+◌, ◌-◌, ◌<◌, ◌≤◌, ◌==◌, Bool, true, false, not, List, [], ◌∷◌, ◌++◌, length, map, drop, get_or, refl, sym, ap, arith, ◌||◌}
use Rattle.std.specs.Prelude.{nat_le}
use Rattle.std.specs.List.{list_any}
use Rattle.std.proofs.lemmas.Bool.{ne_eqb}
use Rattle.std.proofs.lemmas.Bool.Decides.{nat_tests}
use Rattle.std.proofs.lemmas.List.{drop_more}
use Rattle.pst_base.specs.Flat.{Flat}
use Rattle.pst_base.specs.Subs.{flattened, one_deeper}
use Rattle.pst_base.specs.declared.subs.Sub.{Sub}

-- the subnode stands at this level or deeper
abbrev pub is_at : ℕ → Flat → Bool
is_at level f = nat_le level f.level

-- a subnode of these stands at this level or deeper
abbrev pub reach : ℕ → List Flat → Bool
reach level fs = list_any (is_at level) fs

one-less : (level at : ℕ) → 1 ≤ level → nat_le level (at + 1) ≡ nat_le (level - 1) at
one-less level at some = grind (arith, nat_tests)

not-first : (level : ℕ) → 1 ≤ level → nat_le level 0 ≡ false
not-first level some = grind (arith, nat_tests)

or-assoc : (a b c : Bool) → ((a || b) || c) ≡ (a || (b || c))
or-assoc true b c = refl
or-assoc false b c = refl

reach-deeper : (level : ℕ) (fs gs : List Flat) → 1 ≤ level → reach level (map one_deeper fs ++ gs) ≡ (reach (level - 1) fs || reach level gs)
reach-deeper level [] gs some = refl
reach-deeper level (f ∷ fs) gs some =
    rw (one-less level f.level some, reach-deeper level fs gs some) (sym (or-assoc (is_at (level - 1) f) (reach (level - 1) fs) (reach level gs)))

-- at any level but the first
pub reach-first : (level : ℕ) (s : Sub) (subs : List Sub) → 1 ≤ level → reach level (flattened (s ∷ subs)) ≡ (reach (level - 1) s.subs || reach level (flattened subs))
reach-first level s subs some = rw (not-first level some) (reach-deeper level s.subs (flattened subs) some)

-- at the first level there is any
pub reach-any : (subs : List Sub) → reach 0 (flattened subs) ≡ not (length subs == 0)
reach-any [] = refl
reach-any (s ∷ subs) = let some : (length (s ∷ subs) == 0) ≡ false = ne_eqb (length (s ∷ subs)) 0 (λ e. omega arith) in rw some refl

-- with one subnode more
pub reach-next : (level i : ℕ) (subs : List Sub) (s : Sub) → 1 ≤ level → i < length subs → s ≡ get_or subs i s
    → reach level (flattened (drop i subs)) ≡ (reach (level - 1) s.subs || reach level (flattened (drop (i + 1) subs)))
reach-next level i subs s some h is =
    ap (λ (xs : List Sub). reach level (flattened xs)) (drop_more subs i s h ∙ ap (λ (x : Sub). x ∷ drop (i + 1) subs) (sym is)) ∙ reach-first level s (drop (i + 1) subs) some
