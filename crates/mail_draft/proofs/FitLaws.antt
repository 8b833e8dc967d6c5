-- Objects of a draft that keeps to the limits.
use Rattle.std.proofs.Common.{◌≡◌, ℕ, true, List, [], ◌∷◌, length, Option, None, Some, refl, sym, ◌∙◌, ap, arith}
use Rattle.std.specs.FinMap as map
use Rattle.std.specs.List.{list_all}
use Rattle.mail_objects.specs.declared.object.Object.{Object}
use Rattle.std.specs.Ordering.{nat_cmp}
use Rattle.mail_draft.specs.Drafts.{all_fit}
use Rattle.mail_tree.specs.Changing.{Changed, entry_fits}

-- what fits at one id fits at another
pub fits-anywhere : (p q : ℕ) (object : Option Object) → entry_fits (p, object) ≡ true → entry_fits (q, object) ≡ true
fits-anywhere p q None h = refl
fits-anywhere p q (Some object) h = h

no-length : {A : Type 0} (xs : List A) → length xs ≡ 0 → xs ≡ []
no-length [] e = refl
no-length (x ∷ xs) e = absurd (omega (arith, e))

-- no changes have no entries
pub no-entries : (D : Changed) → D.objects ≡ map.empty → map.entries D.objects ≡ []
no-entries D is = no-length (map.entries D.objects) (sym (map.len-entries D.objects) ∙ ap map.len is ∙ map.len-empty nat_cmp (Option Object))

-- and so they fit
pub nothing-fits : (D : Changed) → D.objects ≡ map.empty → all_fit D ≡ true
nothing-fits D is = ap (list_all entry_fits) (no-entries D is)
