-- What becomes of a message in the list of a search is told by asking it where the search looks.
use Rattle.std.proofs.Common.{◌≡◌, ◌∙◌, Option, None, Some, ap, refl, inl, inr}
use Rattle.std.proofs.lemmas.Bool.{cases_Bool}
use Rattle.mapi_values.specs.Messages.{Mes}
use Rattle.live_search.specs.Touching.{delta, is_met}
use Rattle.live_search.specs.declared.touching.Delta.{Delta}
use Rattle.mail_tree.specs.declared.places.FolderPlace.{FolderPlace}
use Rattle.std.proofs.Common.{List}
use Rattle.mail_searches.specs.Searches.{Search, in_scope, is_listed}
use Rattle.mail_searches.specs.Relisting.{Around}
use Rattle.mail_searches.specs.Asking.{delta_in, looked_at}

-- the restriction is asked just where the search looks
met_looked : (places : List FolderPlace) (s : Search) (message : Option Mes) → is_met s.restriction (looked_at places s message) ≡ is_listed places s message
met_looked places s None = refl
met_looked places s (Some m) = elim (cases_Bool (in_scope places s m.folder)) [ inl t ↦ rw t refl | inr f ↦ rw f refl ]

pub told_by : (d : Around) (s : Search) (old new was is : Option Mes) (told : Delta) → told ≡ delta (is_met s.restriction was) (is_met s.restriction is) → was ≡ looked_at d.before s old → is ≡ looked_at d.after s new → told ≡ delta_in d s old new
told_by d s old new was is told e a b =
    e ∙ ap (λ x. delta x (is_met s.restriction is)) (ap (is_met s.restriction) a ∙ met_looked d.before s old)
    ∙ ap (delta (is_listed d.before s old)) (ap (is_met s.restriction) b ∙ met_looked d.after s new)
