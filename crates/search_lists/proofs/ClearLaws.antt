-- In a whole tree it can be told of each id whether a message stands there.
use Rattle.std.proofs.Common.{◌≡◌, ◌∙◌, ℕ, ◌&&◌, Bool, not, true, false, List, [], ◌∷◌, Option, None, Some, Ok, Err, ap, refl, inl, inr}
use Rattle.std.specs.List.{list_any}
use Rattle.std.specs.Option.{is_none}
use Rattle.std.specs.FinMap as map
use Rattle.mapi_values.specs.Messages.{Mes}
use Rattle.mapi_values.specs.Values.{Val}
use Rattle.mail_objects.specs.declared.object.Object.{Object}
use Rattle.mail_tree.specs.Changing.{Answer, Changed, as_message}
use Rattle.mail_tree.specs.Messages.{message_in}
use Rattle.mail_tree.specs.Tree.{Tree, object_at}
use Rattle.mail_tree.specs.Whole.{IsWhole}
use Rattle.mail_tree.proofs.FineLaws.{cases_Option}
use Rattle.mail_laws.specs.Laws.{message_with}
use Rattle.mail_laws.proofs.FoundMessages.{found_there, refused_there}
use Rattle.mail_searches.specs.Relisting.{agrees, is_unclear, unless_unclear}

-- what the folder tells of the id is so
tells_rightly : (T : Tree) (q : ℕ) → IsWhole T → agrees (message_in T q) (message_with T q) ≡ true
tells_rightly T q w = elim (cases_Option (message_with T q)) [
  | inl none ↦ rw (refused_there T q w none, none) refl
  | inr M ↦ rw (found_there T q M.0 w M.1) refl
]

-- so no id is unclear
never_unclear : (T : Tree) (D : Changed) (q : ℕ) → IsWhole T → is_unclear T D q ≡ false
never_unclear T D q w = go (is_none (map.get D.objects q)) (agrees (message_in T q) (message_with T q)) (tells_rightly T q w)
  where
    go : (kept agree : Bool) → agree ≡ true → (kept && not agree) ≡ false
    go true true e = refl
    go false agree e = refl
    go true false e = cc

-- nor is any row
pub none_unclear : (T : Tree) (D : Changed) (rows : List (ℕ × List Val)) → IsWhole T → list_any (λ r. is_unclear T D r.0) rows ≡ false
none_unclear T D [] w = refl
none_unclear T D (r ∷ rs) w = rw (never_unclear T D r.0 w) (none_unclear T D rs w)
