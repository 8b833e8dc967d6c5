-- What searches list after each command.
use Rattle.std.proofs.Common.{◌≡◌, IfOk}
use Rattle.mail_tree.specs.Step.{after, outcome}
use Rattle.mail_tree.specs.Whole.{Fine}
use Rattle.mail_tree.proofs.FineLaws.{fine_weaker}
use Rattle.mail_laws.proofs.Keeping.{both, from_fine, if_then, if_weaker}
use Rattle.mail_searches.specs.Searches.{lists, row_ids}
use Rattle.mail_searches.specs.Relisting.{around, relisted}
use Rattle.mail_searches.specs.Touching.{followed, touched}
use Rattle.mail_searches.specs.Searching.{AllFresh}
use Rattle.search_lists.specs.Laws.{AreTouched, FreshAfter, LeavesResults, ListsAfter}
use Rattle.search_lists.proofs.FollowLaws.{relists}
use Rattle.search_lists.proofs.FreshLaws.{stays_fresh}
use Rattle.search_lists.proofs.LeaveLaws.{leaves_all}
use Rattle.search_lists.proofs.TouchLaws.{touches_all}

pub lists_after : ListsAfter
lists_after T c s columns rows w run e = if_weaker (λ o. Fine (touched T c o) (AreTouched T o)) _ (outcome T c) (touches_all T c w)
    (λ o t. fine_weaker (AreTouched T o) (λ ts. row_ids (relisted (around T o) s columns ts rows) ≡ lists (after T o) s) (touched T c o) t (λ ts a. relists T o ts s columns rows a run e))

pub fresh_after : FreshAfter
fresh_after T c ss w apart fresh = both (λ o. Fine (touched T c o) (AreTouched T o)) (LeavesResults T) (λ o. IfOk (followed T ss c o) (λ o'. AllFresh (after T o') ss)) (outcome T c) (touches_all T c w) (leaves_all T c w)
    (λ o t l. if_then (AreTouched T o) (λ o'. AllFresh (after T o') ss) (touched T c o) _ (from_fine (AreTouched T o) (touched T c o) t) (λ ts a. stays_fresh T o ts ss a l apart fresh))
