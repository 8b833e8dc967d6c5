use Rattle.mail_tree.specs.Folders.{folder_in}
use Rattle.mail_draft.proofs.DeskCalls.{comes_then}
use Rattle.mail_draft.proofs.DeskLoops.{reads_none, reads_ok}
use Rattle.mail_folders.proofs.Calls.{asked}
use Rattle.mail_searches.specs.Moving.{removing_search}
use Rattle.search_folders.specs.Moves.{dropping_search}
use Rattle.search_folders.proofs.moving.removing_search.Goals as goal

pub returns-clause-answer : goal.returns-clause-answer
unfolding removing_search dropping_search
returns-clause-answer g c =
    comes_then _ (asked (λ T. folder_in T c.args.search.bits) c.places.ensures c.in_ok-place.ensures.answer) (reads_ok _ (reads_none _))
    (comes_then _ c.in_ok-unless_protected.ensures.answer c.in_ok-unless_protected.ensures.reads c.dropping_search.ensures.answer)
