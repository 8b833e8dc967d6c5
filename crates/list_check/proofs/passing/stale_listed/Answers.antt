use Rattle.std.proofs.Common.{◌∙◌}
use Rattle.mail_draft.proofs.Looking.{shown_still}
use Rattle.list_check.specs.Watching.{watches_of}
use Rattle.list_check.proofs.Steps.{listed_told}
use Rattle.list_check.proofs.passing.stale_listed.Goals as goal

pub returns-clause-answer : goal.returns-clause-answer
returns-clause-answer g c = λ T s e.
    listed_told T (watches_of c.args.watched.now) c.args.folder.bits _ c.in_ok-node.node _ _ c.stale_among.result c.contents.ensures (c.in_ok-node.ensures.answer T s) c.table.ensures.table (c.as_slice.ensures.value ∙ c.in_ok-messages.ensures)
    (c.stale_among.ensures.answer T (shown_still T c.in_ok-node.ensures.looks s) e)
