use Rattle.mail_draft.proofs.DeskCalls.{both_change, first_exits}
use Rattle.mail_draft.proofs.on_desk.settle.settled_with.Goals as goal

pub returns-in_err-counted_with-clause-answer : goal.returns-in_err-counted_with-clause-answer
returns-in_err-counted_with-clause-answer g c = first_exits _ c.in_err-counted_with.ensures.answer c.from_residual.ensures.1

pub returns-clause-answer : goal.returns-clause-answer
returns-clause-answer g c = both_change _ c.in_ok-counted_with.ensures.answer c.in_ok-counted_with.ensures.drafts c.mirrored.ensures.answer
