use Rattle.std.proofs.Common.{List}
use Rattle.mapi_values.specs.Values.{Val}
use Rattle.mail_tree.specs.Messages.{added_recipient}
use Rattle.mail_draft.proofs.DeskCalls.{comes_at, comes_exit, comes_then}
use Rattle.mail_parts.specs.Pieces.{adding_one}
use Rattle.mail_parts.proofs.recipients.add_recipient.Goals as goal

pub returns-in_err-mail-clause-answer : goal.returns-in_err-mail-clause-answer
unfolding added_recipient
returns-in_err-mail-clause-answer g c = comes_exit _ c.in_err-mail.ensures.answer c.from_residual.ensures.1

pub returns-clause-answer : goal.returns-clause-answer
unfolding added_recipient
returns-clause-answer g c =
    comes_then _ c.in_ok-mail.ensures.answer c.in_ok-mail.ensures.reads
    (comes_at (λ (ps : List Val) T D. adding_one T c.in_ok-mail.mail ps) c.in_ok-props.ensures c.add_one.ensures.answer)
