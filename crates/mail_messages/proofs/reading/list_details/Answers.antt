use Rattle.std.proofs.Common.{◌∙◌}
use Rattle.mail_tree.specs.Messages.{details}
use Rattle.mail_draft.proofs.DeskCalls.{comes_exit, comes_then, comes_unchanged}
use Rattle.mail_messages.proofs.reading.list_details.Goals as goal

pub returns-in_err-mail-clause-answer : goal.returns-in_err-mail-clause-answer
unfolding details
returns-in_err-mail-clause-answer g c = comes_exit _ c.in_err-mail.ensures.answer c.from_residual.ensures.1

pub returns-clause-answer : goal.returns-clause-answer
unfolding details
returns-clause-answer g c =
    let coming = c.replied.ensures in
    comes_then _ c.in_ok-mail.ensures.answer c.in_ok-mail.ensures.reads
    (comes_unchanged c.replied.result _ (c.in_ok-mail.ensures.reads.changed ∙ c.requires.fresh) coming.places coming.last (coming.reply ∙ c.in_ok-reply.ensures))
