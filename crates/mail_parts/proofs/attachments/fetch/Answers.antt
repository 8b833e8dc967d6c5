use Rattle.std.proofs.Common.{◌∙◌}
use Rattle.mail_tree.specs.Messages.{fetched_data}
use Rattle.mail_draft.proofs.DeskCalls.{comes_exit, comes_then}
use Rattle.mail_parts.specs.Pieces.{telling_data}
use Rattle.mail_parts.proofs.DeskTests.{reply_comes, reply_stops}
use Rattle.mail_parts.proofs.attachments.fetch.Goals as goal

pub returns-in_err-mail-clause-answer : goal.returns-in_err-mail-clause-answer
unfolding fetched_data
returns-in_err-mail-clause-answer g c = comes_exit _ c.in_err-mail.ensures.answer c.from_residual.ensures.1

pub returns-in_err-reply-clause-answer : goal.returns-in_err-reply-clause-answer
unfolding fetched_data
returns-in_err-reply-clause-answer g c =
    comes_then _ c.in_ok-mail.ensures.answer c.in_ok-mail.ensures.reads
    (reply_stops (λ T. telling_data T c.args.attachment.bits c.in_ok-mail.mail) _ _ c.in_err-reply.ensures.answer c.from_residual-in_err-reply.ensures.1)

pub returns-clause-answer : goal.returns-clause-answer
unfolding fetched_data
returns-clause-answer g c =
    let coming = c.replied.ensures in
    comes_then _ c.in_ok-mail.ensures.answer c.in_ok-mail.ensures.reads
    (reply_comes (λ T. telling_data T c.args.attachment.bits c.in_ok-mail.mail) c.replied.result c.in_ok-reply.ensures.answer (c.in_ok-mail.ensures.reads.changed ∙ c.requires.fresh) coming.places coming.last coming.reply)
