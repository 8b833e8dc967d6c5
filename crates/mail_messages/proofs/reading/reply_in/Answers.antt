use Rattle.std.proofs.Common.{arith, refl}
use Rattle.command_text.specs.declared.reply.Reply.{Reply}
use Rattle.mail_draft.proofs.Passes.{no_matter}
use Rattle.std.proofs.lemmas.Result.{err_from_is_err_and}
use Rattle.mail_messages.specs.Parts.{value_reply}
use Rattle.mail_messages.proofs.reading.reply_in.Goals as goal

pub returns-in_err-told-clause-answer : goal.returns-in_err-told-clause-answer
returns-in_err-told-clause-answer g c = λ T s M here content.
    let p = err_from_is_err_and c.from_residual.result c.from_residual.ensures.1 in
    rw (p.1, p.2) (no_matter (λ (r : Reply). r) (value_reply c.args.tag M.props) c.in_err-told.field-0.0 (c.in_err-told.ensures.told M content))

pub returns-in_err-told-clause-reads : goal.returns-in_err-told-clause-reads
returns-in_err-told-clause-reads g c =
    let p = err_from_is_err_and c.from_residual.result c.from_residual.ensures.1 in
    record { shows = λ T s. s; changed = refl; disk = refl; faults = omega arith; since = λ f s. s; cause = rw (p.1, p.2) (c.in_err-told.ensures.cause _ _ _) }

pub returns-clause-answer : goal.returns-clause-answer
returns-clause-answer g c = λ T s M here content. c.told_reply.ensures.answer T s M here (c.in_ok-told.ensures.told M content)
