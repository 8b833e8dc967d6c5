use Rattle.std.proofs.Common.{◌∙◌, Ok}
use Rattle.mail_tree.specs.Changing.{◌>>=◌}
use Rattle.mail_tree.specs.Folders.{unchanged}
use Rattle.mail_draft.proofs.DeskCalls.{comes_exit, comes_then, comes_unchanged}
use Rattle.mail_messages.specs.Reading.{value_at}
use Rattle.mail_messages.proofs.Calls.{comes_same}
use Rattle.mail_messages.proofs.FoundLaws.{value-there}
use Rattle.mail_messages.proofs.reading.get_value.Goals as goal

pub returns-in_err-check_there-clause-answer : goal.returns-in_err-check_there-clause-answer
returns-in_err-check_there-clause-answer g c =
    let m = c.args.message.bits in let tag = c.args.tag in
    comes_same (λ T D. value-there T m tag) (comes_exit (λ T D u. value_at T m tag >>= λ r. Ok (unchanged T r)) c.in_err-check_there.ensures.answer c.from_residual.ensures.1)

pub returns-in_err-reply-clause-answer : goal.returns-in_err-reply-clause-answer
returns-in_err-reply-clause-answer g c =
    let m = c.args.message.bits in let tag = c.args.tag in
    comes_same (λ T D. value-there T m tag) (comes_then (λ T D u. value_at T m tag >>= λ r. Ok (unchanged T r)) c.in_ok-check_there.ensures.answer c.in_ok-check_there.ensures.reads
    (comes_exit (λ T D r. Ok (unchanged T r)) c.in_err-reply.ensures.answer c.from_residual-in_err-reply.ensures.1))

pub returns-clause-answer : goal.returns-clause-answer
returns-clause-answer g c =
    let m = c.args.message.bits in let tag = c.args.tag in let coming = c.replied.ensures in
    comes_same (λ T D. value-there T m tag) (comes_then (λ T D u. value_at T m tag >>= λ r. Ok (unchanged T r)) c.in_ok-check_there.ensures.answer c.in_ok-check_there.ensures.reads
    (comes_then (λ T D r. Ok (unchanged T r)) c.in_ok-reply.ensures.answer c.in_ok-reply.ensures.reads
    (comes_unchanged c.replied.result c.in_ok-reply.reply (c.in_ok-reply.ensures.reads.changed ∙ c.in_ok-check_there.ensures.reads.changed ∙ c.requires.fresh) coming.places coming.last coming.reply)))
