use Rattle.mail_tree.specs.Changing.{◌>>=◌}
use Rattle.mail_tree.specs.Folders.{folder_in, unless_plain}
use Rattle.mail_tree.specs.Messages.{copied_message}
use Rattle.mail_messages.specs.Parts.{copying_in, may_copy}
use Rattle.mail_draft.proofs.DeskCalls.{comes_exit, comes_then}
use Rattle.mail_messages.proofs.Calls.{comes_regrouped}
use Rattle.mail_messages.proofs.copying.copy_message.Goals as goal

pub returns-in_err-mail-clause-answer : goal.returns-in_err-mail-clause-answer
unfolding copied_message
returns-in_err-mail-clause-answer g c = comes_exit _ c.in_err-mail.ensures.answer c.from_residual.ensures.1

pub returns-clause-answer : goal.returns-clause-answer
unfolding copied_message
returns-clause-answer g c =
    let f = c.args.folder.bits in let N = c.in_ok-mail.mail in
    comes_then _ c.in_ok-mail.ensures.answer c.in_ok-mail.ensures.reads
    (comes_regrouped (λ T D. folder_in T f) (λ T D. unless_plain) (λ T D u. may_copy N >>= λ v. copying_in T f N) c.copy_into.ensures.answer)
