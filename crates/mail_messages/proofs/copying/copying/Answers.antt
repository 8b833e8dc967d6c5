use Rattle.std.proofs.Common.{◌∙◌, ap}
use Rattle.mapi_values.specs.Messages.{Mes}
use Rattle.mail_tree.specs.Changing.{◌>>=◌}
use Rattle.mail_tree.specs.Folders.{making}
use Rattle.mail_tree.specs.Ids.{new_id}
use Rattle.mail_tree.specs.Messages.{added_message, copy_of, copying}
use Rattle.mail_tree.specs.Settling.{touched}
use Rattle.mail_messages.specs.Parts.{adding}
use Rattle.mail_draft.proofs.DeskCalls.{changes_at, changes_come, changes_come_exit, comes_at, comes_from}
use Rattle.mail_messages.proofs.Calls.{comes_ungrouped}
use Rattle.mail_messages.proofs.copying.copying.Goals as goal

pub returns-in_err-touched-clause-answer : goal.returns-in_err-touched-clause-answer
unfolding copying
returns-in_err-touched-clause-answer g c =
    let M = c.args.mail in let f = c.args.folder.bits in let i = c.args.index in
    let from = ap (λ (m : Mes). m.folder) (c.behind-mail.view_is ∙ c.message.ensures.message) in
    comes_from (λ T D. touched T M.folder D >>= added_message T (copy_of (new_id 4 i) f M) >>= making T T.places 4 i) c.requires.fresh
    (comes_ungrouped (λ T D. touched T M.folder D) (λ T D. added_message T (copy_of (new_id 4 i) f M)) (λ T D. making T T.places 4 i)
    (changes_come_exit _ (changes_at (λ q T. touched T q) from c.in_err-touched.ensures.answer) c.from_residual.ensures.1))

pub returns-clause-answer : goal.returns-clause-answer
unfolding copying
returns-clause-answer g c =
    let M = c.args.mail in let f = c.args.folder.bits in let i = c.args.index in
    let from = ap (λ (m : Mes). m.folder) (c.behind-mail.view_is ∙ c.message.ensures.message) in
    let copy = c.copy_of-copy.ensures ∙ ap (λ id. copy_of id f M) c.new_id.ensures in
    comes_from (λ T D. touched T M.folder D >>= added_message T (copy_of (new_id 4 i) f M) >>= making T T.places 4 i) c.requires.fresh
    (comes_ungrouped (λ T D. touched T M.folder D) (λ T D. added_message T (copy_of (new_id 4 i) f M)) (λ T D. making T T.places 4 i)
    (changes_come _ (changes_at (λ q T. touched T q) from c.in_ok-touched.ensures.answer) c.in_ok-touched.ensures.drafts
    (comes_at (λ (m : Mes) T D. adding T m D i) copy c.adding.ensures.answer)))
