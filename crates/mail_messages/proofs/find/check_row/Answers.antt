use Rattle.std.proofs.Common.{Ok, is_some, not, refl}
use Rattle.command_text.specs.declared.reply.CommandRefusal.TheVariants.{Object}
use Rattle.mapi_values.specs.Tables.{find_row}
use Rattle.mail_objects.specs.Forms.{Tbl}
use Rattle.mail_draft.specs.Listed.{has_row}
use Rattle.mail_tree.specs.Changing.{contents, nothing, refused_if, table_at}
use Rattle.mail_messages.specs.Finding.{is_listed}
use Rattle.mail_draft.proofs.DeskCalls.{answers_at, answers_exit, answers_of, regrouped}
use Rattle.mail_messages.proofs.find.check_row.Goals as goal

pub returns-in_err-listed-clause-answer : goal.returns-in_err-listed-clause-answer
unfolding is_listed
returns-in_err-listed-clause-answer g c =
    regrouped (λ T D. table_at T nothing (contents c.args.folder.bits)) (λ T D (t : Tbl). Ok (is_some (find_row c.args.message.bits t.table.rows))) (λ T D listed. refused_if (not listed) Object)
    (answers_exit _ (answers_at (λ q T D. has_row T q c.args.message.bits) c.contents.ensures c.in_err-listed.ensures.answer) c.from_residual.ensures.1)

pub returns-then-listed-clause-answer : goal.returns-then-listed-clause-answer
unfolding is_listed
returns-then-listed-clause-answer g c =
    regrouped (λ T D. table_at T nothing (contents c.args.folder.bits)) (λ T D (t : Tbl). Ok (is_some (find_row c.args.message.bits t.table.rows))) (λ T D listed. refused_if (not listed) Object)
    (answers_of (λ (u : Unit {0}). u) (λ listed. refused_if (not listed) Object) _ (answers_at (λ q T D. has_row T q c.args.message.bits) c.contents.ensures c.in_ok-listed.ensures.answer) (rw c.if-listed.true refl))

pub returns-else-listed-clause-answer : goal.returns-else-listed-clause-answer
unfolding is_listed
returns-else-listed-clause-answer g c =
    regrouped (λ T D. table_at T nothing (contents c.args.folder.bits)) (λ T D (t : Tbl). Ok (is_some (find_row c.args.message.bits t.table.rows))) (λ T D listed. refused_if (not listed) Object)
    (answers_of (λ (u : Unit {0}). u) (λ listed. refused_if (not listed) Object) _ (answers_at (λ q T D. has_row T q c.args.message.bits) c.contents.ensures c.in_ok-listed.ensures.answer) (rw c.if-listed.false refl))
