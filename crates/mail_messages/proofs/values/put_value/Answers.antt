use Rattle.std.proofs.Common.{ℕ, None}
use Rattle.command_text.specs.declared.reply.LastLine.TheVariants.{Done}
use Rattle.mapi_values.specs.Messages.{Mes}
use Rattle.mapi_values.specs.Properties.{put}
use Rattle.mail_tree.specs.Messages.{changed_message, remaking}
use Rattle.mail_tree.specs.Names.{unless_nameless}
use Rattle.mail_messages.specs.Parts.{may_put, may_set}
use Rattle.mail_draft.proofs.DeskCalls.{answers_at, comes_at, comes_exit, comes_then}
use Rattle.mail_messages.proofs.Calls.{comes_regrouped}
use Rattle.mail_messages.proofs.values.put_value.Goals as goal

pub returns-in_err-check_put-clause-answer : goal.returns-in_err-check_put-clause-answer
returns-in_err-check_put-clause-answer g c =
    let M = c.args.mail in let v = c.args.value.now in
    comes_regrouped (λ T D. may_set v.id M.props) (λ T D u. unless_nameless T v.id) (λ T D u. changed_message T M (put v M.props))
    (comes_exit _ (answers_at (λ (id : ℕ) T D. may_put T id M.props) c.id.ensures c.in_err-check_put.ensures.answer) c.from_residual.ensures.1)

pub returns-clause-answer : goal.returns-clause-answer
unfolding changed_message
returns-clause-answer g c =
    let M = c.args.mail in let v = c.args.value.now in
    comes_regrouped (λ T D. may_set v.id M.props) (λ T D u. unless_nameless T v.id) (λ T D u. changed_message T M (put v M.props))
    (comes_then _ (answers_at (λ (id : ℕ) T D. may_put T id M.props) c.id.ensures c.in_ok-check_put.ensures.answer) c.in_ok-check_put.ensures.reads
    (comes_at (λ (m : Mes) T D. remaking T m None Done) c.in_ok-changed.ensures c.change_message.ensures.answer))
