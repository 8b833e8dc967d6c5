use Rattle.std.proofs.Common.{not, is_some}
use Rattle.command_text.specs.declared.reply.CommandRefusal.TheVariants.{Property, Protected}
use Rattle.mapi_values.specs.Properties.{remove_id}
use Rattle.mail_tree.specs.Changing.{refused_if}
use Rattle.mail_tree.specs.Messages.{changed_message, unset_value}
use Rattle.mail_tree.specs.Values.{bytes_of, is_unset_protected}
use Rattle.mail_draft.proofs.DeskCalls.{comes_exit, comes_then}
use Rattle.mail_messages.proofs.Calls.{comes_regrouped}
use Rattle.mail_messages.proofs.values.unset_value.Goals as goal

pub returns-in_err-mail-clause-answer : goal.returns-in_err-mail-clause-answer
unfolding unset_value
returns-in_err-mail-clause-answer g c = comes_exit _ c.in_err-mail.ensures.answer c.from_residual.ensures.1

pub returns-clause-answer : goal.returns-clause-answer
unfolding unset_value
returns-clause-answer g c =
    let t = c.args.tag in let N = c.in_ok-mail.mail in
    comes_then _ c.in_ok-mail.ensures.answer c.in_ok-mail.ensures.reads
    (comes_regrouped (λ T D. refused_if (is_unset_protected t.id t.kind N.props) Protected) (λ T D u. refused_if (not (is_some (bytes_of t.id t.kind N.props))) Property) (λ T D w. changed_message T N (remove_id t.id N.props))
    c.remove_value.ensures.answer)
