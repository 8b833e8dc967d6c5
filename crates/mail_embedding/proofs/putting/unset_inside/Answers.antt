use Rattle.std.proofs.Common.{not}
use Rattle.std.specs.Option.{is_some}
use Rattle.command_text.specs.declared.reply.CommandRefusal.TheVariants.{Property, Protected}
use Rattle.mapi_values.specs.Messages.{Mes}
use Rattle.mapi_values.specs.Properties.{remove_id}
use Rattle.mail_tree.specs.Changing.{refused_if}
use Rattle.mail_tree.specs.Values.{bytes_of, is_unset_protected, with_props}
use Rattle.embedded_obj.specs.Embedding.{becoming, unset_inside}
use Rattle.mail_parts.specs.mail_messages.Parts.{may_unset}
use Rattle.mail_parts.proofs.mail_draft_laws.DeskCalls.{exits, regroup}
use Rattle.mail_parts.proofs.mail_draft_laws.Passes.{then_says}
use Rattle.mail_embedding.proofs.putting.unset_inside.Goals as goal

pub returns-in_err-check_unset-clause-answer : goal.returns-in_err-check_unset-clause-answer
unfolding unset_inside
returns-in_err-check_unset-clause-answer c =
    let m = c.args.mail in let tag = c.args.tag in
    regroup (λ (e : Mes). e) (refused_if (is_unset_protected tag.id tag.kind m.props) Protected) (λ u. refused_if (not (is_some (bytes_of tag.id tag.kind m.props))) Property) (λ u. becoming m (with_props (remove_id tag.id m.props) m)) _
    (exits (λ (u : Unit {0}). u) (λ (e : Mes). e) (may_unset tag m.props) (λ u. becoming m (with_props (remove_id tag.id m.props) m)) _ _ c.in_err-check_unset.ensures.answer c.from_residual.ensures.1)

pub returns-clause-answer : goal.returns-clause-answer
unfolding unset_inside
returns-clause-answer c =
    let m = c.args.mail in let tag = c.args.tag in
    regroup (λ (e : Mes). e) (refused_if (is_unset_protected tag.id tag.kind m.props) Protected) (λ u. refused_if (not (is_some (bytes_of tag.id tag.kind m.props))) Property) (λ u. becoming m (with_props (remove_id tag.id m.props) m)) _
    (then_says (λ (u : Unit {0}). u) (λ (e : Mes). e) (may_unset tag m.props) (λ u. becoming m (with_props (remove_id tag.id m.props) m)) _ _ c.in_ok-check_unset.ensures.answer c.take_inside.ensures.answer)
