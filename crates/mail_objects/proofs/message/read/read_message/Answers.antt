use Rattle.std.proofs.Common.{false}
use Rattle.std.proofs.lemmas.Result.{err_from_is_err_and}
use Rattle.mapi_values.specs.Messages.{row_ids}
use Rattle.node_values.specs.Subnodes.{without}
use Rattle.mail_objects.specs.Subnodes.{is_table}
use Rattle.mail_objects.proofs.KeptLaws.{kept-others}
use Rattle.mail_objects.proofs.PartLaws.{parts-named}
use Rattle.mail_objects.proofs.OneMessage.{below-stops, context-stops}
use Rattle.mail_objects.proofs.message.read.read_message.Goals as goal

pub returns-in_err-props : goal.returns-in_err-props
returns-in_err-props c =
    let p = err_from_is_err_and c.from_residual.result c.from_residual.ensures.1 in
    rw (p.1, p.2) (context-stops c.args.nid.bits c.args.node.now c.in_err-props.field-0.0 (rw c.as_slice.ensures.value at c.in_err-props.ensures))

pub returns-in_err-recipients : goal.returns-in_err-recipients
returns-in_err-recipients c =
    let p = err_from_is_err_and c.from_residual-in_err-recipients.result c.from_residual-in_err-recipients.ensures.1 in
    rw (p.1, p.2)
    (below-stops c.args.nid.bits c.args.node.now c.in_ok-props.props c.in_ok-props.rest c.in_err-recipients.field-0.0 (rw c.as_slice.ensures.value at c.in_ok-props.ensures) c.in_err-recipients.ensures)

pub invariant_of-result : goal.invariant_of-result
invariant_of-result c = record {
  named = parts-named (without is_table false c.in_ok-props.rest) (row_ids c.in_ok-recipients.attachments) c.in_ok-recipients.parts.items c.in_ok-recipients.ensures.parts_are;
  others = rw (c.in_ok-kept.ensures, c.as_slice-2.ensures.value) (kept-others c.in_ok-recipients.parts.items false c.in_ok-props.rest);
}
