use Rattle.std.proofs.Common.{drop, ap, ◌∙◌}
use Rattle.pst_base.specs.Fields.{number_at}
use Rattle.mapi_values.specs.Values.{in_field}
use Rattle.content_glance.proofs.TellLaws.{names-below}
use Rattle.content_glance.proofs.content.told_by.Goals as goal

pub returns-in-Err-Below : goal.returns-in-Err-Below
returns-in-Err-Below c =
    let below = rw c.in-Err-Below.field-0-is at c.in-Err-Below.ensures in
    (number_at 4 0 (drop 2 c.args.entry.now), names-below c.args.id c.args.entry.now c.field_width.result (c.field_width.ensures ∙ ap in_field c.u16_at-kind.ensures) below)
