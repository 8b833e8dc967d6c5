use Rattle.std.proofs.Common.{arith, false, true}
use Rattle.std.proofs.lemmas.Result.{err_from_is_err_and}
use Rattle.node_values.specs.Subnodes.{without}
use Rattle.mail_objects.specs.Subnodes.{is_table}
use Rattle.mail_objects.proofs.PartLaws.{parts-all, stops-here}
use Rattle.mail_objects.proofs.message.read.read_parts.Goals as goal

pub returns-in_err-read_part : goal.returns-in_err-read_part
returns-in_err-read_part c =
    let p = err_from_is_err_and c.from_residual-in_err-read_part.result c.from_residual-in_err-read_part.ensures.1 in
    rw (p.1, p.2)
    (stops-here (without is_table false c.args.finder.now) c.args.rows.now c.loop-row.row-index c.row-item.result c.in_err-read_part.field-0.0 (omega (arith, c.loop-row-test.true)) c.row-item.is
    c.in_err-read_part.ensures c.loop-row.invariant.1)

pub returns : goal.returns
returns c = parts-all (without is_table false c.args.finder.now) c.args.rows.now c.loop-row.row-index c.loop-row.parts.items (omega (arith, c.loop-row-test.false)) c.loop-row.invariant.0
