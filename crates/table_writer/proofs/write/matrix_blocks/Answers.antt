use Rattle.std.proofs.Common.{arith, ap, length, length-drop}
use Rattle.table_writer.proofs.MatrixLaws.{cuts-count, cuts-done, cuts-start, cuts-step}
use Rattle.table_writer.proofs.write.matrix_blocks.Goals as goal

pub cutting-init : goal.cutting-init
cutting-init c = rw c.new-blocks.ensures (cuts-start c.args.per c.args.rows.now)

pub cutting-preserved : goal.cutting-preserved
cutting-preserved c =
    rw c.in_ok-push.ensures.ok
    (cuts-step c.args.per c.args.rows.now c.cutting.blocks c.cutting.rest.now c.split_at.result.0.now c.split_at.result.1.now c.in_ok-packed.field-0 _ c.cutting.invariant (omega (arith, c.cutting-test.true))
    c.split_at.ensures.front c.split_at.ensures.back c.in_ok-packed.ensures)

pub returns-clause-rows : goal.returns-clause-rows
returns-clause-rows c =
    rw c.in_ok-push-2.ensures.ok
    (cuts-done c.args.per c.args.rows.now c.cutting.blocks c.cutting.rest.now c.in_ok-packed-2.field-0 _ c.cutting.invariant c.requires (omega (arith, c.cutting-test.false)) c.in_ok-packed-2.ensures)

pub returns-clause-count : goal.returns-clause-count
returns-clause-count c =
    rw c.in_ok-push-2.ensures.ok
    (cuts-count c.args.per c.args.rows.now c.cutting.blocks c.cutting.rest.now c.in_ok-packed-2.field-0 c.cutting.invariant c.requires)

pub cutting-smaller : goal.cutting-smaller
cutting-smaller c = omega (arith, ap length c.split_at.ensures.back, length-drop c.args.per c.cutting.rest.now, c.cutting-test.true, c.requires)
