use Rattle.std.proofs.Common.{arith}
use Rattle.content_plan.proofs.FormLaws.{measured-next}
use Rattle.content_plan.proofs.form.is_content.Goals as goal

pub loop-block-preserved : goal.loop-block-preserved
loop-block-preserved c =
    let few = c.if-len-gt-MOST_BYTES.false in
    let size = c.len.ensures in
    measured-next c.args.blocks.now c.loop-block.block-index c.loop-block.total c.len-in-loop-block.result c.block-item.result c.loop-block-test.true c.block-item.is c.len-in-loop-block.ensures (omega (arith, few, size)) c.loop-block.invariant
