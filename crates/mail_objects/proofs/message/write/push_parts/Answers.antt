use Rattle.std.proofs.Common.{arith}
use Rattle.mail_objects.proofs.AddLaws.{adds-all, adds-more}
use Rattle.mail_objects.proofs.message.write.push_parts.Goals as goal

pub loop-part-preserved : goal.loop-part-preserved
loop-part-preserved c =
    rw c.in_ok-push.ensures.items
    (adds-more c.args.subs.now.items c.args.parts.now c.loop-part.part-index c.loop-part.subs.items c.part-item.result c.in_ok-write_part.field-0 (omega (arith, c.loop-part-test.true)) c.part-item.is c.in_ok-write_part.ensures c.loop-part.invariant)

pub returns : goal.returns
returns c = adds-all c.args.subs.now.items c.args.parts.now c.loop-part.part-index c.loop-part.subs.items (omega (arith, c.loop-part-test.false)) c.loop-part.invariant
