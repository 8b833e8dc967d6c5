use Rattle.std.proofs.Common.{◌∙◌, refl, arith}
use Rattle.node_values.proofs.SubLaws.{ascend-next}
use Rattle.node_values.proofs.order.ids_ascend.Goals as goal

pub loop-sub-preserved : goal.loop-sub-preserved
loop-sub-preserved c =
    rw c.from-low.ensures
    (ascend-next c.loop-sub.low c.loop-sub.sub-index c.sub-item.result.nid.bits c.as_slice-sub-items.result.now c.sub-item.result (omega arith) c.sub-item.is refl (omega (arith, c.from.ensures)) ∙ c.loop-sub.invariant)
