use Rattle.std.proofs.Common.{ℕ, List, ◌^◌, min, arith, ◌∙◌, ap, length}
use Rattle.pst_base.specs.Flat.{Flat}
use Rattle.staged_nodes.proofs.CountLaws.{sub-less, subs-next}
use Rattle.staged_nodes.proofs.staging.+count_subs.Goals as goal

pub count_subs-below-requires : goal.count_subs-below-requires
count_subs-below-requires t c =
    let h = sub-less c.as_slice-items.result.now c.loop-sub.sub-index c.sub-item.result c.loop-sub-test.true c.sub-item.is in
    let e = ap (λ (l : List Flat). length l) c.as_slice-items.ensures in
    omega (arith, h, e)

pub loop-sub-preserved : goal.loop-sub-preserved
loop-sub-preserved t c =
    c.min-n.ensures ∙ subs-next c.as_slice-items.result.now c.loop-sub.sub-index c.loop-sub.n c.min-blocks.result c.count_subs-below.result c.sub-item.result c.loop-sub-test.true c.sub-item.is c.loop-sub.invariant
    (c.min-blocks.ensures ∙ ap (λ (k : ℕ). min k (2 ^ 60)) c.len.ensures) c.count_subs-below.ensures
