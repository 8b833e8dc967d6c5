use Rattle.std.proofs.Common.{ℕ, List, ◌+◌, ◌^◌, ◌≡◌, min, arith, rules, sym, ◌∙◌, ap, length}
use Rattle.pst_base.specs.Flat.{Flat}
use Rattle.write_limits.proofs.KeptLaws.{sub-less, space-next}
use Rattle.write_limits.proofs.sums.+kept_space.Goals as goal

pub kept_space-below-requires : goal.kept_space-below-requires
kept_space-below-requires t c =
    let h = sub-less c.as_slice-items.result.now c.loop-sub.sub-index c.sub-item.result c.loop-sub-test.true c.sub-item.is in
    let e = ap (λ (l : List Flat). length l) c.as_slice-items.ensures in
    omega (arith, h, e)

pub loop-sub-preserved : goal.loop-sub-preserved
loop-sub-preserved t c =
    c.add-total.ensures ∙ space-next c.as_slice-items.result.now c.loop-sub.sub-index c.loop-sub.total c.add-blocks.result c.kept_space-below.result c.add.result c.sub-item.result c.loop-sub-test.true c.sub-item.is c.loop-sub.invariant
    (c.add-blocks.ensures ∙ ap (λ (k : ℕ). min (3 + k) (2 ^ 60)) c.len.ensures) c.kept_space-below.ensures c.add.ensures
