use Rattle.std.proofs.Common.{◌∙◌, ◌+◌, Bool, not, drop, refl, sym, ap, arith, ◌||◌}
use Rattle.pst_base.specs.Subs.{flattened}
use Rattle.embedded_obj.proofs.DepthLaws.{reach, reach-any, reach-next}
use Rattle.embedded_obj.proofs.nesting.+reaches.Goals as goal

pub returns-then-level-eq0 : goal.returns-then-level-eq0
returns-then-level-eq0 t c =
    ap not c.is_empty.ensures ∙ sym (reach-any c.as_slice-entries.result.now) ∙ ap (reach 0) c.as_slice-entries.ensures ∙ rw c.if-level-eq0.true refl

pub returns-then-reaches : goal.returns-then-reaches
returns-then-reaches t c =
    let next = reach-next c.args.level c.loop-sub.sub-index c.as_slice-entries.result.now c.sub-item.result (omega (arith, c.if-level-eq0.false)) (omega arith) c.sub-item.is in
    let yes = sym c.if-reaches.true ∙ c.reaches.ensures in
    let rest = reach c.args.level (flattened (drop (c.loop-sub.sub-index + 1) c.as_slice-entries.result.now)) in
    ap (λ (b : Bool). b || rest) yes ∙ sym next ∙ c.loop-sub.invariant ∙ ap (reach c.args.level) c.as_slice-entries.ensures

pub loop-sub-preserved : goal.loop-sub-preserved
loop-sub-preserved t c =
    let next = reach-next c.args.level c.loop-sub.sub-index c.as_slice-entries.result.now c.sub-item.result (omega (arith, c.if-level-eq0.false)) (omega arith) c.sub-item.is in
    let no = sym c.if-reaches.false ∙ c.reaches.ensures in
    let rest = reach c.args.level (flattened (drop (c.loop-sub.sub-index + 1) c.as_slice-entries.result.now)) in
    ap (λ (b : Bool). b || rest) no ∙ sym next ∙ c.loop-sub.invariant
