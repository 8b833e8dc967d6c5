use Rattle.std.proofs.Common.{◌≡◌, List, length, drop, get_or, ap, ◌∙◌, arith}
use Rattle.std.proofs.lemmas.List.{take_all}
use Rattle.pst_base.specs.declared.subs.Sub.{Sub}
use Rattle.pst_base.specs.Subs.{flattened}
use Rattle.subnode_tree.proofs.FormLaws.{fewer-inner}
use Rattle.content_plan.proofs.MatchLaws.{behind-next}
use Rattle.content_plan.proofs.matching.+behind.Goals as goal

pub behind-rest-requires : goal.behind-rest-requires
behind-rest-requires t c =
    let xs = c.as_slice-sub-items.result.now in
    let x = c.sub-item.result in
    let i = c.loop-sub.sub-index in
    let fewer = fewer-inner xs i x c.loop-sub-test.true in
    let same : length x.subs ≡ length (get_or xs i x).subs = ap (λ (s : Sub). length s.subs) c.sub-item.is in
    let whole : length (flattened xs) ≡ length c.args.s.now = ap length c.as_slice-sub-items.ensures in
    let least = c.decreases in
    (omega (arith, fewer, same, whole, least), tt)

pub loop-sub-preserved : goal.loop-sub-preserved
loop-sub-preserved t c =
    behind-next c.args.ids.now c.loop-sub.rest.now c.others.result.now c.behind-rest.result.now c.as_slice-sub-items.result.now c.loop-sub.sub-index c.sub-item.result c.loop-sub-test.true c.sub-item.is c.others.ensures c.behind-rest.ensures c.loop-sub.invariant

pub returns : goal.returns
returns t c =
    c.loop-sub.invariant ∙ ap (λ (l : List Sub). drop (length (flattened l)) c.args.ids.now) (take_all c.loop-sub.sub-index c.as_slice-sub-items.result.now c.loop-sub-test.false)
    ∙ ap (λ n. drop (length n) c.args.ids.now) c.as_slice-sub-items.ensures
