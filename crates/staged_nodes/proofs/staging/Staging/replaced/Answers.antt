use Rattle.std.proofs.Common.{◌∙◌, ◌^◌, ap, sym, min, arith, ◌≤◌}
use Rattle.staged_nodes.specs.Sizes.{one_changed}
use Rattle.staged_nodes.specs.Staged.{staged_size}
use Rattle.staged_nodes.proofs.CountLaws.{replaced-next}
use Rattle.staged_nodes.proofs.staging.Staging.replaced.Goals as goal

pub loop-change-preserved : goal.loop-change-preserved
loop-change-preserved c = λ F is le.
    let size = is.size in
    let few : staged_size F ≤ 16384 = let low = is.few in omega (arith, size, low) in
    c.saturating_add-n.ensures
    ∙ replaced-next F c.args.nodes.now c.loop-change.change-index c.loop-change.n c.count_found.result (staged_size F) c.change-item.result c.loop-change-test.true c.change-item.is le few (c.loop-change.invariant F is le)
    (c.count_found.ensures ∙ ap (λ x. min (one_changed x) (2 ^ 60)) (sym (is.changes (c.change-item.result.0).bits)))
