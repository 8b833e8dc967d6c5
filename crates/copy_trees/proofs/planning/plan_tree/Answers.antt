use Rattle.std.proofs.Common.{◌∙◌, ◌/◌, ◌++◌, ◌∷◌, [], ℕ, List, length, length-append, get_or, sym, subst, ap, arith}
use Rattle.pst_base.specs.declared.ids.Bref.{Bref}
use Rattle.copy_trees.proofs.LevelLaws.{Climbs, climbs-more, no_page}
use Rattle.copy_trees.proofs.planning.plan_tree.Goals as goal

pub loop-width-preserved : goal.loop-width-preserved
loop-width-preserved g c =
    let inv = c.loop-width.invariant in
    let own = c.in_ok-level.ensures in
    let most = 488 / g.E.Entry.size in
    let levels = c.loop-width.levels.items in
    let ats : List Bref = c.in_ok-level.level.pages in
    let end = c.in_ok-level.level.end in
    let next = c.in_ok-level.level.next_page in
    let items = c.in_ok-push-2.ensures.items in
    let width = c.pages_for-width.result in
    let root = get_or c.as_slice-in-loop-width.result.now 0 no_page in
    let root_is = ap (λ (l : List Bref). get_or l 0 no_page) c.as_slice-in-loop-width.ensures.value in
    let test = c.loop-width-test.true in
    let fit = c.if-len-gt-ABOVE.false in
    let len = c.len.ensures in
    let size = length-append levels (ats ∷ []) in
    let long = ap length items in
    let few = inv.few in
    let few' = own.few in
    let behind = inv.behind in
    let behind' = own.behind in
    let some = c.pages_for-width.ensures.some in
    let more = climbs-more most c.args.count c.args.from c.args.first levels c.loop-width.width c.loop-width.root c.loop-width.end c.loop-width.next_page ats root end next
    inv.climbs (omega (arith, test)) (own.count ∙ c.pages_for-width.ensures.value) root_is own.order own.numbered
    in
    record {
      some = some;
      behind = omega (arith, behind, behind');
      low = omega (arith, long, size);
      short = omega (arith, long, size, fit, len);
      few = omega (arith, few, few', long, size);
      climbs = subst (λ (l : List (List Bref)). Climbs most c.args.count c.args.from c.args.first l width root end next) (sym items)
          (subst (λ (n : ℕ). Climbs most c.args.count c.args.from c.args.first (levels ++ ats ∷ []) n root end next) own.count more);
    }
