use Rattle.std.proofs.Common.{◌≡◌, ◌∙◌, ◌++◌, List, take, get_or, map, sym, ap, arith, append_assoc}
use Rattle.pst_base.specs.declared.places.Place.{Place}
use Rattle.data_tree.proofs.PieceLaws.{joined}
use Rattle.file_layout.specs.Trees.{page_place}
use Rattle.compactor.proofs.PlacedLaws.{joined-more}
use Rattle.compactor.proofs.placing.push_levels.Goals as goal

pub loop-level-preserved : goal.loop-level-preserved
loop-level-preserved c =
    let test = c.loop-level-test.true in
    let i = c.loop-level.level-index in
    let levels = c.args.levels.now in
    let x = c.level-item.result in
    let old = c.args.places.now.items in
    let here : c.as_slice.result.now ≡ get_or levels i x = c.as_slice.ensures.value ∙ c.level-item.is in
    c.in_ok-push_pages.ensures ∙ (λ k. c.loop-level.invariant k ++ map page_place (here k)) ∙ append_assoc old (map page_place (joined (take i levels))) (map page_place (get_or levels i x))
    ∙ ap (λ (ps : List Place). old ++ ps) (sym (joined-more levels i x (omega (arith, test))))
