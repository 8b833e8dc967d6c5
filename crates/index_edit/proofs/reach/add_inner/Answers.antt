use Rattle.std.proofs.Common.{◌≡◌, ℕ, List, Option, Some}
use Rattle.std.proofs.lemmas.Result.{IfOk-weaker}
use Rattle.heap_items.specs.Items.{AddsItem}
use Rattle.bth_tree.specs.Records.{whole}
use Rattle.bth_tree.specs.Tree.{gather, tree}
use Rattle.index_edit.specs.Adding.{AddsInner}
use Rattle.index_edit.proofs.TreeSteps.{adds-inner}
use Rattle.index_edit.proofs.reach.add_inner.Goals as goal

pub returns-clause-adds : goal.returns-clause-adds
returns-clause-adds g c =
    let tells = g.H.HeapItems.tells in
    IfOk-weaker c.add.result (λ hid. (was : List (List ℕ)) (get : ℕ → Option (List ℕ)) → tells c.args.heap.now was get → AddsItem (tells c.add.new.heap was) get c.args.y.now hid)
    (λ hid. (was : List (List ℕ)) (get : ℕ → Option (List ℕ)) → tells c.args.heap.now was get → (ps recs : List (ℕ × List ℕ)) → whole 4 4 c.args.y.now ≡ Some ps → gather (tree get 4 4 0) ps ≡ Some recs → AddsInner (tells c.add.new.heap was) get hid recs)
    (λ hid is was get told ps recs h below. adds-inner (tells c.add.new.heap was) get c.args.y.now hid ps recs (is was get told) c.requires h below) c.add.ensures.adds
