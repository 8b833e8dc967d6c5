use Rattle.std.proofs.Common.{◌≡◌, ◌≢◌, ℕ, List, Option, Some, subst}
use Rattle.std.proofs.lemmas.Result.{IfOk-weaker}
use Rattle.heap_items.specs.Items.{AddsItem}
use Rattle.bth_tree.specs.Tree.{root}
use Rattle.index_edit.specs.Adding.{HasIndex}
use Rattle.index_edit.proofs.TreeSteps.{adds-header}
use Rattle.index_edit.proofs.reach.add_header.Goals as goal

pub returns-clause-adds : goal.returns-clause-adds
returns-clause-adds g c =
    let tells = g.H.HeapItems.tells in
    let level = c.args.level in
    let hid = c.args.root in
    IfOk-weaker c.add.result (λ at. (was : List (List ℕ)) (get : ℕ → Option (List ℕ)) → tells c.args.heap.now was get → AddsItem (tells c.add.new.heap was) get c.header_bytes.result at)
    (λ at. (was : List (List ℕ)) (get : ℕ → Option (List ℕ)) → tells c.args.heap.now was get → (recs : List (ℕ × List ℕ)) → hid ≢ 0 → root get 4 4 level hid ≡ Some recs → HasIndex (tells c.add.new.heap was) get at recs)
    (λ at is was get told recs some h. adds-header (tells c.add.new.heap was) get level hid at recs (subst (λ (x : List ℕ). AddsItem (tells c.add.new.heap was) get x at) c.header_bytes.ensures.value (is was get told)) c.ranges.root.fits some h)
    c.add.ensures.adds
