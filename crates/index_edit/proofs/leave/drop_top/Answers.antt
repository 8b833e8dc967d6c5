use Rattle.std.proofs.Common.{ℕ, List, Option}
use Rattle.std.proofs.lemmas.Result.{IfErr-weaker, IfOk-weaker}
use Rattle.index_edit.specs.Adding.{DropsInto, HasTop, NotFault}
use Rattle.index_edit.proofs.TreeSteps.{root-is_leaf, root-is_tree, top-some}
use Rattle.index_edit.proofs.leave.drop_top.Goals as goal

pub returns-then-top-eq0-2-clause-drops : goal.returns-then-top-eq0-2-clause-drops
returns-then-top-eq0-2-clause-drops g c =
    let top = c.args.top in
    IfOk-weaker c.drop_root.result _
    (λ out. (was : List (List ℕ)) (get : ℕ → Option (List ℕ)) → g.H.HeapItems.tells c.args.heap.now was get → (recs : List (ℕ × List ℕ)) → HasTop get top.level top.root recs
    → DropsInto (g.H.HeapItems.tells c.drop_root.new.heap was) get c.args.key recs out)
    (λ out drops was get told recs h. drops was get told recs (root-is_leaf get top.level top.root recs c.if-top-eq0-2.true (top-some get top.level top.root recs h c.if-top-eq0.false))) c.drop_root.ensures.drops

pub returns-then-top-eq0-2-clause-why : goal.returns-then-top-eq0-2-clause-why
returns-then-top-eq0-2-clause-why g c =
    let top = c.args.top in
    IfErr-weaker c.drop_root.result _ (λ stop. (was : List (List ℕ)) (get : ℕ → Option (List ℕ)) → g.H.HeapItems.tells c.args.heap.now was get → (recs : List (ℕ × List ℕ)) → HasTop get top.level top.root recs → NotFault stop)
    (λ stop why was get told recs h. why was get told recs (root-is_leaf get top.level top.root recs c.if-top-eq0-2.true (top-some get top.level top.root recs h c.if-top-eq0.false))) c.drop_root.ensures.why

pub returns-then-top-eq1-clause-drops : goal.returns-then-top-eq1-clause-drops
returns-then-top-eq1-clause-drops g c =
    let top = c.args.top in
    IfOk-weaker c.drop_below.result _
    (λ out. (was : List (List ℕ)) (get : ℕ → Option (List ℕ)) → g.H.HeapItems.tells c.args.heap.now was get → (recs : List (ℕ × List ℕ)) → HasTop get top.level top.root recs
    → DropsInto (g.H.HeapItems.tells c.drop_below.new.heap was) get c.args.key recs out)
    (λ out drops was get told recs h. drops was get told recs (root-is_tree get top.level 0 top.root recs c.if-top-eq1.true (top-some get top.level top.root recs h c.if-top-eq0.false))) c.drop_below.ensures.drops

pub returns-then-top-eq1-clause-why : goal.returns-then-top-eq1-clause-why
returns-then-top-eq1-clause-why g c =
    let top = c.args.top in
    IfErr-weaker c.drop_below.result _ (λ stop. (was : List (List ℕ)) (get : ℕ → Option (List ℕ)) → g.H.HeapItems.tells c.args.heap.now was get → (recs : List (ℕ × List ℕ)) → HasTop get top.level top.root recs → NotFault stop)
    (λ stop why was get told recs h. why was get told recs (root-is_tree get top.level 0 top.root recs c.if-top-eq1.true (top-some get top.level top.root recs h c.if-top-eq0.false))) c.drop_below.ensures.why
