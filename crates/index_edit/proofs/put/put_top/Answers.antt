use Rattle.std.proofs.Common.{ℕ, List, Option}
use Rattle.std.proofs.lemmas.Result.{IfErr-weaker, IfOk-weaker}
use Rattle.byteorder.specs.Endian.{little_bytes}
use Rattle.mapi_values.specs.Keyed.{put_key}
use Rattle.index_edit.specs.Adding.{HasIndex, HasTop, NotFault}
use Rattle.index_edit.specs.Rows.{key_of}
use Rattle.index_edit.proofs.TreeSteps.{root-is_leaf, root-is_tree, top-some}
use Rattle.index_edit.proofs.put.put_top.Goals as goal

pub returns-then-top-eq0-2-clause-adds : goal.returns-then-top-eq0-2-clause-adds
returns-then-top-eq0-2-clause-adds g c =
    let top = c.args.top in
    IfOk-weaker c.put_root.result _
    (λ header. (was : List (List ℕ)) (get : ℕ → Option (List ℕ)) → g.H.HeapItems.tells c.args.heap.now was get → (recs : List (ℕ × List ℕ)) → HasTop get top.level top.root recs
    → HasIndex (g.H.HeapItems.tells c.put_root.new.heap was) get header (put_key key_of (c.args.key, little_bytes 4 c.args.entry) recs))
    (λ header put was get told recs h. put was get told recs (root-is_leaf get top.level top.root recs c.if-top-eq0-2.true (top-some get top.level top.root recs h c.if-top-eq0.false))) c.put_root.ensures.adds

pub returns-then-top-eq0-2-clause-why : goal.returns-then-top-eq0-2-clause-why
returns-then-top-eq0-2-clause-why g c =
    let top = c.args.top in
    IfErr-weaker c.put_root.result _ (λ stop. (was : List (List ℕ)) (get : ℕ → Option (List ℕ)) → g.H.HeapItems.tells c.args.heap.now was get → (recs : List (ℕ × List ℕ)) → HasTop get top.level top.root recs → NotFault stop)
    (λ stop why was get told recs h. why was get told recs (root-is_leaf get top.level top.root recs c.if-top-eq0-2.true (top-some get top.level top.root recs h c.if-top-eq0.false))) c.put_root.ensures.why

pub returns-then-top-eq1-clause-adds : goal.returns-then-top-eq1-clause-adds
returns-then-top-eq1-clause-adds g c =
    let top = c.args.top in
    IfOk-weaker c.put_two.result _
    (λ header. (was : List (List ℕ)) (get : ℕ → Option (List ℕ)) → g.H.HeapItems.tells c.args.heap.now was get → (recs : List (ℕ × List ℕ)) → HasTop get top.level top.root recs
    → HasIndex (g.H.HeapItems.tells c.put_two.new.heap was) get header (put_key key_of (c.args.key, little_bytes 4 c.args.entry) recs))
    (λ header put was get told recs h. put was get told recs (root-is_tree get top.level 0 top.root recs c.if-top-eq1.true (top-some get top.level top.root recs h c.if-top-eq0.false))) c.put_two.ensures.adds

pub returns-then-top-eq1-clause-why : goal.returns-then-top-eq1-clause-why
returns-then-top-eq1-clause-why g c =
    let top = c.args.top in
    IfErr-weaker c.put_two.result _ (λ stop. (was : List (List ℕ)) (get : ℕ → Option (List ℕ)) → g.H.HeapItems.tells c.args.heap.now was get → (recs : List (ℕ × List ℕ)) → HasTop get top.level top.root recs → NotFault stop)
    (λ stop why was get told recs h. why was get told recs (root-is_tree get top.level 0 top.root recs c.if-top-eq1.true (top-some get top.level top.root recs h c.if-top-eq0.false))) c.put_two.ensures.why
