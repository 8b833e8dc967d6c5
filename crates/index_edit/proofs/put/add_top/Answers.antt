use Rattle.std.proofs.Common.{◌≡◌, ◌<◌, ◌∙◌, ℕ, List, length, Option, Some, sym, ap, subst}
use Rattle.std.proofs.lemmas.Result.{IfOk-weaker}
use Rattle.bth_tree.specs.Records.{whole}
use Rattle.bth_tree.specs.Tree.{gather, tree}
use Rattle.index_edit.specs.Adding.{HasIndex}
use Rattle.index_edit.specs.Pairs.{MayBeRoot, pairs_of}
use Rattle.index_edit.specs.declared.pairs.Pairs.{Pairs}
use Rattle.index_edit.proofs.PutSteps.{Heads, head-one, two-levels}
use Rattle.index_edit.proofs.put.add_top.Goals as goal

pub returns-in-Single-clause-adds : goal.returns-in-Single-clause-adds
returns-in-Single-clause-adds g c =
    let tells = g.H.HeapItems.tells in
    IfOk-weaker c.add_header.result (λ at. (was : List (List ℕ)) → Heads (tells c.args.heap.now was) (tells c.add_header.new.heap was) 0 c.in-Single.only.child at)
    (λ at. (was : List (List ℕ)) (get : ℕ → Option (List ℕ)) → tells c.args.heap.now was get → (recs : List (ℕ × List ℕ)) → gather (tree get 4 4 0) (pairs_of c.args.pairs) ≡ Some recs → 0 < length recs → MayBeRoot c.args.pairs
    → HasIndex (tells c.add_header.new.heap was) get at recs)
    (λ at heads was get told recs below some top. head-one (tells c.args.heap.now was) (tells c.add_header.new.heap was) get c.in-Single.only at recs told
    (ap (λ (ps : Pairs). gather (tree get 4 4 0) (pairs_of ps)) (sym c.in-Single.is) ∙ below) (subst MayBeRoot c.in-Single.is top) (heads was)) c.add_header.ensures.adds

pub returns-clause-adds : goal.returns-clause-adds
returns-clause-adds g c =
    let tells = g.H.HeapItems.tells in
    IfOk-weaker c.add_header-2.result (λ at. (was : List (List ℕ)) → Heads (tells c.add_inner.new.heap was) (tells c.add_header-2.new.heap was) 1 c.in_ok-root.root at)
    (λ at. (was : List (List ℕ)) (get : ℕ → Option (List ℕ)) → tells c.args.heap.now was get → (recs : List (ℕ × List ℕ)) → gather (tree get 4 4 0) (pairs_of c.args.pairs) ≡ Some recs → 0 < length recs → MayBeRoot c.args.pairs
    → HasIndex (tells c.add_header-2.new.heap was) get at recs)
    (λ at heads was get told recs below some top. two-levels (tells c.add_inner.new.heap was) (tells c.add_header-2.new.heap was) get c.in_ok-root.root at recs
    (c.in_ok-root.ensures.adds was get told (pairs_of c.args.pairs) recs (ap (whole 4 4) c.as_slice.ensures.value ∙ c.in_ok-inner.ensures.pairs) below) (heads was)) c.add_header-2.ensures.adds
