use Rattle.std.proofs.Common.{◌≡◌, ◌<◌, ◌^◌, [], ℕ, List, length, Option, Some, arith}
use Rattle.std.proofs.lemmas.Result.{IfErr-weaker, IfOk-weaker}
use Rattle.mapi_values.specs.Keyed.{drop_key}
use Rattle.bth_tree.specs.Records.{whole}
use Rattle.bth_tree.specs.Tree.{leaf}
use Rattle.index_edit.specs.Adding.{AddsInner, NotFault, Reaches}
use Rattle.index_edit.specs.Rows.{key_of}
use Rattle.index_edit.proofs.EditSteps.{Changes, drop-below, drop-ordered, empty-below}
use Rattle.index_edit.proofs.TreeSteps.{reaches-long}
use Rattle.index_edit.proofs.leave.relay.Goals as goal

pub returns-then-y-lt-ROW-clause-adds : goal.returns-then-y-lt-ROW-clause-adds
returns-then-y-lt-ROW-clause-adds g c =
    let tells = g.H.HeapItems.tells in
    let inner = c.args.inner in
    let index = c.args.index in
    let y = c.args.y.now in
    let short : length y < 8 = omega (arith, c.if-y-lt-ROW.true) in
    IfOk-weaker c.add_changed.result (λ hid. (was : List (List ℕ)) → Changes (tells c.args.heap.now was) (tells c.add_changed.new.heap was) inner index [] hid)
    (λ hid. (was : List (List ℕ)) (get : ℕ → Option (List ℕ)) → tells c.args.heap.now was get → (key child : ℕ) (recs rs : List (ℕ × List ℕ)) → key < 2 ^ 32 → Reaches get 0 key inner recs index child → leaf get 4 4 child ≡ Some rs
    → whole 4 4 y ≡ Some (drop_key key_of key rs) → AddsInner (tells c.add_changed.new.heap was) get hid (drop_key key_of key recs))
    (λ hid add was get told key child recs rs fits r h w. empty-below (tells c.args.heap.now was) (tells c.add_changed.new.heap was) get key fits inner index child hid recs rs y told r h w short (add was)) c.add_changed.ensures.adds

pub returns-in-Ok-clause-adds : goal.returns-in-Ok-clause-adds
returns-in-Ok-clause-adds g c = λ was get told key child recs rs fits r h w.
    let tells = g.H.HeapItems.tells in
    let y = c.args.y.now in
    drop-below (tells c.add_leaf.new.heap was) (tells c.add_changed-2.new.heap was) get key fits c.args.inner c.args.index child c.in-Ok.hid recs rs c.in_ok-only.only c.row.result r h
    (c.in_ok-only.ensures.adds was get told (drop_key key_of key rs) (drop-ordered get child key rs y h w)) c.row.ensures.row (c.in-Ok.ensures.adds was)

pub returns-then-y-lt-ROW-clause-why : goal.returns-then-y-lt-ROW-clause-why
returns-then-y-lt-ROW-clause-why g c =
    let inner = c.args.inner in
    let index = c.args.index in
    IfErr-weaker c.add_changed.result _
    (λ stop. (was : List (List ℕ)) (get : ℕ → Option (List ℕ)) → g.H.HeapItems.tells c.args.heap.now was get → (key child : ℕ) (recs rs : List (ℕ × List ℕ)) → key < 2 ^ 32 → Reaches get 0 key inner recs index child
    → leaf get 4 4 child ≡ Some rs → whole 4 4 c.args.y.now ≡ Some (drop_key key_of key rs) → NotFault stop)
    (λ stop why was get told key child recs rs fits r h w. why was get told r.item r.found (reaches-long get 0 key inner recs index child r)) c.add_changed.ensures.why

pub returns-in-Err-clause-why : goal.returns-in-Err-clause-why
returns-in-Err-clause-why g c = λ was get told key child recs rs fits r h w.
    let inner = c.args.inner in
    let a = c.in_ok-only.ensures.adds was get told (drop_key key_of key rs) (drop-ordered get child key rs c.args.y.now h w) in
    c.in-Err.ensures.why was a.get a.told r.item (a.kept inner r.item r.found) (reaches-long get 0 key inner recs c.args.index child r)
