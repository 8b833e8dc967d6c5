use Rattle.std.proofs.Common.{◌≡◌, ℕ, ◌+◌, List, ◌++◌, drop, get_or, sym, ap, subst, ◌∙◌, arith}
use Rattle.std.proofs.lemmas.Result.{err_from_is_err_and}
use Rattle.data_tree.specs.Keys.{below_keys, under_keys}
use Rattle.pst_base.specs.declared.ids.Bid.{Bid}
use Rattle.data_tree.proofs.KeySteps.{under-next, under-stop}
use Rattle.data_tree.proofs.Steps.{Along, along-next, along-stop}
use Rattle.data_tree.proofs.keys.under_keys.Goals as goal

pub returns-in_err-here-clause-reads : goal.returns-in_err-here-clause-reads
returns-in_err-here-clause-reads g c =
    let zero_bid : Bid = record { bits = 0 } in
    let bids = c.args.bids.now in
    let i = c.loop-bid.bid-index in
    let test = c.loop-bid-test.true in
    let p = err_from_is_err_and c.from_residual.result c.from_residual.ensures.1 in
    rw (p.1, p.2) (along-stop (g.S.BlockSource.view c.args.s.now) (g.S.BlockSource.view c.loop-bid.s) (g.S.BlockSource.view c.below_keys.new.s) c.loop-bid.keys.items
    (λ find. below_keys find c.args.parent (get_or bids i zero_bid)) (λ find. under_keys find c.args.parent (drop i bids)) (λ find. under_keys find c.args.parent bids)
    c.loop-bid.invariant (λ find h fault e. under-stop find c.args.parent bids i zero_bid fault (omega (arith, test)) e) c.in_err-here.field-0.0 c.in_err-here.ensures.reads)

pub loop-bid-preserved : goal.loop-bid-preserved
loop-bid-preserved g c =
    let zero_bid : Bid = record { bits = 0 } in
    let bids = c.args.bids.now in
    let i = c.loop-bid.bid-index in
    let test = c.loop-bid-test.true in
    let out = c.loop-bid.keys.items in
    let here = c.in_ok-here.here.items in
    let old = g.S.BlockSource.view c.args.s.now in
    let new = g.S.BlockSource.view c.below_keys.new.s in
    let step = along-next old (g.S.BlockSource.view c.loop-bid.s) new out here (λ find. under_keys find c.args.parent (drop i bids)) (λ find. under_keys find c.args.parent (drop (i + 1) bids))
    (λ find. under_keys find c.args.parent bids) c.loop-bid.invariant c.below_keys.ensures.later
    (λ find h. under-next find c.args.parent bids here i zero_bid test (c.in_ok-here.ensures.reads find h)) in
    let made : c.extend_from_slice.new.self.items ≡ out ++ here = c.in_ok-extend_from_slice.ensures.items ∙ ap (λ (l : List ℕ). out ++ l) c.as_slice.ensures.value in
    let P : List ℕ → Type 0 = λ l. Along old new l (λ find. under_keys find c.args.parent (drop (i + 1) bids)) (λ find. under_keys find c.args.parent bids) in
    subst P (sym made) step
