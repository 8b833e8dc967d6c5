use Rattle.std.proofs.Common.{drop, get_or, arith}
use Rattle.std.proofs.lemmas.Result.{err_from_is_err_and}
use Rattle.data_tree.specs.Tree.{below, all_below}
use Rattle.pst_base.specs.declared.ids.Bid.{Bid}
use Rattle.data_tree.proofs.BlockSteps.{below-stop}
use Rattle.data_tree.proofs.Steps.{along-stop}
use Rattle.data_tree.proofs.tree.all_below.Goals as goal

pub returns-in_err-here-clause-reads : goal.returns-in_err-here-clause-reads
returns-in_err-here-clause-reads g c =
    let zero_bid : Bid = record { bits = 0 } in
    let bids = c.args.bids.now in
    let i = c.loop-bid.bid-index in
    let test = c.loop-bid-test.true in
    let p = err_from_is_err_and c.from_residual.result c.from_residual.ensures.1 in
    rw (p.1, p.2) (along-stop (g.S.BlockSource.view c.args.s.now) (g.S.BlockSource.view c.loop-bid.s) (g.S.BlockSource.view c.below.new.s) c.loop-bid.found.items
    (λ find. below find c.args.parent (get_or bids i zero_bid)) (λ find. all_below find c.args.parent (drop i bids)) (λ find. all_below find c.args.parent bids)
    c.loop-bid.invariant (λ find h fault e. below-stop find c.args.parent bids i zero_bid fault (omega (arith, test)) e) c.in_err-here.field-0.0 c.in_err-here.ensures.reads)
