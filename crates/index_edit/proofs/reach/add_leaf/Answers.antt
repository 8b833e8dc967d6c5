use Rattle.std.proofs.lemmas.Result.{err_from_is_err_and}
use Rattle.index_edit.proofs.TreeSteps.{adds-leaf}
use Rattle.index_edit.proofs.reach.add_leaf.Goals as goal

pub returns-in_err-child-clause-why : goal.returns-in_err-child-clause-why
returns-in_err-child-clause-why g c =
    let p = err_from_is_err_and c.from_residual.result c.from_residual.ensures.1 in
    rw (p.1, p.2) c.in_err-child.ensures.why

pub returns-clause-adds : goal.returns-clause-adds
returns-clause-adds g c = λ was get told rs o.
    adds-leaf (g.H.HeapItems.tells c.add.new.heap was) get c.args.y.now (record { key = c.u32_at.result; child = c.in_ok-child.child }) rs (c.in_ok-child.ensures.adds was get told) o c.requires.0 c.u32_at.ensures c.in_ok-child.ensures.fits
