use Rattle.std.proofs.lemmas.Result.{err_from_is_err_and}
use Rattle.index_edit.proofs.TreeSteps.{leaf-item, leaf-ordered}
use Rattle.index_edit.proofs.put.leaves_of.Goals as goal

pub returns-in_err-x-clause-why : goal.returns-in_err-x-clause-why
returns-in_err-x-clause-why g c =
    let p = err_from_is_err_and c.from_residual.result c.from_residual.ensures.1 in
    rw (p.1, p.2) (λ was get told rs h. let i = leaf-item get c.args.leaf rs h in c.in_err-x.ensures.why was get told i.0 i.1)

pub returns-in-Ok-clause-hold : goal.returns-in-Ok-clause-hold
returns-in-Ok-clause-hold g c = λ was get told rs h.
    c.in-Ok.ensures.hold rs (leaf-ordered get c.args.leaf c.in_ok-x.x.now rs (c.in_ok-x.ensures.found was get told) h)
