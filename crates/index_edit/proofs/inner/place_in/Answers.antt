use Rattle.std.proofs.lemmas.Result.{err_from_is_err_and}
use Rattle.index_edit.proofs.TreeSteps.{inner-item, not-empty, reaches}
use Rattle.index_edit.proofs.inner.place_in.Goals as goal

pub returns-in_err-x-clause-why : goal.returns-in_err-x-clause-why
returns-in_err-x-clause-why g c =
    let p = err_from_is_err_and c.from_residual.result c.from_residual.ensures.1 in
    rw (p.1, p.2) (λ was get told n recs h. let i = inner-item get n c.args.inner recs h in c.in_err-x.ensures.why was get told i.0 i.2)

pub returns-in-Some-clause-found : goal.returns-in-Some-clause-found
returns-in-Some-clause-found g c = λ was get told n recs h.
    reaches get n c.args.key c.args.inner recs c.in-Some.place.index c.in-Some.place.child c.in_ok-x.x.now h (c.in_ok-x.ensures.found was get told) c.in-Some.ensures.place

pub returns-in-None-clause-why : goal.returns-in-None-clause-why
returns-in-None-clause-why g c = λ was get told n recs h.
    not-empty get n c.args.inner recs c.in_ok-x.x.now h (c.in_ok-x.ensures.found was get told) c.in-None.ensures.place
