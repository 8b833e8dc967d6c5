use Rattle.std.proofs.Common.{arith}
use Rattle.std.proofs.lemmas.Result.{err_from_is_err_and}
use Rattle.index_edit.proofs.TreeSteps.{header-item, top-is, top-of}
use Rattle.index_edit.proofs.reach.top_of.Goals as goal

pub returns-in_err-x-clause-why : goal.returns-in_err-x-clause-why
returns-in_err-x-clause-why g c =
    let p = err_from_is_err_and c.from_residual.result c.from_residual.ensures.1 in
    rw (p.1, p.2) (λ was get told recs h. let i = header-item get c.args.header recs h in c.in_err-x.ensures.why was get told i.0 i.1)

pub returns-then-x-lt8-clause-why : goal.returns-then-x-lt8-clause-why
returns-then-x-lt8-clause-why g c = λ was get told recs h.
    let t = top-is get c.args.header c.in_ok-x.x.now recs (c.in_ok-x.ensures.found was get told) h in
    let short = c.if-x-lt8.true in
    omega (arith, t.0, short)

pub returns-clause-found : goal.returns-clause-found
returns-clause-found g c = λ was get told recs h.
    top-of get c.in_ok-x.x.now c.u8_at.result c.u32_at.result recs (top-is get c.args.header c.in_ok-x.x.now recs (c.in_ok-x.ensures.found was get told) h).1 c.u8_at.ensures c.u32_at.ensures
