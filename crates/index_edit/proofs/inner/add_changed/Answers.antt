use Rattle.std.proofs.Common.{ap, ◌∙◌}
use Rattle.std.proofs.lemmas.Result.{err_from_is_err_and}
use Rattle.bth_tree.specs.Records.{whole}
use Rattle.index_edit.proofs.inner.add_changed.Goals as goal

pub returns-in_err-y-clause-why : goal.returns-in_err-y-clause-why
returns-in_err-y-clause-why g c =
    let p = err_from_is_err_and c.from_residual.result c.from_residual.ensures.1 in
    rw (p.1, p.2) c.in_err-y.ensures.why

pub returns-in-Ok-clause-adds : goal.returns-in-Ok-clause-adds
returns-in-Ok-clause-adds g c = λ was get told x here ps recs h below.
    c.in-Ok.ensures.adds was get told ps recs (ap (whole 4 4) (c.as_slice.ensures.value ∙ c.in_ok-y.ensures.changed was get told x here) ∙ h) below
