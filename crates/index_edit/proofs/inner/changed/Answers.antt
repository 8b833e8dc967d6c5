use Rattle.std.proofs.Common.{◌+◌, ◌*◌, ◌++◌, ◌∙◌, ℕ, List, take, drop, sym, ap}
use Rattle.std.proofs.lemmas.Result.{err_from_is_err_and}
use Rattle.bth_tree.proofs.OptionLaws.{some-injective}
use Rattle.index_edit.proofs.inner.changed.Goals as goal

pub returns-in_err-x-clause-why : goal.returns-in_err-x-clause-why
returns-in_err-x-clause-why g c =
    let p = err_from_is_err_and c.from_residual.result c.from_residual.ensures.1 in
    rw (p.1, p.2) (λ was get told x here long. c.in_err-x.ensures.why was get told x here)

pub returns-clause-changed : goal.returns-clause-changed
returns-clause-changed g c = λ was get told x here.
    c.in_ok-y.ensures
    ∙ ap (λ (z : List ℕ). take (8 * c.args.index) z ++ (c.args.pairs.now ++ drop (8 * (c.args.index + 1)) z)) (some-injective c.in_ok-x.x.now x (sym (c.in_ok-x.ensures.found was get told) ∙ here))
