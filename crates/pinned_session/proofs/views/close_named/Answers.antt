use Rattle.std.proofs.Common.{rules, ◌==◌, not}
use Rattle.std.proofs.lemmas.Fn.{filter_same}
use Rattle.pinned_session.specs.declared.views.OpenView.{OpenView}
use Rattle.pinned_session.proofs.views.close_named.Goals as goal

pub returns : goal.returns
returns c = filter_same _ (λ (view : OpenView). not (view.number == c.args.number)) _ (λ x r f' k. search rules) _ _ c.retain.ensures.filtered
