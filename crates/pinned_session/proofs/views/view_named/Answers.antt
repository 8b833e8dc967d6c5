use Rattle.std.proofs.Common.{◌∙◌, ◌==◌, rules, tests}
use Rattle.std.proofs.lemmas.Iterator.{YieldsList-from_slice}
use Rattle.std.proofs.lemmas.Iterator.Search.{find_from_yields_List}
use Rattle.pinned_session.specs.declared.views.OpenView.{OpenView}
use Rattle.pinned_session.proofs.views.view_named.Goals as goal

pub returns : goal.returns
returns c = c.copied.ensures ∙ find_from_yields_List (λ (view : OpenView). view.number == c.args.number) _ _ c.find.result c.find.ensures.ran (YieldsList-from_slice c.args.views.now cc) (λ x b q k. search (rules, tests))
