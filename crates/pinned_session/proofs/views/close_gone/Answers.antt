use Rattle.std.proofs.Common.{rules, is_some}
use Rattle.std.proofs.lemmas.Fn.{filter_same}
use Rattle.mail_tree.specs.Places.{find_place}
use Rattle.pinned_session.specs.declared.views.OpenView.{OpenView}
use Rattle.pinned_session.proofs.views.close_gone.Goals as goal

pub returns : goal.returns
returns c = filter_same _ (λ (view : OpenView). is_some (find_place view.folder.bits c.args.places.now)) _ (λ x r f' k. search rules) _ _ c.retain.ensures.filtered
