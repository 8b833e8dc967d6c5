use Rattle.std.proofs.Common.{Bool, List, ap, sym, ◌∙◌}
use Rattle.std.specs.List.{list_any}
use Rattle.mail_tree.specs.declared.places.FolderPlace.{FolderPlace}
use Rattle.mail_tree.specs.Places.{is_child}
use Rattle.mail_tree.specs.Settling.{counted, settled}
use Rattle.mail_draft.specs.Counting.{settled_with}
use Rattle.mail_draft.proofs.DeskCalls.{as_at}
use Rattle.mail_draft.proofs.on_desk.settle.settled.Goals as goal

pub returns-clause-answer : goal.returns-clause-answer
unfolding settled counted
returns-clause-answer g c = record {
  says = λ T s.
      let f = c.args.folder.bits in
      as_at _ (λ (has : Bool). settled_with T has f (g.D.Desk.view c.args.desk.now).changed) _
      (c.has_folders-has_folders.ensures ∙ ap (λ (places : List FolderPlace). list_any (is_child f) places) (sym (c.places.ensures T s)))
      (c.settled_with.ensures.answer.says T s);
}
