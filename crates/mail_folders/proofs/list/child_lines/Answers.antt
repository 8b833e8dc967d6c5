use Rattle.std.proofs.Common.{◌∙◌, List, ap, filter, sym}
use Rattle.mail_tree.specs.declared.places.FolderPlace.{FolderPlace}
use Rattle.mail_tree.specs.Places.{is_child}
use Rattle.mail_draft.specs.Answers.{Says}
use Rattle.mail_folders.specs.Pieces.{each, line_of_folder}
use Rattle.mail_draft.proofs.DeskCalls.{as_at}
use Rattle.mail_folders.proofs.list.child_lines.Goals as goal

pub returns-clause-answer : goal.returns-clause-answer
returns-clause-answer g c = record {
  says = λ T s.
      let f = c.args.folder.bits in
      as_at _ (λ (ps : List FolderPlace). each (line_of_folder T) ps) _ (c.as_slice.ensures.value ∙ c.in_ok-child_places.ensures ∙ ap (filter (is_child f)) (sym (c.places.ensures T s))) (c.folder_lines.ensures.answer.says T s);
}
