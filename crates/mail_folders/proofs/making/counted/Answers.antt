use Rattle.mail_tree.specs.Changing.{◌>>=◌}
use Rattle.mail_tree.specs.Settling.{settled}
use Rattle.mail_folders.specs.Pieces.{adding_folder, counted_folder}
use Rattle.mail_draft.proofs.DeskCalls.{both_change, changes_from, first_exits}
use Rattle.mail_folders.proofs.making.counted.Goals as goal

pub returns-in_err-add_folder-clause-answer : goal.returns-in_err-add_folder-clause-answer
unfolding counted_folder
returns-in_err-add_folder-clause-answer g c =
    let f = c.args.folder.bits in let parent = c.args.parent.bits in let name = c.args.name.now in let places = c.args.places.now in
    changes_from (λ T D. adding_folder T f parent name D >>= settled T places parent) c.requires.fresh
    (first_exits (λ T. settled T places parent) c.in_err-add_folder.ensures.answer c.from_residual.ensures.1)

pub returns-clause-answer : goal.returns-clause-answer
unfolding counted_folder
returns-clause-answer g c =
    let f = c.args.folder.bits in let parent = c.args.parent.bits in let name = c.args.name.now in let places = c.args.places.now in
    changes_from (λ T D. adding_folder T f parent name D >>= settled T places parent) c.requires.fresh
    (both_change (λ T. settled T places parent) c.in_ok-add_folder.ensures.answer c.in_ok-add_folder.ensures.drafts c.settle.ensures.answer)
