use Rattle.std.proofs.Common.{◌∙◌, List, ap, sym}
use Rattle.mapi_values.specs.Keyed.{put_key}
use Rattle.command_text.specs.declared.reply.LastLine.TheVariants.{Done}
use Rattle.mail_tree.specs.declared.places.FolderPlace.{FolderPlace}
use Rattle.mail_tree.specs.Changing.{◌>>=◌}
use Rattle.mail_tree.specs.Folders.{moved_between, moving, place, replied}
use Rattle.mail_tree.specs.Places.{place_id}
use Rattle.mail_folders.specs.Pieces.{placing_folder}
use Rattle.mail_draft.proofs.DeskCalls.{changes_come, changes_come_exit}
use Rattle.mail_folders.proofs.Calls.{comes_known}
use Rattle.mail_folders.proofs.moving.placing_folder.Goals as goal

pub returns-in_err-moved_between-clause-answer : goal.returns-in_err-moved_between-clause-answer
unfolding placing_folder
returns-in_err-moved_between-clause-answer g c =
    let f = c.args.folder.bits in let from = c.args.from.bits in let to = c.args.to.bits in
    let after = c.in_ok-after.ensures in
    comes_known c.places.ensures (λ T e D. ap (λ (ps : List FolderPlace). moved_between T f from to ps >>= moving T ps (replied Done)) (after ∙ ap (put_key place_id (place f to)) (sym e)))
    (changes_come_exit (λ T. moving T c.in_ok-after.after (replied Done)) c.in_err-moved_between.ensures.answer c.from_residual-in_err-moved_between.ensures.1)

pub returns-clause-answer : goal.returns-clause-answer
unfolding placing_folder
returns-clause-answer g c =
    let f = c.args.folder.bits in let from = c.args.from.bits in let to = c.args.to.bits in
    let after = c.in_ok-after.ensures in
    comes_known c.places.ensures (λ T e D. ap (λ (ps : List FolderPlace). moved_between T f from to ps >>= moving T ps (replied Done)) (after ∙ ap (put_key place_id (place f to)) (sym e)))
    (changes_come (λ T. moving T c.in_ok-after.after (replied Done)) c.in_ok-moved_between.ensures.answer c.in_ok-moved_between.ensures.drafts c.moving.ensures.answer)
