use Rattle.std.proofs.Common.{◌∙◌, ℕ, List, ap, sym}
use Rattle.mapi_values.specs.Keyed.{put_key}
use Rattle.mail_tree.specs.declared.places.FolderPlace.{FolderPlace}
use Rattle.mail_tree.specs.Changing.{◌>>=◌}
use Rattle.mail_tree.specs.Places.{place_id}
use Rattle.mail_tree.specs.Folders.{making, making_folder, place}
use Rattle.mail_folders.specs.Pieces.{counted_folder}
use Rattle.mail_draft.proofs.DeskCalls.{changes_come, changes_come_exit}
use Rattle.mail_folders.proofs.Calls.{comes_known}
use Rattle.mail_folders.proofs.making.making_folder.Goals as goal

pub returns-in_err-counted-clause-answer : goal.returns-in_err-counted-clause-answer
unfolding making_folder counted_folder
returns-in_err-counted-clause-answer g c =
    let made = c.new_id-folder.result.bits in let parent = c.args.parent.bits in let name = c.args.name.now in let after = c.in_ok-after.after in
    comes_known c.places.ensures (λ T e D.
    ap (λ (ps : List FolderPlace). counted_folder T made parent name ps >>= making T ps 2 c.args.index) (c.in_ok-after.ensures ∙ ap (put_key place_id (place made parent)) (sym e))
    ∙ ap (λ (f : ℕ). counted_folder T f parent name (put_key place_id (place f parent) T.places) >>= making T (put_key place_id (place f parent) T.places) 2 c.args.index) c.new_id-folder.ensures)
    (changes_come_exit (λ T. making T after 2 c.args.index) c.in_err-counted.ensures.answer c.from_residual-in_err-counted.ensures.1)

pub returns-clause-answer : goal.returns-clause-answer
unfolding making_folder counted_folder
returns-clause-answer g c =
    let made = c.new_id-folder.result.bits in let parent = c.args.parent.bits in let name = c.args.name.now in let after = c.in_ok-after.after in
    comes_known c.places.ensures (λ T e D.
    ap (λ (ps : List FolderPlace). counted_folder T made parent name ps >>= making T ps 2 c.args.index) (c.in_ok-after.ensures ∙ ap (put_key place_id (place made parent)) (sym e))
    ∙ ap (λ (f : ℕ). counted_folder T f parent name (put_key place_id (place f parent) T.places) >>= making T (put_key place_id (place f parent) T.places) 2 c.args.index) c.new_id-folder.ensures)
    (changes_come (λ T. making T after 2 c.args.index) c.in_ok-counted.ensures.answer c.in_ok-counted.ensures.drafts c.make.ensures.answer)
