use Rattle.std.proofs.Common.{◌∙◌, List, ap, sym}
use Rattle.mapi_values.specs.Keyed.{drop_key}
use Rattle.command_text.specs.declared.reply.LastLine.TheVariants.{Done}
use Rattle.mail_tree.specs.declared.places.FolderPlace.{FolderPlace}
use Rattle.mail_tree.specs.Changing.{◌>>=◌, drop_shown, hierarchy, nothing}
use Rattle.mail_tree.specs.Places.{place_id}
use Rattle.mail_tree.specs.Settling.{settled}
use Rattle.mail_tree.specs.Folders.{moving, replied, without_folder}
use Rattle.mail_folders.specs.Pieces.{removing_folder}
use Rattle.mail_draft.proofs.DeskCalls.{changes_at, changes_come, changes_come_exit, comes_from}
use Rattle.mail_folders.proofs.Calls.{comes_known, comes_ungrouped}
use Rattle.mail_folders.proofs.removing.removing_folder.Goals as goal

pub returns-in_err-drop_folder-clause-answer : goal.returns-in_err-drop_folder-clause-answer
unfolding removing_folder
returns-in_err-drop_folder-clause-answer g c =
    let f = c.args.folder.bits in let parent = c.args.parent.bits in let after = c.in_ok-after.after in
    comes_known c.places.ensures (λ T e D. ap (λ (ps : List FolderPlace). drop_shown T (hierarchy parent) f (without_folder T f nothing) >>= settled T ps parent >>= moving T ps (replied Done)) (c.in_ok-after.ensures ∙ ap (drop_key place_id f) (sym e)))
    (comes_from (λ T D. drop_shown T (hierarchy parent) f (without_folder T f D) >>= settled T after parent >>= moving T after (replied Done)) c.requires.fresh
    (comes_ungrouped (λ T D. drop_shown T (hierarchy parent) f (without_folder T f D)) (λ T D. settled T after parent) (λ T D. moving T after (replied Done))
    (changes_come_exit (λ T D. drop_shown T (hierarchy parent) f D >>= λ E. settled T after parent E >>= moving T after (replied Done)) c.in_err-drop_folder.ensures.answer c.from_residual-in_err-drop_folder.ensures.1)))

pub returns-in_err-drop_shown-clause-answer : goal.returns-in_err-drop_shown-clause-answer
unfolding removing_folder
returns-in_err-drop_shown-clause-answer g c =
    let f = c.args.folder.bits in let parent = c.args.parent.bits in let after = c.in_ok-after.after in
    comes_known c.places.ensures (λ T e D. ap (λ (ps : List FolderPlace). drop_shown T (hierarchy parent) f (without_folder T f nothing) >>= settled T ps parent >>= moving T ps (replied Done)) (c.in_ok-after.ensures ∙ ap (drop_key place_id f) (sym e)))
    (comes_from (λ T D. drop_shown T (hierarchy parent) f (without_folder T f D) >>= settled T after parent >>= moving T after (replied Done)) c.requires.fresh
    (comes_ungrouped (λ T D. drop_shown T (hierarchy parent) f (without_folder T f D)) (λ T D. settled T after parent) (λ T D. moving T after (replied Done))
    (changes_come (λ T D. drop_shown T (hierarchy parent) f D >>= λ E. settled T after parent E >>= moving T after (replied Done)) c.in_ok-drop_folder.ensures.answer c.in_ok-drop_folder.ensures.drafts
    (changes_come_exit (λ T D. settled T after parent D >>= moving T after (replied Done)) (changes_at (λ q T. drop_shown T q f) c.hierarchy.ensures c.in_err-drop_shown.ensures.answer) c.from_residual-in_err-drop_shown.ensures.1))))

pub returns-in_err-settle-clause-answer : goal.returns-in_err-settle-clause-answer
unfolding removing_folder
returns-in_err-settle-clause-answer g c =
    let f = c.args.folder.bits in let parent = c.args.parent.bits in let after = c.in_ok-after.after in
    comes_known c.places.ensures (λ T e D. ap (λ (ps : List FolderPlace). drop_shown T (hierarchy parent) f (without_folder T f nothing) >>= settled T ps parent >>= moving T ps (replied Done)) (c.in_ok-after.ensures ∙ ap (drop_key place_id f) (sym e)))
    (comes_from (λ T D. drop_shown T (hierarchy parent) f (without_folder T f D) >>= settled T after parent >>= moving T after (replied Done)) c.requires.fresh
    (comes_ungrouped (λ T D. drop_shown T (hierarchy parent) f (without_folder T f D)) (λ T D. settled T after parent) (λ T D. moving T after (replied Done))
    (changes_come (λ T D. drop_shown T (hierarchy parent) f D >>= λ E. settled T after parent E >>= moving T after (replied Done)) c.in_ok-drop_folder.ensures.answer c.in_ok-drop_folder.ensures.drafts
    (changes_come (λ T D. settled T after parent D >>= moving T after (replied Done)) (changes_at (λ q T. drop_shown T q f) c.hierarchy.ensures c.in_ok-drop_shown.ensures.answer) c.in_ok-drop_shown.ensures.drafts
    (changes_come_exit (λ T. moving T after (replied Done)) c.in_err-settle.ensures.answer c.from_residual-in_err-settle.ensures.1)))))

pub returns-clause-answer : goal.returns-clause-answer
unfolding removing_folder
returns-clause-answer g c =
    let f = c.args.folder.bits in let parent = c.args.parent.bits in let after = c.in_ok-after.after in
    comes_known c.places.ensures (λ T e D. ap (λ (ps : List FolderPlace). drop_shown T (hierarchy parent) f (without_folder T f nothing) >>= settled T ps parent >>= moving T ps (replied Done)) (c.in_ok-after.ensures ∙ ap (drop_key place_id f) (sym e)))
    (comes_from (λ T D. drop_shown T (hierarchy parent) f (without_folder T f D) >>= settled T after parent >>= moving T after (replied Done)) c.requires.fresh
    (comes_ungrouped (λ T D. drop_shown T (hierarchy parent) f (without_folder T f D)) (λ T D. settled T after parent) (λ T D. moving T after (replied Done))
    (changes_come (λ T D. drop_shown T (hierarchy parent) f D >>= λ E. settled T after parent E >>= moving T after (replied Done)) c.in_ok-drop_folder.ensures.answer c.in_ok-drop_folder.ensures.drafts
    (changes_come (λ T D. settled T after parent D >>= moving T after (replied Done)) (changes_at (λ q T. drop_shown T q f) c.hierarchy.ensures c.in_ok-drop_shown.ensures.answer) c.in_ok-drop_shown.ensures.drafts
    (changes_come (λ T. moving T after (replied Done)) c.in_ok-settle.ensures.answer c.in_ok-settle.ensures.drafts c.moving.ensures.answer)))))
