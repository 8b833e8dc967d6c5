use Rattle.std.proofs.Common.{◌≡◌, ◌∙◌, Ok, Some, ap}
use Rattle.command_text.specs.declared.reply.LastLine.TheVariants.{Done}
use Rattle.mapi_values.specs.Messages.{Mes}
use Rattle.mail_objects.specs.declared.object.Object.TheVariants.{Message}
use Rattle.mail_tree.specs.Changing.{◌>>=◌, add_shown, contents, drop_shown, with_object}
use Rattle.mail_tree.specs.Folders.{changing, replied}
use Rattle.mail_tree.specs.Messages.{in_folder}
use Rattle.mail_tree.specs.Settling.{settled}
use Rattle.mail_messages.specs.Parts.{arriving}
use Rattle.mail_messages.specs.Pieces.{moving_message}
use Rattle.mail_draft.proofs.DeskCalls.{changes_at, changes_come, changes_come_exit, comes_at3, comes_from}
use Rattle.mail_messages.proofs.Calls.{changes_at2, comes_ungrouped3}
use Rattle.mail_messages.proofs.moving.move_between.Goals as goal

pub returns-in_err-props-clause-answer : goal.returns-in_err-props-clause-answer
unfolding moving_message
returns-in_err-props-clause-answer g c =
    let M = c.args.mail in let to = c.args.folder.bits in
    let id = ap (λ (m : Mes). m.nid) (c.behind-mail-2.view_is ∙ c.message-2.ensures.message) in
    let placed : c.copy_of-moved.result ≡ in_folder to M = c.copy_of-moved.ensures ∙ ap (λ i. in_folder to (record M { nid = i })) id in
    comes_from (λ T D. drop_shown T (contents M.folder) M.nid (with_object M.nid (Some (Message (in_folder to M))) D) >>= λ E.
    add_shown T (contents to) M.nid M.props E >>= settled T T.places M.folder >>= settled T T.places to >>= changing T (replied Done)) c.requires.fresh
    (changes_come_exit (λ T D. drop_shown T (contents M.folder) M.nid D >>= λ E. add_shown T (contents to) M.nid M.props E >>= settled T T.places M.folder >>= settled T T.places to >>= changing T (replied Done)) (changes_at (λ (m : Mes) T D. Ok (with_object m.nid (Some (Message m)) D)) placed c.in_err-props.ensures.put) c.from_residual.ensures.1)

pub returns-in_err-drop_shown-clause-answer : goal.returns-in_err-drop_shown-clause-answer
unfolding moving_message
returns-in_err-drop_shown-clause-answer g c =
    let M = c.args.mail in let to = c.args.folder.bits in
    let from = ap (λ (m : Mes). m.folder) (c.behind-mail.view_is ∙ c.message.ensures.message) in
    let id = ap (λ (m : Mes). m.nid) (c.behind-mail-2.view_is ∙ c.message-2.ensures.message) in
    let placed : c.copy_of-moved.result ≡ in_folder to M = c.copy_of-moved.ensures ∙ ap (λ i. in_folder to (record M { nid = i })) id in
    comes_from (λ T D. drop_shown T (contents M.folder) M.nid (with_object M.nid (Some (Message (in_folder to M))) D) >>= λ E.
    add_shown T (contents to) M.nid M.props E >>= settled T T.places M.folder >>= settled T T.places to >>= changing T (replied Done)) c.requires.fresh
    (changes_come (λ T D. drop_shown T (contents M.folder) M.nid D >>= λ E. add_shown T (contents to) M.nid M.props E >>= settled T T.places M.folder >>= settled T T.places to >>= changing T (replied Done)) (changes_at (λ (m : Mes) T D. Ok (with_object m.nid (Some (Message m)) D)) placed c.in_ok-props.ensures.put) c.in_ok-props.ensures.drafts
    (changes_come_exit _ (changes_at2 (λ q i T. drop_shown T q i) (c.contents.ensures ∙ ap contents from) id c.in_err-drop_shown.ensures.answer)
    c.from_residual-in_err-drop_shown.ensures.1))

pub returns-clause-answer : goal.returns-clause-answer
unfolding moving_message
returns-clause-answer g c =
    let M = c.args.mail in let to = c.args.folder.bits in
    let from = ap (λ (m : Mes). m.folder) (c.behind-mail.view_is ∙ c.message.ensures.message) in
    let id = ap (λ (m : Mes). m.nid) (c.behind-mail-2.view_is ∙ c.message-2.ensures.message) in
    let placed : c.copy_of-moved.result ≡ in_folder to M = c.copy_of-moved.ensures ∙ ap (λ i. in_folder to (record M { nid = i })) id in
    let props = c.in_ok-props.ensures.props ∙ ap (λ (m : Mes). m.props) placed in
    comes_from (λ T D. drop_shown T (contents M.folder) M.nid (with_object M.nid (Some (Message (in_folder to M))) D) >>= λ E.
    add_shown T (contents to) M.nid M.props E >>= settled T T.places M.folder >>= settled T T.places to >>= changing T (replied Done)) c.requires.fresh
    (changes_come (λ T D. drop_shown T (contents M.folder) M.nid D >>= λ E. add_shown T (contents to) M.nid M.props E >>= settled T T.places M.folder >>= settled T T.places to >>= changing T (replied Done)) (changes_at (λ (m : Mes) T D. Ok (with_object m.nid (Some (Message m)) D)) placed c.in_ok-props.ensures.put) c.in_ok-props.ensures.drafts
    (changes_come _ (changes_at2 (λ q i T. drop_shown T q i) (c.contents.ensures ∙ ap contents from) id c.in_ok-drop_shown.ensures.answer)
    c.in_ok-drop_shown.ensures.drafts
    (comes_ungrouped3 (λ T D. add_shown T (contents to) M.nid M.props D) (λ T. settled T T.places M.folder) (λ T. settled T T.places to) (λ T. changing T (replied Done))
    (comes_at3 (λ f i ps T. arriving T f to i ps) from id props c.arriving.ensures.answer))))
