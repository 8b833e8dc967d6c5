use Rattle.std.proofs.Common.{None}
use Rattle.command_text.specs.declared.reply.LastLine.TheVariants.{Done}
use Rattle.mail_tree.specs.Changing.{◌>>=◌, contents, drop_shown, with_object}
use Rattle.mail_tree.specs.Folders.{changing, replied}
use Rattle.mail_tree.specs.Settling.{settled}
use Rattle.mail_messages.specs.Pieces.{removing_message}
use Rattle.mail_draft.proofs.DeskCalls.{changes_at, changes_come, changes_come_exit, comes_from}
use Rattle.mail_messages.proofs.Calls.{comes_ungrouped}
use Rattle.mail_messages.proofs.removing.take_out.Goals as goal

pub returns-in_err-put-clause-answer : goal.returns-in_err-put-clause-answer
unfolding removing_message
returns-in_err-put-clause-answer g c =
    let m = c.args.message.bits in let f = c.args.folder.bits in
    comes_from (λ T D. drop_shown T (contents f) m (with_object m None D) >>= settled T T.places f >>= changing T (replied Done)) c.requires.fresh
    (changes_come_exit (λ T E. drop_shown T (contents f) m E >>= settled T T.places f >>= changing T (replied Done)) c.in_err-put.ensures.answer c.from_residual.ensures.1)

pub returns-in_err-drop_shown-clause-answer : goal.returns-in_err-drop_shown-clause-answer
unfolding removing_message
returns-in_err-drop_shown-clause-answer g c =
    let m = c.args.message.bits in let f = c.args.folder.bits in
    comes_from (λ T D. drop_shown T (contents f) m (with_object m None D) >>= settled T T.places f >>= changing T (replied Done)) c.requires.fresh
    (comes_ungrouped (λ T D. drop_shown T (contents f) m (with_object m None D)) (λ T D. settled T T.places f) (λ T D. changing T (replied Done))
    (changes_come (λ T E. drop_shown T (contents f) m E >>= λ x. settled T T.places f x >>= changing T (replied Done)) c.in_ok-put.ensures.answer c.in_ok-put.ensures.drafts
    (changes_come_exit _ (changes_at (λ q T. drop_shown T q m) c.contents.ensures c.in_err-drop_shown.ensures.answer) c.from_residual-in_err-drop_shown.ensures.1)))

pub returns-clause-answer : goal.returns-clause-answer
unfolding removing_message
returns-clause-answer g c =
    let m = c.args.message.bits in let f = c.args.folder.bits in
    comes_from (λ T D. drop_shown T (contents f) m (with_object m None D) >>= settled T T.places f >>= changing T (replied Done)) c.requires.fresh
    (comes_ungrouped (λ T D. drop_shown T (contents f) m (with_object m None D)) (λ T D. settled T T.places f) (λ T D. changing T (replied Done))
    (changes_come (λ T E. drop_shown T (contents f) m E >>= λ x. settled T T.places f x >>= changing T (replied Done)) c.in_ok-put.ensures.answer c.in_ok-put.ensures.drafts
    (changes_come _ (changes_at (λ q T. drop_shown T q m) c.contents.ensures c.in_ok-drop_shown.ensures.answer) c.in_ok-drop_shown.ensures.drafts c.settling.ensures.answer)))
