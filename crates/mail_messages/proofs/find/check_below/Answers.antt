use Rattle.std.proofs.Common.{not}
use Rattle.command_text.specs.declared.reply.CommandRefusal.TheVariants.{Object}
use Rattle.mail_tree.specs.declared.places.FolderPlace.{FolderPlace}
use Rattle.mail_tree.specs.Places.{find_place, is_plain}
use Rattle.mail_tree.specs.Changing.{found, refused_if}
use Rattle.mail_messages.specs.Finding.{is_listed, listed_below, plain_at}
use Rattle.mail_draft.proofs.DeskCalls.{answers_exit, answers_then, asked_places, regrouped}
use Rattle.mail_draft.proofs.DeskLoops.{reads_none, reads_ok}
use Rattle.mail_messages.proofs.find.check_below.Goals as goal

pub returns-in_err-check_plain-clause-answer : goal.returns-in_err-check_plain-clause-answer
unfolding listed_below
returns-in_err-check_plain-clause-answer g c =
    let f = c.args.folder.bits in
    regrouped (λ T D. found Object (find_place f T.places)) (λ T D (q : FolderPlace). refused_if (not (is_plain q)) Object) (λ T D u. is_listed T c.args.message.bits f)
    (answers_exit _ (asked_places (λ (u : Unit {0}). u) (plain_at f Object) _ c.places.ensures c.in_err-check_plain.ensures.answer) c.from_residual.ensures.1)

pub returns-clause-answer : goal.returns-clause-answer
unfolding listed_below
returns-clause-answer g c =
    let f = c.args.folder.bits in
    regrouped (λ T D. found Object (find_place f T.places)) (λ T D (q : FolderPlace). refused_if (not (is_plain q)) Object) (λ T D u. is_listed T c.args.message.bits f)
    (answers_then _ (asked_places (λ (u : Unit {0}). u) (plain_at f Object) _ c.places.ensures c.in_ok-check_plain.ensures.answer) (reads_ok _ (reads_none _)) c.check_row.ensures.answer)
