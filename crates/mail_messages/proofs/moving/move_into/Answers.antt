use Rattle.std.proofs.Common.{◌∙◌, ◌==◌, ℕ, Ok, if◌then◌else◌, ap, sym}
use Rattle.command_text.specs.declared.reply.CommandRefusal.TheVariants.{Reserved}
use Rattle.command_text.specs.declared.reply.LastLine.TheVariants.{Done}
use Rattle.mapi_values.specs.Messages.{Mes}
use Rattle.mail_tree.specs.Folders.{replied, unchanged}
use Rattle.mail_names.proofs.Names.{reply_is}
use Rattle.mail_messages.specs.Finding.{plain_at}
use Rattle.mail_messages.specs.Pieces.{moving_message}
use Rattle.mail_draft.proofs.DeskCalls.{asked_places, comes_exit, comes_then, comes_unchanged}
use Rattle.mail_draft.proofs.DeskLoops.{reads_none, reads_ok}
use Rattle.mail_messages.proofs.Calls.{comes_else, comes_if}
use Rattle.mail_messages.proofs.moving.move_into.Goals as goal

pub returns-in_err-check_plain-clause-answer : goal.returns-in_err-check_plain-clause-answer
returns-in_err-check_plain-clause-answer g c =
    comes_exit _ (asked_places (λ (u : Unit {0}). u) (plain_at c.args.folder.bits Reserved) _ c.places.ensures c.in_err-check_plain.ensures.answer) c.from_residual.ensures.1

pub returns-then-is_same-clause-answer : goal.returns-then-is_same-clause-answer
returns-then-is_same-clause-answer g c =
    let M = c.args.mail in let to = c.args.folder.bits in let coming = c.replied.ensures in let reply = c.without_data-reply in
    let home = ap (λ (m : Mes). m.folder) (c.behind-mail.view_is ∙ c.message.ensures.message) in
    comes_then (λ T D u. if M.folder == to then Ok (unchanged T (replied Done)) else moving_message T M.nid to M)
    (asked_places (λ (u : Unit {0}). u) (plain_at to Reserved) _ c.places.ensures c.in_ok-check_plain.ensures.answer) (reads_ok _ (reads_none _))
    (comes_if (M.folder == to) (λ T D. Ok (unchanged T (replied Done))) (λ T D. moving_message T M.nid to M) (ap (λ (q : ℕ). q == to) (sym home) ∙ sym c.is_same.ensures ∙ c.if-is_same.true)
    (comes_unchanged c.replied.result (replied Done) c.requires.fresh coming.places coming.last (coming.reply ∙ reply_is reply.result Done reply.ensures.lines reply.ensures.last)))

pub returns-clause-answer : goal.returns-clause-answer
returns-clause-answer g c =
    let M = c.args.mail in let to = c.args.folder.bits in
    let home = ap (λ (m : Mes). m.folder) (c.behind-mail.view_is ∙ c.message.ensures.message) in
    comes_then (λ T D u. if M.folder == to then Ok (unchanged T (replied Done)) else moving_message T M.nid to M)
    (asked_places (λ (u : Unit {0}). u) (plain_at to Reserved) _ c.places.ensures c.in_ok-check_plain.ensures.answer) (reads_ok _ (reads_none _))
    (comes_else (M.folder == to) (λ T D. Ok (unchanged T (replied Done))) (λ T D. moving_message T M.nid to M) (ap (λ (q : ℕ). q == to) (sym home) ∙ sym c.is_same.ensures ∙ c.if-is_same.false) c.move_between.ensures.answer)
