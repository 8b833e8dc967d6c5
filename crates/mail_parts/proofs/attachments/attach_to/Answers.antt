use Rattle.std.proofs.Common.{◌≡◌, ◌∙◌, ℕ, sym, ap}
use Rattle.command_text.specs.declared.reply.CommandRefusal.TheVariants.{Limit}
use Rattle.command_text.specs.declared.reply.Limit.TheVariants.{Rows}
use Rattle.command_text.specs.declared.reply.LastLine.TheVariants.{Attached}
use Rattle.mapi_values.specs.Messages.{Mes}
use Rattle.mail_tree.specs.Messages.{adding_attachment, spent_index}
use Rattle.mail_tree.specs.Parts.{attachment_tags, is_wide, new_part, next_part, part_nid, room_for, with_attachment}
use Rattle.mail_parts.proofs.DeskTests.{comes_passed, comes_remade}
use Rattle.mail_parts.proofs.Tests.{some_where}
use Rattle.mail_parts.proofs.attachments.attach_to.Goals as goal

pub returns-in-Some-clause-answer : goal.returns-in-Some-clause-answer
unfolding adding_attachment
returns-in-Some-clause-answer g c =
    let M = c.args.mail in let name = c.args.name.now in let held = c.args.held.now in
    let index : c.next_part-index.result ≡ next_part M = c.next_part-index.ensures in
    let make : ℕ → Mes = λ n. with_attachment (new_part (part_nid n) name held) (room_for n M) in
    let made = some_where (is_wide attachment_tags M.attachments) (make c.next_part-index.result) _ (sym c.in-Some.is ∙ c.in_ok-added.ensures) in
    comes_passed (is_wide attachment_tags M.attachments) (Limit Rows) (λ T u. adding_attachment T M name held (next_part M)) made.0
    (comes_remade
    (made.1 ∙ ap make index)
    (c.attachment_ending.ensures.reason ∙ ap (λ (n : ℕ). spent_index n) index)
    (c.attachment_ending.ensures.last ∙ ap (λ (n : ℕ). Attached (part_nid n)) index)
    c.remake_message.ensures.answer)
