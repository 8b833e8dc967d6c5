use Rattle.std.proofs.Common.{◌≡◌, ◌∙◌, ℕ, List, sym, ap}
use Rattle.command_text.specs.declared.reply.CommandRefusal.TheVariants.{Limit}
use Rattle.command_text.specs.declared.reply.Limit.TheVariants.{Rows}
use Rattle.command_text.specs.declared.reply.LastLine.TheVariants.{Row}
use Rattle.mapi_values.specs.Messages.{Mes}
use Rattle.mapi_values.specs.Values.{Val}
use Rattle.mail_tree.specs.Messages.{adding_recipient, spent_row}
use Rattle.mail_tree.specs.Parts.{is_wide, new_row, next_row, recipient_tags, rows_of, with_recipient}
use Rattle.mail_parts.proofs.DeskTests.{comes_passed, comes_remade}
use Rattle.mail_parts.proofs.Tests.{some_where}
use Rattle.mail_parts.proofs.recipients.add_to.Goals as goal

pub returns-in-Some-clause-answer : goal.returns-in-Some-clause-answer
unfolding adding_recipient
returns-in-Some-clause-answer g c =
    let M = c.args.mail in let props = c.args.props.now in
    let rows : c.rows_of.result.now ≡ rows_of M.recipients = c.rows_of.ensures ∙ ap (λ (m : Mes). rows_of m.recipients) (c.behind-mail.view_is ∙ c.message.ensures.message) in
    let row : c.next_row-row.result ≡ next_row (rows_of M.recipients) = c.next_row-row.ensures.value ∙ ap (λ (rs : List (ℕ × List Val)). next_row rs) rows in
    let made = some_where (is_wide recipient_tags M.recipients) (with_recipient c.new_row.result props M) _ (sym c.in-Some.is ∙ c.in_ok-added.ensures) in
    comes_passed (is_wide recipient_tags M.recipients) (Limit Rows) (λ T u. adding_recipient T M props (next_row (rows_of M.recipients))) made.0
    (comes_remade
    (made.1 ∙ ap (λ (n : ℕ). with_recipient n props M) (c.new_row.ensures ∙ ap (λ (n : ℕ). new_row n) row))
    (c.recipient_ending.ensures.reason ∙ ap (λ (n : ℕ). spent_row n) row)
    (c.recipient_ending.ensures.last ∙ ap (λ (n : ℕ). Row (new_row n)) row)
    c.remake_message.ensures.answer)
