use Rattle.mail_folders.specs.Pieces.{has_rows_in, unless_filled}
use Rattle.std.proofs.Common.{◌||◌}
use Rattle.command_text.specs.declared.reply.CommandRefusal.TheVariants.{NotEmpty}
use Rattle.mail_tree.specs.Changing.{refused_if}
use Rattle.mail_draft.proofs.DeskCalls.{answers_at, answers_exit, answers_of, answers_then}
use Rattle.mail_folders.proofs.removing.unless_filled.Goals as goal

pub returns-in_err-has_folders-clause-answer : goal.returns-in_err-has_folders-clause-answer
unfolding unless_filled
returns-in_err-has_folders-clause-answer g c = answers_exit _ (answers_at (λ q T D. has_rows_in T q) c.hierarchy.ensures c.in_err-has_folders.ensures.answer) c.from_residual.ensures.1

pub returns-in_err-has_messages-clause-answer : goal.returns-in_err-has_messages-clause-answer
unfolding unless_filled
returns-in_err-has_messages-clause-answer g c = answers_then _ (answers_at (λ q T D. has_rows_in T q) c.hierarchy.ensures c.in_ok-has_folders.ensures.answer) c.in_ok-has_folders.ensures.reads
    (answers_exit _ (answers_at (λ q T D. has_rows_in T q) c.contents.ensures c.in_err-has_messages.ensures.answer) c.from_residual-in_err-has_messages.ensures.1)

pub returns-in_err-has_associated-clause-answer : goal.returns-in_err-has_associated-clause-answer
unfolding unless_filled
returns-in_err-has_associated-clause-answer g c = answers_then _ (answers_at (λ q T D. has_rows_in T q) c.hierarchy.ensures c.in_ok-has_folders.ensures.answer) c.in_ok-has_folders.ensures.reads
    (answers_then _ (answers_at (λ q T D. has_rows_in T q) c.contents.ensures c.in_ok-has_messages.ensures.answer) c.in_ok-has_messages.ensures.reads
    (answers_exit _ c.in_err-has_associated.ensures.answer c.from_residual-in_err-has_associated.ensures.1))

pub returns-clause-answer : goal.returns-clause-answer
unfolding unless_filled
returns-clause-answer g c = answers_then _ (answers_at (λ q T D. has_rows_in T q) c.hierarchy.ensures c.in_ok-has_folders.ensures.answer) c.in_ok-has_folders.ensures.reads
    (answers_then _ (answers_at (λ q T D. has_rows_in T q) c.contents.ensures c.in_ok-has_messages.ensures.answer) c.in_ok-has_messages.ensures.reads
    (answers_of _ (λ z. refused_if (c.in_ok-has_folders.has_folders || (c.in_ok-has_messages.has_messages || z)) NotEmpty) _ c.in_ok-has_associated.ensures.answer c.unless_rows.ensures.answer))
