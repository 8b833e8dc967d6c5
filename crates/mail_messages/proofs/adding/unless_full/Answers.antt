use Rattle.std.proofs.Common.{Ok, length}
use Rattle.mail_tree.specs.Changing.{contents, nothing, table_at}
use Rattle.mail_tree.specs.Folders.{unless_full}
use Rattle.mail_messages.specs.Parts.{may_grow}
use Rattle.mail_draft.specs.Listed.{row_count}
use Rattle.mail_draft.proofs.DeskCalls.{answers_at, answers_exit, answers_of, regrouped}
use Rattle.mail_messages.proofs.adding.unless_full.Goals as goal

pub returns-in_err-count-clause-answer : goal.returns-in_err-count-clause-answer
unfolding unless_full
returns-in_err-count-clause-answer g c =
    regrouped (λ T D. table_at T nothing (contents c.args.folder.bits)) (λ T D t. Ok (length t.table.rows)) (λ T D. may_grow)
    (answers_exit _ (answers_at (λ q T D. row_count T q) c.contents.ensures c.in_err-count.ensures.answer) c.from_residual.ensures.1)

pub returns-clause-answer : goal.returns-clause-answer
unfolding unless_full
returns-clause-answer g c =
    regrouped (λ T D. table_at T nothing (contents c.args.folder.bits)) (λ T D t. Ok (length t.table.rows)) (λ T D. may_grow)
    (answers_of _ may_grow _ (answers_at (λ q T D. row_count T q) c.contents.ensures c.in_ok-count.ensures.answer) c.check_growth.ensures.answer)
