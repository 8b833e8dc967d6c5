use Rattle.std.proofs.Common.{ap, ◌∙◌}
use Rattle.mail_tree.specs.Changing.{hierarchy}
use Rattle.mail_tree.specs.Settling.{table_as_is}
use Rattle.mail_draft.proofs.DeskCalls.{changes_at, changes_exit, changes_then}
use Rattle.mail_draft.proofs.DeskPieces.{above_other, above_root}
use Rattle.mail_draft.proofs.on_desk.touch.above_as_is.Goals as goal

pub returns-then-folder-eq-ROOT_FOLDER-clause-answer : goal.returns-then-folder-eq-ROOT_FOLDER-clause-answer
returns-then-folder-eq-ROOT_FOLDER-clause-answer g c = above_root c.if-folder-eq-ROOT_FOLDER.true c.hierarchy.ensures c.table_as_is.ensures.answer

pub returns-in_err-context-clause-answer : goal.returns-in_err-context-clause-answer
returns-in_err-context-clause-answer g c = above_other c.if-folder-eq-ROOT_FOLDER.false (changes_exit _ c.in_err-context.ensures.answer c.from_residual.ensures.1)

pub returns-clause-answer : goal.returns-clause-answer
returns-clause-answer g c =
    above_other c.if-folder-eq-ROOT_FOLDER.false (changes_then _ c.in_ok-context.ensures.answer c.in_ok-context.ensures.reads
    (changes_at (λ q T. table_as_is T q) (c.hierarchy-2.ensures ∙ ap hierarchy c.parent.ensures) c.table_as_is-2.ensures.answer))
