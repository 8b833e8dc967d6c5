use Rattle.std.proofs.Common.{ap, ◌∙◌}
use Rattle.mail_tree.specs.Changing.{hierarchy, put_shown}
use Rattle.mail_draft.proofs.DeskCalls.{changes_at, changes_exit, changes_then}
use Rattle.mail_draft.proofs.DeskPieces.{mirrors_other, mirrors_root}
use Rattle.mail_draft.proofs.on_desk.settle.mirrored.Goals as goal

pub returns-then-folder-eq-ROOT_FOLDER-clause-answer : goal.returns-then-folder-eq-ROOT_FOLDER-clause-answer
returns-then-folder-eq-ROOT_FOLDER-clause-answer g c = mirrors_root c.if-folder-eq-ROOT_FOLDER.true c.hierarchy.ensures c.table_as_is.ensures.answer

pub returns-in_err-context-clause-answer : goal.returns-in_err-context-clause-answer
returns-in_err-context-clause-answer g c = mirrors_other c.if-folder-eq-ROOT_FOLDER.false (changes_exit _ c.in_err-context.ensures.answer c.from_residual.ensures.1)

pub returns-clause-answer : goal.returns-clause-answer
returns-clause-answer g c =
    let f = c.args.folder.bits in let x = c.in_ok-context.context in
    mirrors_other c.if-folder-eq-ROOT_FOLDER.false (changes_then _ c.in_ok-context.ensures.answer c.in_ok-context.ensures.reads
    (changes_at (λ q T. put_shown T q f x.props) (c.hierarchy-2.ensures ∙ ap hierarchy c.parent.ensures)
    (changes_at (λ props T. put_shown T c.hierarchy-2.result.bits f props) c.props.ensures c.put_shown.ensures.answer)))
