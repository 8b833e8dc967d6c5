use Rattle.std.proofs.Common.{◌∙◌, List, Ok, ap}
use Rattle.mapi_values.specs.Properties.{put}
use Rattle.mapi_values.specs.Values.{Val}
use Rattle.mail_tree.specs.Changing.{nothing}
use Rattle.mail_tree.specs.Settling.{mirrored, with_context}
use Rattle.mail_tree.specs.Values.{text}
use Rattle.mail_folders.specs.Pieces.{named_anew}
use Rattle.mail_draft.proofs.DeskCalls.{both_change, changes_at, changes_exit, changes_from, changes_then, first_exits}
use Rattle.mail_folders.proofs.renaming.named_anew.Goals as goal

pub returns-in_err-context-clause-answer : goal.returns-in_err-context-clause-answer
unfolding named_anew
returns-in_err-context-clause-answer g c = changes_exit _ c.in_err-context.ensures.answer c.from_residual.ensures.1

pub returns-in_err-put_context-clause-answer : goal.returns-in_err-put_context-clause-answer
unfolding named_anew
returns-in_err-put_context-clause-answer g c =
    let f = c.args.folder.bits in let x = c.in_ok-context.context in let named = put (text 0x3001 c.args.name.now) x.props in
    let props = c.in_ok-props.ensures ∙ ap (λ (ps : List Val). put (text 0x3001 c.args.name.now) ps) c.props.ensures in
    changes_then _ c.in_ok-context.ensures.answer c.in_ok-context.ensures.reads
    (changes_from (λ T D. mirrored T f (with_context f x named D)) (c.in_ok-context.ensures.reads.changed ∙ c.requires.fresh)
    (first_exits (λ T. mirrored T f) (changes_at (λ props T D. Ok (with_context f x props D)) props c.in_err-put_context.ensures.answer) c.from_residual-in_err-put_context.ensures.1))

pub returns-clause-answer : goal.returns-clause-answer
unfolding named_anew
returns-clause-answer g c =
    let f = c.args.folder.bits in let x = c.in_ok-context.context in let named = put (text 0x3001 c.args.name.now) x.props in
    let props = c.in_ok-props.ensures ∙ ap (λ (ps : List Val). put (text 0x3001 c.args.name.now) ps) c.props.ensures in
    changes_then _ c.in_ok-context.ensures.answer c.in_ok-context.ensures.reads
    (changes_from (λ T D. mirrored T f (with_context f x named D)) (c.in_ok-context.ensures.reads.changed ∙ c.requires.fresh)
    (both_change (λ T. mirrored T f) (changes_at (λ props T D. Ok (with_context f x props D)) props c.in_ok-put_context.ensures.answer) c.in_ok-put_context.ensures.drafts c.mirror.ensures.answer))
