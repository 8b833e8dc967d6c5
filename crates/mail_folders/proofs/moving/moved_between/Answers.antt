use Rattle.std.proofs.Common.{◌∙◌}
use Rattle.mail_tree.specs.Changing.{◌>>=◌, drop_shown, hierarchy}
use Rattle.mail_tree.specs.Folders.{moved_between}
use Rattle.mail_folders.specs.Pieces.{added_between, with_parent}
use Rattle.mail_draft.proofs.DeskCalls.{both_change, changes_at, changes_exit, changes_from, changes_then, first_exits}
use Rattle.mail_folders.proofs.moving.moved_between.Goals as goal

pub returns-in_err-context-clause-answer : goal.returns-in_err-context-clause-answer
unfolding moved_between added_between
returns-in_err-context-clause-answer g c = changes_exit _ c.in_err-context.ensures.answer c.from_residual.ensures.1

pub returns-in_err-put_parent-clause-answer : goal.returns-in_err-put_parent-clause-answer
unfolding moved_between added_between
returns-in_err-put_parent-clause-answer g c =
    let f = c.args.folder.bits in let from = c.args.from.bits in let to = c.args.to.bits in let x = c.in_ok-context.context in let places = c.args.places.now in
    changes_then _ c.in_ok-context.ensures.answer c.in_ok-context.ensures.reads
    (changes_from (λ T D. drop_shown T (hierarchy from) f (with_parent f x to D) >>= added_between T f from to places x.props) (c.in_ok-context.ensures.reads.changed ∙ c.requires.fresh)
    (first_exits (λ T D. drop_shown T (hierarchy from) f D >>= added_between T f from to places x.props) c.in_err-put_parent.ensures.answer c.from_residual-in_err-put_parent.ensures.1))

pub returns-in_err-drop_shown-clause-answer : goal.returns-in_err-drop_shown-clause-answer
unfolding moved_between added_between
returns-in_err-drop_shown-clause-answer g c =
    let f = c.args.folder.bits in let from = c.args.from.bits in let to = c.args.to.bits in let x = c.in_ok-context.context in let places = c.args.places.now in
    changes_then _ c.in_ok-context.ensures.answer c.in_ok-context.ensures.reads
    (changes_from (λ T D. drop_shown T (hierarchy from) f (with_parent f x to D) >>= added_between T f from to places x.props) (c.in_ok-context.ensures.reads.changed ∙ c.requires.fresh)
    (both_change (λ T D. drop_shown T (hierarchy from) f D >>= added_between T f from to places x.props) c.in_ok-put_parent.ensures.answer c.in_ok-put_parent.ensures.drafts
    (first_exits (λ T. added_between T f from to places x.props) (changes_at (λ q T. drop_shown T q f) c.hierarchy.ensures c.in_err-drop_shown.ensures.answer) c.from_residual-in_err-drop_shown.ensures.1)))

pub returns-clause-answer : goal.returns-clause-answer
unfolding moved_between added_between
returns-clause-answer g c =
    let f = c.args.folder.bits in let from = c.args.from.bits in let to = c.args.to.bits in let x = c.in_ok-context.context in let places = c.args.places.now in
    changes_then _ c.in_ok-context.ensures.answer c.in_ok-context.ensures.reads
    (changes_from (λ T D. drop_shown T (hierarchy from) f (with_parent f x to D) >>= added_between T f from to places x.props) (c.in_ok-context.ensures.reads.changed ∙ c.requires.fresh)
    (both_change (λ T D. drop_shown T (hierarchy from) f D >>= added_between T f from to places x.props) c.in_ok-put_parent.ensures.answer c.in_ok-put_parent.ensures.drafts
    (both_change (λ T. added_between T f from to places x.props) (changes_at (λ q T. drop_shown T q f) c.hierarchy.ensures c.in_ok-drop_shown.ensures.answer) c.in_ok-drop_shown.ensures.drafts
    (changes_at (λ props T. added_between T f from to places props) (c.in_ok-props.ensures ∙ c.props.ensures) c.added_between.ensures.answer))))
