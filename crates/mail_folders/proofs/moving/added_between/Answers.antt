use Rattle.std.proofs.Common.{refl}
use Rattle.mail_tree.specs.Changing.{add_shown}
use Rattle.mail_folders.specs.Pieces.{added_between}
use Rattle.mail_draft.proofs.DeskCalls.{both_change, changes_at, drafts_then, first_exits}
use Rattle.mail_folders.proofs.moving.added_between.Goals as goal

pub returns-in_err-add_shown-clause-answer : goal.returns-in_err-add_shown-clause-answer
unfolding added_between
returns-in_err-add_shown-clause-answer g c = first_exits {Y = Unit {0}} {mid = g.D.Desk.view c.args.desk.now} _ (first_exits _ (changes_at (λ q T. add_shown T q c.args.folder.bits c.args.props.now) c.hierarchy.ensures c.in_err-add_shown.ensures.answer) refl) c.from_residual.ensures.1

pub returns-in_err-settle-clause-answer : goal.returns-in_err-settle-clause-answer
unfolding added_between
returns-in_err-settle-clause-answer g c = first_exits _ (both_change _ (changes_at (λ q T. add_shown T q c.args.folder.bits c.args.props.now) c.hierarchy.ensures c.in_ok-add_shown.ensures.answer) c.in_ok-add_shown.ensures.drafts c.in_err-settle.ensures.answer) c.from_residual-in_err-settle.ensures.1

pub returns-clause-answer : goal.returns-clause-answer
unfolding added_between
returns-clause-answer g c = both_change _ (both_change _ (changes_at (λ q T. add_shown T q c.args.folder.bits c.args.props.now) c.hierarchy.ensures c.in_ok-add_shown.ensures.answer) c.in_ok-add_shown.ensures.drafts c.in_ok-settle.ensures.answer)
    (drafts_then c.in_ok-add_shown.ensures.drafts c.in_ok-settle.ensures.drafts) c.settle-2.ensures.answer
