use Rattle.mail_tree.specs.Changing.{add_shown}
use Rattle.mail_draft.proofs.DeskCalls.{changes_at, changes_come, changes_come_exit}
use Rattle.mail_messages.proofs.moving.arriving.Goals as goal

pub returns-in_err-add_shown-clause-answer : goal.returns-in_err-add_shown-clause-answer
returns-in_err-add_shown-clause-answer g c = changes_come_exit _ (changes_at (λ q T. add_shown T q c.args.message.bits c.args.props.now) c.contents.ensures c.in_err-add_shown.ensures.answer) c.from_residual.ensures.1

pub returns-clause-answer : goal.returns-clause-answer
returns-clause-answer g c =
    changes_come _ (changes_at (λ q T. add_shown T q c.args.message.bits c.args.props.now) c.contents.ensures c.in_ok-add_shown.ensures.answer) c.in_ok-add_shown.ensures.drafts c.settling_both.ensures.answer
