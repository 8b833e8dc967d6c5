use Rattle.mail_tree.specs.Changing.{put_shown}
use Rattle.mail_draft.proofs.DeskCalls.{both_change, changes_at, first_exits}
use Rattle.mail_messages.proofs.changes.showing_row.Goals as goal

pub returns-in_err-put_shown-clause-answer : goal.returns-in_err-put_shown-clause-answer
returns-in_err-put_shown-clause-answer g c = first_exits _ (changes_at (λ q T. put_shown T q c.args.message.bits c.args.props.now) c.contents.ensures c.in_err-put_shown.ensures.answer) c.from_residual.ensures.1

pub returns-clause-answer : goal.returns-clause-answer
returns-clause-answer g c =
    both_change _ (changes_at (λ q T. put_shown T q c.args.message.bits c.args.props.now) c.contents.ensures c.in_ok-put_shown.ensures.answer) c.in_ok-put_shown.ensures.drafts c.settled.ensures.answer
