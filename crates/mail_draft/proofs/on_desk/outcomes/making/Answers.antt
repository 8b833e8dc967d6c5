use Rattle.std.proofs.Common.{ℕ, Some}
use Rattle.mail_tree.specs.Changing.{Changed, within_limits}
use Rattle.mail_tree.specs.Folders.{nid}
use Rattle.mail_tree.specs.Tree.{Tree}
use Rattle.mail_draft.proofs.DeskCalls.{answers_at, comes_exit}
use Rattle.mail_draft.proofs.on_desk.outcomes.making.Goals as goal

-- the new object's id is the one that was made
pub returns-in_err-check_limits-clause-answer : goal.returns-in_err-check_limits-clause-answer
returns-in_err-check_limits-clause-answer g c =
    comes_exit _ (answers_at (λ (n : ℕ) (T : Tree) (D : Changed). within_limits T (Some (nid n)) D) c.new_id-made.ensures c.in_err-check_limits.ensures.answer) c.from_residual.ensures.1
