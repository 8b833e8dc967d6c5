use Rattle.std.proofs.Common.{Bool}
use Rattle.mail_tree.specs.Settling.{counted, settled}
use Rattle.mail_draft.specs.Counting.{settled_with}
use Rattle.mail_draft.proofs.DeskCalls.{as_at}
use Rattle.mail_draft.proofs.on_desk.settle.settled_at.Goals as goal

pub returns-clause-answer : goal.returns-clause-answer
unfolding settled counted
returns-clause-answer g c = record {
  says = λ T s. as_at _ (λ (has : Bool). settled_with T has c.args.folder.bits (g.D.Desk.view c.args.desk.now).changed) _ c.has_folders.ensures (c.settled_with.ensures.answer.says T s);
}
