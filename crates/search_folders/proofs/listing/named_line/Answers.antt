use Rattle.std.proofs.Common.{Ok, refl, subst}
use Rattle.std.specs.Global.{Vec}
use Rattle.command_text.specs.declared.reply.DataLine.{DataLine}
use Rattle.mail_draft.specs.Answers.{Says}
use Rattle.mail_folders.proofs.Steps.{stopped}
use Rattle.search_results.specs.Counting.{message_told}
use Rattle.search_folders.proofs.Lines.{asking_stops, line_stops, no_line, one_line}
use Rattle.search_folders.proofs.listing.named_line.Goals as goal

pub returns-in_err-is_message-clause-answer : goal.returns-in_err-is_message-clause-answer
returns-in_err-is_message-clause-answer g c = record {
  says = λ T s.
      stopped _ _ _ _ c.from_residual.ensures.1 (asking_stops (λ (lines : Vec DataLine). lines.items) T c.args.lines.items c.args.id.bits c.in_err-is_message.field-0.0 (c.in_err-is_message.ensures.answer.says T s));
}

pub returns-then-not-branch-clause-answer : goal.returns-then-not-branch-clause-answer
returns-then-not-branch-clause-answer g c = record {
  says = λ T s.
      no_line (λ (lines : Vec DataLine). lines.items) T c.args.lines.items c.args.id.bits _ (subst (λ b. Says (λ b. b) (message_told T c.args.id.bits) (Ok b)) c.if-not-branch.true (c.in_ok-is_message.ensures.answer.says T s)) refl;
}

pub returns-in_err-line-clause-answer : goal.returns-in_err-line-clause-answer
returns-in_err-line-clause-answer g c = record {
  says = λ T s.
      stopped _ _ _ _ c.from_residual-in_err-line.ensures.1
      (line_stops _ T c.args.lines.items c.args.id.bits _ (subst (λ b. Says (λ b. b) (message_told T c.args.id.bits) (Ok b)) c.if-not-branch.false (c.in_ok-is_message.ensures.answer.says T s))
      (c.in_err-line.ensures.answer.says T (c.in_ok-is_message.ensures.reads.shows T s)));
}

pub returns-clause-answer : goal.returns-clause-answer
returns-clause-answer g c = record {
  says = λ T s.
      one_line (λ (lines : Vec DataLine). lines.items) T (g.D.Desk.own_ids c.args.desk.now T s) c.args.lines.items c.args.id.bits _ _
      (subst (λ b. Says (λ b. b) (message_told T c.args.id.bits) (Ok b)) c.if-not-branch.false (c.in_ok-is_message.ensures.answer.says T s))
      (c.in_ok-line.ensures.answer.says T (c.in_ok-is_message.ensures.reads.shows T s)) c.in_ok-push.ensures.items;
}
