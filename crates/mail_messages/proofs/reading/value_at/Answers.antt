use Rattle.std.proofs.Common.{Err, ap}
use Rattle.command_text.specs.declared.reply.Reply.{Reply}
use Rattle.mapi_values.specs.Messages.{Mes}
use Rattle.std.proofs.lemmas.Result.{err_from_is_err_and}
use Rattle.mail_tree.specs.Changing.{as_message, known, nothing, now_at}
use Rattle.mail_draft.proofs.GlanceLaws.{says-where}
use Rattle.mail_draft.proofs.Passes.{no_matter}
use Rattle.mail_messages.specs.Parts.{value_reply}
use Rattle.mail_messages.specs.Reading.{value_at}
use Rattle.mail_messages.proofs.FoundLaws.{stands-there}
use Rattle.mail_messages.proofs.reading.value_at.Goals as goal

pub returns-in_err-node-clause-answer : goal.returns-in_err-node-clause-answer
unfolding value_at
returns-in_err-node-clause-answer g c =
    let p = err_from_is_err_and c.from_residual.result c.from_residual.ensures.1 in let m = c.args.message.bits in
    record {
      says = λ T s. rw (p.1, p.2)
          (says-where (λ (r : Reply). r) (as_message (now_at T nothing m)) (λ (M : Mes). value_reply c.args.tag M.props) (Err c.in_err-node.field-0.0) (λ M here. no_matter (λ (r : Reply). r) (value_reply c.args.tag M.props) c.in_err-node.field-0.0 (c.in_err-node.ensures.content T s M (stands-there T m M here))));
    }

pub returns-clause-answer : goal.returns-clause-answer
unfolding value_at
returns-clause-answer g c =
    let m = c.args.message.bits in
    record {
      says = λ T s.
          says-where (λ (r : Reply). r) (as_message (now_at T nothing m)) (λ (M : Mes). value_reply c.args.tag M.props) c.reply_in.result
          (λ M here. c.reply_in.ensures.answer T (c.in_ok-node.ensures.reads.shows T s) M (ap known here) (c.in_ok-node.ensures.content T s M (stands-there T m M here)));
    }
