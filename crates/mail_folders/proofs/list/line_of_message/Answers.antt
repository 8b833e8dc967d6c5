use Rattle.std.proofs.Common.{Ok, Err, Some, ap}
use Rattle.mapi_values.specs.Messages.{Mes}
use Rattle.command_text.specs.declared.reply.DataLine.{DataLine}
use Rattle.std.proofs.lemmas.Result.{err_from_is_err_and}
use Rattle.mail_tree.specs.Changing.{as_message, known, nothing, now_at}
use Rattle.mail_draft.proofs.GlanceLaws.{says-where}
use Rattle.mail_folders.specs.Pieces.{line_of_message, message_line}
use Rattle.mail_folders.proofs.Calls.{stands_there}
use Rattle.mail_folders.proofs.list.line_of_message.Goals as goal

pub returns-in_err-node-clause-answer : goal.returns-in_err-node-clause-answer
unfolding line_of_message
returns-in_err-node-clause-answer g c =
    let p = err_from_is_err_and c.from_residual.result c.from_residual.ensures.1 in let m = c.args.message in
    record {
      says = λ T s. rw (p.1, p.2)
          (says-where (λ (l : DataLine). l) (as_message (now_at T nothing m)) (λ (M : Mes). Ok (message_line m M)) (Err c.in_err-node.field-0.0) (λ M here. c.in_err-node.ensures.content T s M (stands_there T m M here)));
    }

pub returns-clause-answer : goal.returns-clause-answer
unfolding line_of_message
returns-clause-answer g c =
    let m = c.args.message in
    record {
      says = λ T s.
          says-where (λ (l : DataLine). l) (as_message (now_at T nothing m)) (λ (M : Mes). Ok (message_line m M)) c.line_in.result
          (λ M here. c.line_in.ensures.answer T (c.in_ok-node.ensures.reads.shows T s) M (ap known here) (c.in_ok-node.ensures.content T s M (stands_there T m M here)));
    }
