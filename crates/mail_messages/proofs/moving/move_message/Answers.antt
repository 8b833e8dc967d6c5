use Rattle.std.proofs.Common.{◌==◌, Ok, if◌then◌else◌}
use Rattle.command_text.specs.declared.reply.LastLine.TheVariants.{Done}
use Rattle.mapi_values.specs.Messages.{Mes}
use Rattle.mail_tree.specs.Changing.{◌>>=◌}
use Rattle.mail_tree.specs.Folders.{folder_in, replied, unchanged, unless_plain}
use Rattle.mail_tree.specs.Messages.{message_in, moved_message}
use Rattle.mail_draft.specs.Desks.{coming_of}
use Rattle.mail_messages.specs.Parts.{moving_into}
use Rattle.mail_messages.specs.Pieces.{moving_message}
use Rattle.mail_messages.proofs.Calls.{as_at, regroup, then_is}
use Rattle.mail_messages.proofs.FoundLaws.{its_id}
use Rattle.mail_draft.proofs.DeskCalls.{comes_exit}
use Rattle.mail_messages.proofs.moving.move_message.Goals as goal

pub returns-in_err-mail-clause-answer : goal.returns-in_err-mail-clause-answer
unfolding moved_message moving_message
returns-in_err-mail-clause-answer g c = comes_exit _ c.in_err-mail.ensures.answer c.from_residual.ensures.1

pub returns-clause-answer : goal.returns-clause-answer
unfolding moved_message moving_message
returns-clause-answer g c = record {
  says = λ T s.
      let m = c.args.message.bits in let to = c.args.folder.bits in let N = c.in_ok-mail.mail in let view = coming_of T (g.D.Desk.view c.move_into.new.desk).changed in
      then_is (λ (m : Mes). m) view (message_in T m)
      (λ M. folder_in T to >>= λ q. unless_plain q >>= λ u. if M.folder == to then Ok (unchanged T (replied Done)) else moving_message T m to M) _ _
      (c.in_ok-mail.ensures.answer.says T s)
      (λ is. regroup view (folder_in T to) unless_plain (λ u. if N.folder == to then Ok (unchanged T (replied Done)) else moving_message T m to N) _
      (as_at view (λ i. moving_into T i to N) _ (its_id T m N (g.D.Desk.own_ids c.args.desk.now T s) is) (c.move_into.ensures.answer.says T (c.in_ok-mail.ensures.reads.shows T s))));
  fits = c.move_into.ensures.answer.fits;
}
