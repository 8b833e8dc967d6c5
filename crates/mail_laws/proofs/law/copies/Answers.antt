use Rattle.std.proofs.Common.{Some}
use Rattle.command_text.specs.declared.command.Command.TheVariants.{CopyMessage}
use Rattle.mail_laws.proofs.Effects.{Copied, copies, only_message}
use Rattle.mail_laws.proofs.LawSteps.{before, both_hold, was_message}
use Rattle.mail_laws.proofs.LawSteps.{was_nothing}
use Rattle.mail_tree.specs.Folders.{nid}
use Rattle.mail_tree.specs.Ids.{new_id}
use Rattle.mail_tree.specs.Messages.{copy_of}
use Rattle.mail_tree.specs.Step.{outcome}
use Rattle.mail_laws.proofs.law.copies.Goals as goal

pub returns : goal.returns
unfolding outcome
returns c T m folder w = let b = before T w in both_hold T (CopyMessage m folder) w (Copied T m.bits folder.bits) _ (copies T m.bits folder.bits b)
    (λ o k r. (r.0, nid (new_id 4 r.1), was_message T m.bits r.0 r.2, r.4.reply_is, was_nothing T (new_id 4 r.1) r.3, only_message T (new_id 4 r.1) (Some (copy_of (new_id 4 r.1) folder.bits r.0)) o b k r.4.changes_it))
