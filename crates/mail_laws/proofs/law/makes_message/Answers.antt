use Rattle.std.proofs.Common.{Some, subst}
use Rattle.command_text.specs.declared.command.Command.TheVariants.{NewMessage}
use Rattle.mail_laws.proofs.Effects.{Changes, MadeNew, makes, only_message}
use Rattle.mail_laws.proofs.LawSteps.{before, both_hold}
use Rattle.mail_laws.proofs.LawSteps.{was_nothing}
use Rattle.mail_tree.specs.Folders.{nid}
use Rattle.mail_tree.specs.Ids.{new_id}
use Rattle.mail_tree.specs.Step.{outcome}
use Rattle.mail_laws.proofs.law.makes_message.Goals as goal

pub returns : goal.returns
unfolding outcome
returns c T folder class time values w = let b = before T w in both_hold T (NewMessage folder class time values) w (MadeNew T folder.bits class time values) _ (makes T folder.bits class time values b)
    (λ o k r. (nid (new_id 4 r.0), r.1, r.5.reply_is, was_nothing T (new_id 4 r.0) r.3, only_message T (new_id 4 r.0) (Some r.1) o b k (subst (λ x. Changes T x (Some r.1) o) r.2 r.5.changes_it), r.4.folder_is, r.4.class_is, r.4.time_is))
