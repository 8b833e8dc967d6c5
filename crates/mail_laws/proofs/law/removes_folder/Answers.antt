use Rattle.std.proofs.Common.{None}
use Rattle.command_text.specs.declared.command.Command.TheVariants.{RemoveFolder}
use Rattle.mail_laws.proofs.LawSteps.{before, both_hold}
use Rattle.mail_laws.proofs.PlaceEffects.{Placed, only_place, removes_folder}
use Rattle.mail_tree.specs.Step.{outcome}
use Rattle.mail_laws.proofs.law.removes_folder.Goals as goal

pub returns : goal.returns
unfolding outcome
returns c T f w = let b = before T w in both_hold T (RemoveFolder f) w (Placed T f.bits None) _ (removes_folder T f.bits b) (λ o k r. only_place T f.bits None o b k r)
