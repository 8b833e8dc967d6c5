use Rattle.std.proofs.Common.{Some}
use Rattle.command_text.specs.declared.command.Command.TheVariants.{RenameFolder}
use Rattle.mail_laws.proofs.LawSteps.{before, both_hold, named}
use Rattle.mail_laws.proofs.PlaceEffects.{Renamed, only_place, renames_folder}
use Rattle.mail_tree.specs.Step.{outcome}
use Rattle.mail_laws.proofs.law.renames_folder.Goals as goal

pub returns : goal.returns
unfolding outcome
returns c T f name w = let b = before T w in both_hold T (RenameFolder f name) w (Renamed T f.bits name) _ (renames_folder T f.bits name b)
    (λ o k r. (r.0, r.1, only_place T f.bits (Some r.0) o b k r.2, named T o f.bits name r.3))
