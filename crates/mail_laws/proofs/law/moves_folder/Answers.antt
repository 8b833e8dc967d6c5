use Rattle.std.proofs.Common.{Some}
use Rattle.command_text.specs.declared.command.Command.TheVariants.{MoveFolder}
use Rattle.mail_laws.proofs.LawSteps.{before, both_hold}
use Rattle.mail_laws.proofs.PlaceEffects.{Placed, moves_folder, only_place}
use Rattle.mail_tree.specs.Folders.{place}
use Rattle.mail_tree.specs.Step.{outcome}
use Rattle.mail_laws.proofs.law.moves_folder.Goals as goal

pub returns : goal.returns
unfolding outcome
returns c T f parent w = let b = before T w in both_hold T (MoveFolder f parent) w (Placed T f.bits (Some (place f.bits parent.bits))) _ (moves_folder T f.bits parent.bits b)
    (λ o k r. only_place T f.bits (Some (place f.bits parent.bits)) o b k r)
