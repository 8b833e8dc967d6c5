use Rattle.std.proofs.Common.{Some}
use Rattle.command_text.specs.declared.command.Command.TheVariants.{MoveMessage}
use Rattle.mail_laws.proofs.Effects.{Moved, moves, only_message}
use Rattle.mail_laws.proofs.LawSteps.{before, both_hold, was_message}
use Rattle.mail_tree.specs.Messages.{in_folder}
use Rattle.mail_tree.specs.Step.{outcome}
use Rattle.mail_laws.proofs.law.moves.Goals as goal

pub returns : goal.returns
unfolding outcome
returns c T m folder w = let b = before T w in both_hold T (MoveMessage m folder) w (Moved T m.bits folder.bits) _ (moves T m.bits folder.bits b)
    (λ o k r. (r.0, was_message T m.bits r.0 r.1, only_message T m.bits (Some (in_folder folder.bits r.0)) o b k r.2))
