use Rattle.std.proofs.Common.{None}
use Rattle.command_text.specs.declared.command.Command.TheVariants.{RemoveMessage}
use Rattle.mail_laws.proofs.Effects.{Changes, only_message, removes}
use Rattle.mail_laws.proofs.LawSteps.{before, both_hold}
use Rattle.mail_tree.specs.Step.{outcome}
use Rattle.mail_laws.proofs.law.removes.Goals as goal

pub returns : goal.returns
unfolding outcome
returns c T m w = let b = before T w in both_hold T (RemoveMessage m) w (Changes T m.bits None) _ (removes T m.bits b) (λ o k r. only_message T m.bits None o b k r)
