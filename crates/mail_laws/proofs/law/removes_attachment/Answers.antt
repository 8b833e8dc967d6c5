use Rattle.std.proofs.Common.{Some}
use Rattle.command_text.specs.declared.command.Command.TheVariants.{RemoveAttachment}
use Rattle.mail_laws.proofs.Effects.{only_message, removes_attachment}
use Rattle.mail_laws.proofs.LawSteps.{before, both_hold, was_message}
use Rattle.mail_tree.specs.Parts.{without_attachment}
use Rattle.mail_tree.specs.Step.{outcome}
use Rattle.mail_tree.specs.Values.{with_props}
use Rattle.mail_laws.proofs.law.removes_attachment.Goals as goal

pub returns : goal.returns
unfolding outcome
returns c T m n w = let b = before T w in both_hold T (RemoveAttachment m n) w _ _ (removes_attachment T m.bits n.bits b)
    (λ o k r. (
      r.0,
      r.1,
      was_message T m.bits r.0 r.2,
      only_message T m.bits (Some (with_props r.1 (without_attachment n.bits r.0))) o b k r.3,
      λ id no_flags no_size other. r.4 id no_flags no_size,
    ))
