use Rattle.std.proofs.Common.{Some}
use Rattle.command_text.specs.declared.command.Command.TheVariants.{RemoveRecipient}
use Rattle.mail_laws.proofs.Effects.{only_message, removes_recipient}
use Rattle.mail_laws.proofs.LawSteps.{before, both_hold, was_message}
use Rattle.mail_tree.specs.Parts.{without_recipient}
use Rattle.mail_tree.specs.Step.{outcome}
use Rattle.mail_tree.specs.Values.{with_props}
use Rattle.mail_laws.proofs.law.removes_recipient.Goals as goal

pub returns : goal.returns
unfolding outcome
returns c T m row w = let b = before T w in both_hold T (RemoveRecipient m row) w _ _ (removes_recipient T m.bits row b)
    (λ o k r. (
      r.0,
      r.1,
      was_message T m.bits r.0 r.2,
      only_message T m.bits (Some (with_props r.1 (without_recipient row r.0))) o b k r.3,
      λ id no_flags no_size other. r.4 id no_flags no_size,
    ))
