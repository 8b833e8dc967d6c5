use Rattle.std.proofs.Common.{Some}
use Rattle.command_text.specs.declared.command.Command.TheVariants.{AddRecipient}
use Rattle.mail_laws.proofs.Effects.{adds_recipient, only_message}
use Rattle.mail_laws.proofs.LawSteps.{before, both_hold, was_message}
use Rattle.mail_tree.specs.Parts.{recipient_props, with_recipient}
use Rattle.mail_tree.specs.Step.{outcome}
use Rattle.mail_tree.specs.Values.{with_props}
use Rattle.mail_laws.proofs.law.adds_recipient.Goals as goal

pub returns : goal.returns
unfolding outcome
returns c T m kind address name w = let b = before T w in both_hold T (AddRecipient m kind address name) w _ _ (adds_recipient T m.bits kind address name b)
    (λ o k r. let M = r.1.0 in let props = r.1.1 in (
      M,
      r.0,
      props,
      was_message T m.bits M r.1.2,
      only_message T m.bits (Some (with_props props (with_recipient r.0 (recipient_props kind address name) M))) o b k r.1.3,
      r.2,
      r.3,
      λ id no_flags no_size other. r.1.4 id no_flags no_size,
    ))
