use Rattle.std.proofs.Common.{Some}
use Rattle.command_text.specs.declared.command.Command.TheVariants.{AddAttachment}
use Rattle.mail_laws.proofs.Effects.{adds_attachment, only_message}
use Rattle.mail_laws.proofs.LawSteps.{before, both_hold, was_message}
use Rattle.mail_tree.specs.Parts.{new_part, with_attachment}
use Rattle.mail_tree.specs.Step.{outcome}
use Rattle.mail_tree.specs.Values.{with_props}
use Rattle.mail_laws.proofs.law.adds_attachment.Goals as goal

pub returns : goal.returns
unfolding outcome
returns c T m name held w = let b = before T w in both_hold T (AddAttachment m name held) w _ _ (adds_attachment T m.bits name held b)
    (λ o k r. let M = r.1.0 in let props = r.1.1 in (
      M,
      r.0,
      props,
      was_message T m.bits M r.1.2,
      only_message T m.bits (Some (with_props props (with_attachment (new_part r.0 name held) M))) o b k r.1.3,
      r.2,
      r.3,
      λ id no_flags no_size other. r.1.4 id no_flags no_size,
    ))
