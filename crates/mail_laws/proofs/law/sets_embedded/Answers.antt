use Rattle.std.proofs.Common.{Some}
use Rattle.command_text.specs.declared.command.Command.TheVariants.{SetEmbedded}
use Rattle.mail_laws.proofs.Effects.{only_message, sets_embedded}
use Rattle.mail_laws.proofs.LawSteps.{before, both_hold, was_message}
use Rattle.mail_tree.specs.Parts.{part_holding, with_part}
use Rattle.mail_tree.specs.Step.{outcome}
use Rattle.mail_tree.specs.Values.{with_props}
use Rattle.mail_laws.proofs.law.sets_embedded.Goals as goal

pub returns : goal.returns
unfolding outcome
returns c T m n node w = let b = before T w in both_hold T (SetEmbedded m n node) w _ _ (sets_embedded T m.bits n.bits node b)
    (λ o k r. let M = r.1.0 in let props = r.1.1 in let part = r.0 in (
      M,
      part,
      props,
      was_message T m.bits M r.1.2,
      r.2,
      only_message T m.bits (Some (with_props props (with_part (part_holding node part) M))) o b k r.1.3,
      λ id no_flags no_size other. r.1.4 id no_flags no_size,
    ))
