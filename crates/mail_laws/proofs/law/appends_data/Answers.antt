use Rattle.std.proofs.Common.{Some, ◌++◌}
use Rattle.command_text.specs.declared.command.Command.TheVariants.{AppendData}
use Rattle.mail_laws.proofs.Effects.{appends_data, only_message}
use Rattle.mail_laws.proofs.LawSteps.{before, both_hold, was_message}
use Rattle.mail_tree.specs.Parts.{part_with, with_bytes, with_part}
use Rattle.mail_tree.specs.Step.{outcome}
use Rattle.mail_tree.specs.Values.{with_props}
use Rattle.mail_laws.proofs.law.appends_data.Goals as goal

pub returns : goal.returns
unfolding outcome
returns c T m n bytes w = let b = before T w in both_hold T (AppendData m n bytes) w _ _ (appends_data T m.bits n.bits bytes b)
    (λ o k r. let M = r.1.0 in let props = r.1.1 in let part = r.0.0 in let old = r.0.1 in (
      M,
      part,
      old,
      props,
      was_message T m.bits M r.1.2,
      r.2.0,
      r.2.1,
      only_message T m.bits (Some (with_props props (with_part (part_with (with_bytes (old ++ bytes) part.props) part) M))) o b k r.1.3,
      λ id no_flags no_size other. r.1.4 id no_flags no_size,
    ))
