use Rattle.std.proofs.Common.{Some, ◌∙◌}
use Rattle.command_text.specs.declared.command.Command.TheVariants.{UnsetProperty}
use Rattle.mail_laws.proofs.Effects.{only_message, unsets}
use Rattle.mail_tree.proofs.KeyedFinds.{find-drop_other, find-drop_same}
use Rattle.mail_laws.proofs.LawSteps.{before, both_hold, was_message}
use Rattle.mail_tree.specs.Step.{outcome}
use Rattle.mail_tree.specs.Values.{with_props}
use Rattle.mail_laws.proofs.law.unsets.Goals as goal

pub returns : goal.returns
unfolding outcome
returns c T m tag w = let b = before T w in both_hold T (UnsetProperty m tag) w _ _ (unsets T m.bits tag b)
    (λ o k r. (
      r.0.0,
      r.0.1,
      was_message T m.bits r.0.0 r.0.2,
      only_message T m.bits (Some (with_props r.0.1 r.0.0)) o b k r.0.3,
      λ ascend. r.0.4 tag.id r.1 r.2 ∙ find-drop_same (λ x. x.id) 0 tag.id r.0.0.props ascend,
      λ id no_flags no_size other. r.0.4 id no_flags no_size ∙ find-drop_other (λ x. x.id) id tag.id r.0.0.props other,
    ))
