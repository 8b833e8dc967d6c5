use Rattle.std.proofs.Common.{Some, ◌∙◌}
use Rattle.command_text.specs.declared.command.Command.TheVariants.{SetProperty}
use Rattle.mail_laws.proofs.Effects.{only_message, sets}
use Rattle.mail_tree.proofs.KeyedFinds.{find-put_other, find-put_same}
use Rattle.mail_laws.proofs.LawSteps.{before, both_hold, was_message}
use Rattle.mail_tree.specs.Step.{outcome}
use Rattle.mail_tree.specs.Values.{with_props}
use Rattle.mail_laws.proofs.law.sets.Goals as goal

pub returns : goal.returns
unfolding outcome
returns c T m v w = let b = before T w in both_hold T (SetProperty m v) w _ _ (sets T m.bits v b)
    (λ o k r. (
      r.0.0,
      r.0.1,
      was_message T m.bits r.0.0 r.0.2,
      only_message T m.bits (Some (with_props r.0.1 r.0.0)) o b k r.0.3,
      λ no_flags. r.0.4 v.id no_flags r.1 ∙ find-put_same (λ x. x.id) v r.0.0.props,
      λ id no_flags no_size other. r.0.4 id no_flags no_size ∙ find-put_other (λ x. x.id) id v r.0.0.props other,
    ))
