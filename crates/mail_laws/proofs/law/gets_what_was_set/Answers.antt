use Rattle.std.proofs.Common.{◌∙◌}
use Rattle.command_text.specs.declared.command.Command.TheVariants.{SetProperty}
use Rattle.mail_laws.proofs.Effects.{sets}
use Rattle.mail_tree.proofs.KeyedFinds.{find-put_same}
use Rattle.mail_laws.proofs.LawSteps.{before, both_hold}
use Rattle.mail_laws.proofs.LawSteps.{gets}
use Rattle.mail_tree.specs.Step.{outcome}
use Rattle.mail_tree.specs.Values.{with_props}
use Rattle.mail_laws.proofs.law.gets_what_was_set.Goals as goal

pub returns : goal.returns
unfolding outcome
returns c T m v w no_flags = let b = before T w in both_hold T (SetProperty m v) w _ _ (sets T m.bits v b)
    (λ o k r. gets T o m.bits v (with_props r.0.1 r.0.0) k r.0.3.here (r.0.4 v.id no_flags r.1 ∙ find-put_same (λ x. x.id) v r.0.0.props))
