use Rattle.mail_laws.proofs.LawSteps.{before}
use Rattle.mail_laws.proofs.NameEffects.{finds_name}
use Rattle.mail_tree.specs.Step.{outcome}
use Rattle.mail_laws.proofs.law.names_property.Goals as goal

pub returns : goal.returns
unfolding outcome
returns c T guid number w = finds_name T guid number (before T w)
