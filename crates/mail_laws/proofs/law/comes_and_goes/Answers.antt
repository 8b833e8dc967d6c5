use Rattle.mail_laws.proofs.KeptLaws.{comes_and_goes}
use Rattle.mail_laws.proofs.law.comes_and_goes.Goals as goal

pub returns : goal.returns
returns c = comes_and_goes
