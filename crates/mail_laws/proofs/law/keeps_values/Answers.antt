use Rattle.mail_laws.proofs.KeptLaws.{keeps_values}
use Rattle.mail_laws.proofs.law.keeps_values.Goals as goal

pub returns : goal.returns
returns c = keeps_values
