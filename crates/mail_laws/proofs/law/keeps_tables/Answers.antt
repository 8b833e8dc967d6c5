use Rattle.mail_laws.proofs.KeptLaws.{keeps_tables}
use Rattle.mail_laws.proofs.law.keeps_tables.Goals as goal

pub returns : goal.returns
returns c = keeps_tables
