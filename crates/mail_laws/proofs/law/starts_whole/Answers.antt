use Rattle.mail_laws.proofs.Starting.{starts_whole}
use Rattle.mail_laws.proofs.law.starts_whole.Goals as goal

pub returns : goal.returns
returns c = starts_whole
