use Rattle.mail_laws.proofs.Beginning.{beginning, begins}
use Rattle.mail_laws.proofs.law.some_is_whole.Goals as goal

pub returns : goal.returns
returns c = (beginning, begins.0, begins.1, begins.2)
