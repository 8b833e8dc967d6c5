use Rattle.mail_laws.proofs.KeptLaws.{leaves_searches}
use Rattle.mail_laws.proofs.law.leaves_searches.Goals as goal

pub returns : goal.returns
returns c = leaves_searches
