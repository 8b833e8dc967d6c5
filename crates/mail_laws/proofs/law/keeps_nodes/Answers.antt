use Rattle.mail_laws.proofs.KeptLaws.{keeps_nodes}
use Rattle.mail_laws.proofs.law.keeps_nodes.Goals as goal

pub returns : goal.returns
returns c = keeps_nodes
