use Rattle.mail_laws.proofs.LawSteps.{reads_only}
use Rattle.mail_laws.proofs.law.reads.Goals as goal

pub returns : goal.returns
returns c T command reads = reads_only T command reads
