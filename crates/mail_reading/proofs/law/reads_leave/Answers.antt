use Rattle.mail_reading.proofs.ReadLaws.{reads_leave}
use Rattle.mail_reading.proofs.law.reads_leave.Goals as goal

pub returns : goal.returns
returns c = reads_leave
