use Rattle.mail_objects.proofs.FaultLaws.{one-fault}
use Rattle.mail_objects.proofs.message.law.one_fault.Goals as goal

pub returns : goal.returns
returns c = one-fault
