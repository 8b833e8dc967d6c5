use Rattle.std.proofs.Common.{ap}
use Rattle.mail_objects.specs.Message.{is_formed}
use Rattle.mail_objects.proofs.OneMessage.{same-message}
use Rattle.mail_objects.proofs.read.read_mail.Goals as goal

pub returns-else-is_formed : goal.returns-else-is_formed
returns-else-is_formed c = λ m s.
    let same = same-message c.args.nid.bits c.args.node.now m c.in-Ok.message s.message c.in-Ok.ensures in
    let formed = ap is_formed same in
    cc (s.formed, formed, c.is_formed.ensures, c.if-is_formed.false)

pub returns-in-Err-Refused : goal.returns-in-Err-Refused
returns-in-Err-Refused c = λ m s. (rw c.in-Err-Refused.field-0-is at c.in-Err-Refused.ensures).1 m s.message
