use Rattle.mail_objects.proofs.OneMessage.{same-message}
use Rattle.mail_objects.proofs.message.law.one_message.Goals as goal

pub returns : goal.returns
returns c = same-message
