use Rattle.mail_laws.proofs.Strays.{whole_after}
use Rattle.mail_laws.proofs.law.stays_whole.Goals as goal

pub returns : goal.returns
returns c T command w = whole_after T command w
