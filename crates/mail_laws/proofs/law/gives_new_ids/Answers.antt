use Rattle.mail_laws.proofs.GivenIds.{gives_new}
use Rattle.mail_laws.proofs.law.gives_new_ids.Goals as goal

pub returns : goal.returns
returns c T command = gives_new T command
