use Rattle.mail_objects.proofs.OneLaws.{one-context, one-mail, one-table}
use Rattle.mail_objects.proofs.law.one_object.Goals as goal

pub returns-clause-context : goal.returns-clause-context
returns-clause-context c = one-context

pub returns-clause-table : goal.returns-clause-table
returns-clause-table c = one-table

pub returns-clause-mail : goal.returns-clause-mail
returns-clause-mail c = one-mail
