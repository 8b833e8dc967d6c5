use Rattle.list_check.specs.Watching.{watches_of}
use Rattle.list_check.proofs.Steps.{message_told}
use Rattle.list_check.proofs.passing.stale_at.Goals as goal

pub returns-clause-answer : goal.returns-clause-answer
returns-clause-answer g c = λ T s e. message_told T c.args.places.now (watches_of c.args.watched.now) c.args.id.bits c.in_ok-mail.mail _ c.stale_of.result e (c.in_ok-mail.ensures.answer T s) c.message.ensures.message c.stale_of.ensures
