use Rattle.mail_session.proofs.InfoLaws.{says_whole, says_front}
use Rattle.mail_session.proofs.info.say.Goals as goal

pub returns-in-Ok : goal.returns-in-Ok
returns-in-Ok g c = says_whole c.say_all.ensures.counts c.say_all.ensures.content c.say_all.ensures.any_moment c.in-Ok.ensures.said

pub returns-in-Err : goal.returns-in-Err
returns-in-Err g c = says_front c.say_all.ensures.counts c.say_all.ensures.content c.say_all.ensures.any_moment c.in-Err.ensures.cause c.in-Err.ensures.said_err
