use Rattle.std.proofs.Common.{refl}
use Rattle.mail_messages.specs.Reading.{value_at}
use Rattle.mail_messages.proofs.reading.told_reply.Goals as goal

pub returns-in-Held-clause-answer : goal.returns-in-Held-clause-answer
returns-in-Held-clause-answer g c = λ T s M here told. c.held_reply.ensures.answer M.props (rw c.in-Held.is at told)

pub returns-in-Absent-clause-answer : goal.returns-in-Absent-clause-answer
returns-in-Absent-clause-answer g c = λ T s M here told. let none = rw c.in-Absent.is at told in rw none refl

pub returns-in-Below-clause-answer : goal.returns-in-Below-clause-answer
unfolding value_at
returns-in-Below-clause-answer g c = λ T s M here told. rw here at (c.whole_reply.ensures.answer.says T s)
