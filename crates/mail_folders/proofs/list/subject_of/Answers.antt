use Rattle.mail_folders.specs.Pieces.{read_subject}
use Rattle.mail_folders.proofs.list.subject_of.Goals as goal

pub returns-in-Some-clause-answer : goal.returns-in-Some-clause-answer
returns-in-Some-clause-answer g c = λ T s m here told.
    let tells = rw c.in-Some.is at c.in_ok-told.ensures in
    tells 0x0037 m.props told

pub returns-in-None-clause-answer : goal.returns-in-None-clause-answer
unfolding read_subject
returns-in-None-clause-answer g c = λ T s m here told. rw here at (c.read_subject.ensures.answer.says T s)
