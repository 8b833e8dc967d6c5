use Rattle.mail_session.proofs.looking.ReaderLineAnswerer.answer.Goals as goal

pub returns-clause-quiet : goal.returns-clause-quiet
returns-clause-quiet g c =
    let same = c.answer_look.ensures.same in
    record { counts = same.counts; told = same.stays.told; input = same.stays.input }
