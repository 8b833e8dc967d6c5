use Rattle.store_session.proofs.carrying.carry_out.Goals as goal

pub returns-in-Save-clause-carries : goal.returns-in-Save-clause-carries
returns-in-Save-clause-carries g c = rw c.in-Save.is (λ tidy X h tells. c.carry_save.ensures.carries tidy X h tells)
