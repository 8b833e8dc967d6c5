use Rattle.staged_store.proofs.viewing.list.Goals as goal

pub returns-clause-answer : goal.returns-clause-answer
returns-clause-answer g c = λ base tidy U held is. c.list_keeping-keeper.ensures.answer base tidy U.nodes U.now held is.has

pub returns-clause-underway : goal.returns-clause-underway
returns-clause-underway g c = λ base tidy U held is. record { has = is.has; shows = is.shows }

pub returns-clause-stays : goal.returns-clause-stays
returns-clause-stays g c = λ base tidy U held is. c.list_keeping-keeper.ensures.stays base tidy U.nodes U.now held is.has
