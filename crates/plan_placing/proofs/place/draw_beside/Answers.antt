use Rattle.plan_placing.proofs.place.draw_beside.Goals as goal

pub returns-in-Some-clause-drawn : goal.returns-in-Some-clause-drawn
returns-in-Some-clause-drawn g c = rw c.in-Some.is c.draw.ensures.drawn

pub returns-in-None-clause-drawn : goal.returns-in-None-clause-drawn
returns-in-None-clause-drawn g c = rw c.in-None.is c.draw-in-None.ensures.drawn
