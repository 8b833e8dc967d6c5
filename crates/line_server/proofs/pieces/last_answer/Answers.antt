use Rattle.std.proofs.Common.{refl}
use Rattle.line_server.proofs.Hearing.{quiet_started}
use Rattle.line_server.proofs.pieces.last_answer.Goals as goal

pub returns-then-long-clause-answers : goal.returns-then-long-clause-answers
returns-then-long-clause-answers g c = let long = c.if-long.true in rw long ((c.nothing.ensures.spoken, refl, refl), c.nothing.ensures.quit)

pub returns-then-long-clause-quiet : goal.returns-then-long-clause-quiet
returns-then-long-clause-quiet g c = quiet_started (g.W.Outside.view c.args.world.now)

pub returns-else-long-clause-answers : goal.returns-else-long-clause-answers
returns-else-long-clause-answers g c = let long = c.if-long.false in rw long c.reply_to.ensures.answers

pub returns-else-long-clause-stops : goal.returns-else-long-clause-stops
returns-else-long-clause-stops g c = let long = c.if-long.false in rw long c.reply_to.ensures.stops
