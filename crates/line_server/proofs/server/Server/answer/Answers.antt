use Rattle.line_server.proofs.Answered.{overlong}
use Rattle.line_server.proofs.server.Server.answer.Goals as goal

pub returns-in-Overlong-clause-answers : goal.returns-in-Overlong-clause-answers
returns-in-Overlong-clause-answers g c = overlong g.W.Outside.view g.A.LineAnswerer.answers c.args.self.now.ended c.args.answerer.now c.args.world.now c.answer_overlong-answer.ensures
