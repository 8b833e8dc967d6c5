use Rattle.std.proofs.Common.{true}
use Rattle.line_server.proofs.Answered.{ended, passed, stopped}
use Rattle.line_server.proofs.pieces.answer_last.Goals as goal

pub returns-clause-answers : goal.returns-clause-answers
returns-clause-answers g c =
    passed g.W.Outside.view g.A.LineAnswerer.answers true _ _ c.args.world.now c.last_answer-answer.new.world _ _ _ _ _ c.last_answer-answer.result
    (ended _ _ c.held-held.result.now _ c.held-held.ensures.value c.pass.ensures c.requires.stands.0 c.requires.stands.1 c.requires.some)
    c.last_answer-answer.ensures.quiet c.last_answer-answer.ensures.answers

pub returns-clause-stops : goal.returns-clause-stops
returns-clause-stops g c =
    stopped g.W.Outside.view g.A.LineAnswerer.stops true _ _ c.args.world.now c.last_answer-answer.new.world _ _ _ _ _ c.last_answer-answer.result
    (ended _ _ c.held-held.result.now _ c.held-held.ensures.value c.pass.ensures c.requires.stands.0 c.requires.stands.1 c.requires.some)
    c.last_answer-answer.ensures.quiet c.last_answer-answer.ensures.stops
