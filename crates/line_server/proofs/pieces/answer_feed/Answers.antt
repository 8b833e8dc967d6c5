use Rattle.std.proofs.Common.{false}
use Rattle.line_server.proofs.Answered.{fed, passed, stopped}
use Rattle.line_server.proofs.pieces.answer_feed.Goals as goal

pub returns-clause-answers : goal.returns-clause-answers
returns-clause-answers g c =
    passed g.W.Outside.view g.A.LineAnswerer.answers false _ _ c.args.world.now c.ending_answer-answer.new.world _ _ _ _ _ c.ending_answer-answer.result
    (fed _ _ c.held-held.result.now _ c.args.feed c.held-held.ensures.value c.pass.ensures c.held-held.ensures.few c.requires.0 c.requires.1 c.requires.2)
    c.ending_answer-answer.ensures.quiet c.ending_answer-answer.ensures.answers

pub returns-clause-stops : goal.returns-clause-stops
returns-clause-stops g c =
    stopped g.W.Outside.view g.A.LineAnswerer.stops false _ _ c.args.world.now c.ending_answer-answer.new.world _ _ _ _ _ c.ending_answer-answer.result
    (fed _ _ c.held-held.result.now _ c.args.feed c.held-held.ensures.value c.pass.ensures c.held-held.ensures.few c.requires.0 c.requires.1 c.requires.2)
    c.ending_answer-answer.ensures.quiet c.ending_answer-answer.ensures.stops
