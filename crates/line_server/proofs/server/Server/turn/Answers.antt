use Rattle.line_server.specs.States.{state_of}
use Rattle.line_server.proofs.StepLaws.{answered_turn, stopped_turn}
use Rattle.line_server.proofs.server.Server.turn.Goals as goal

pub returns-in-Ok-Some : goal.returns-in-Ok-Some
returns-in-Ok-Some g c =
    answered_turn g.W.Outside.view g.A.LineAnswerer.answers g.A.LineAnswerer.stops c.next_front.new.ended (state_of c.args.self.now) (state_of c.answer.new.self) c.next_front.new.lines
    c.args.answerer.now c.answer.new.answerer c.args.world.now c.next_front.new.world c.answer.new.world c.speak.new.world c.in-Ok-Some.answer c.speak.result
    c.answer.ensures.ended c.next_front.ensures.held c.next_front.ensures.ends c.next_front.ensures.same (rw c.in-Ok-Some.field-0-is at c.in-Ok-Some.ensures.answers) c.speak.ensures

pub returns-in-Err-answer : goal.returns-in-Err-answer
returns-in-Err-answer g c =
    stopped_turn g.W.Outside.view g.A.LineAnswerer.answers g.A.LineAnswerer.stops c.next_front.new.ended (state_of c.args.self.now) (state_of c.answer.new.self) c.next_front.new.lines
    c.args.answerer.now c.answer.new.answerer c.args.world.now c.next_front.new.world c.answer.new.world c.in-Err-answer.stop
    c.answer.ensures.ended c.next_front.ensures.held c.next_front.ensures.ends c.next_front.ensures.same c.in-Err-answer.ensures.answers
