use Rattle.std.proofs.Common.{◌≡◌, ◌<◌, subst, arith}
use Rattle.line_server.specs.States.{state_of}
use Rattle.line_server.specs.Server.{SoFar, LINES}
use Rattle.line_server.proofs.ServerLaws.{started, goes_on, ends, ends_by_lines}
use Rattle.line_server.proofs.server.serve.Goals as goal

pub loop-count-init : goal.loop-count-init
loop-count-init g c = started g.W.Outside.view g.A.LineAnswerer.answers g.A.LineAnswerer.stops c.args.answerer.now c.args.world.now _ c.in_ok-server.ensures

pub loop-count-preserved : goal.loop-count-preserved
loop-count-preserved g c =
    goes_on g.W.Outside.view g.A.LineAnswerer.answers g.A.LineAnswerer.stops c.args.answerer.now c.loop-count.answerer c.turn.new.answerer c.args.world.now c.loop-count.world c.turn.new.world
    (state_of c.loop-count.server) (state_of c.turn.new.self) c.loop-count._count c.loop-count.invariant c.in_default.ensures

pub returns-in-Some-clause-ends : goal.returns-in-Some-clause-ends
returns-in-Some-clause-ends g c =
    let few : c.loop-count._count < LINES = c.loop-count-test.true in
    ends g.W.Outside.view g.A.LineAnswerer.answers g.A.LineAnswerer.stops c.args.answerer.now c.loop-count.answerer c.turn.new.answerer c.args.world.now c.loop-count.world c.turn.new.world
    (state_of c.loop-count.server) (state_of c.turn.new.self) c.loop-count._count c.in-Some.end few c.loop-count.invariant c.in-Some.ensures

pub returns-clause-ends : goal.returns-clause-ends
returns-clause-ends g c =
    let all : c.loop-count._count ≡ LINES = omega arith in
    ends_by_lines g.W.Outside.view g.A.LineAnswerer.answers g.A.LineAnswerer.stops c.args.answerer.now c.loop-count.answerer c.args.world.now c.loop-count.world (state_of c.loop-count.server)
    (subst (SoFar g.W.Outside.view g.A.LineAnswerer.answers g.A.LineAnswerer.stops c.args.answerer.now c.args.world.now c.loop-count.answerer c.loop-count.world (state_of c.loop-count.server)) all c.loop-count.invariant)
