use Rattle.line_server.specs.Server.{SoFar}
use Rattle.line_server.specs.States.{state_of}
use Rattle.line_server.proofs.server.serve.Given as goal

abbrev pub invariant-loop-count : goal.invariant-loop-count
invariant-loop-count g l = SoFar g.W.Outside.view g.A.LineAnswerer.answers g.A.LineAnswerer.stops l.initial.answerer l.initial.world l.answerer l.world (state_of l.server) l._count
