use Rattle.std.proofs.Common.{◌-◌, ◌+◌, length, cond}
use Rattle.line_server.specs.Worlds.{Listens}
use Rattle.line_server.specs.Fronts.{StandsAt}
use Rattle.line_server.specs.Taking.{GoesOn, EndsIn}
use Rattle.line_server.proofs.input.next_front.Given as goal

abbrev pub invariant-loop-front : goal.invariant-loop-front
invariant-loop-front g l = record {
  held : GoesOn l.initial.ended l.initial.lines l.lines (g.W.Outside.view l.initial.world) (g.W.Outside.view l.world);
  ends : EndsIn l.initial.ended l.ended (g.W.Outside.view l.initial.world) (g.W.Outside.view l.world);
  same : Listens (g.W.Outside.view l.initial.world) (g.W.Outside.view l.world);
  stands : StandsAt l.front l.lines;
}

abbrev pub decreases-loop-front : goal.decreases-loop-front
decreases-loop-front g l = (1048577 - length l.lines) + cond l.ended 0 1
