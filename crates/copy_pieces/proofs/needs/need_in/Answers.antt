use Rattle.std.proofs.Common.{sym, subst, refl}
use Rattle.copy_pieces.specs.declared.stops.CompactStop.{CompactStop}
use Rattle.copy_pieces.specs.Stops.{StopsNode}
use Rattle.copy_pieces.proofs.StopLaws.{node-stop}
use Rattle.copy_pieces.proofs.needs.need_in.Goals as goal

pub returns-in-Err-clause-stops : goal.returns-in-Err-clause-stops
returns-in-Err-clause-stops g c =
    subst (λ (s : CompactStop). StopsNode s (g.W.Outside.view c.args.s.now.world.now) c.args.s.now.eof c.args.s.now.entries.now c.args.node) (sym c.need_stop.ensures)
    (node-stop c.in-Err.stop _ _ (g.W.Outside.view c.args.s.now.world.now) c.args.s.now.eof c.args.s.now.entries.now c.args.node (λ find h. h) refl c.in-Err.ensures.stops)
