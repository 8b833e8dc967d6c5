use Rattle.std.proofs.Common.{◌+◌, sym, subst, arith}
use Rattle.btree_pages.specs.declared.entry.NodeEntry.{NodeEntry}
use Rattle.file_layout.specs.declared.stops.OpenStop.{OpenStop}
use Rattle.file_scan.specs.Parts.{StopsAtNodes}
use Rattle.file_scan.proofs.NodeSteps.{Lining, lining-next, lining-end, stops-nodes, holds-still}
use Rattle.file_layout.proofs.Underway.{untouched_then}
use Rattle.file_scan.proofs.nodes.node_lines.Goals as goal

abbrev no_node : NodeEntry
no_node = record { nid = record { bits = 0 }; content = record { bits = 0 }; subnodes = record { bits = 0 }; parent = record { bits = 0 } }

pub returns-in-Err-clause-stops : goal.returns-in-Err-clause-stops
returns-in-Err-clause-stops g c =
    let test = c.loop-node-test.true in
    let P : OpenStop → Type 0 = λ s. StopsAtNodes s (g.W.Outside.view c.args.w.now) c.args.eof c.args.blocks.now c.args.nodes.now in
    subst P (sym c.stop_at.ensures)
    (stops-nodes (g.W.Outside.view c.args.w.now) (g.W.Outside.view c.loop-node.w) c.args.eof c.args.blocks.now c.args.nodes.now c.loop-node.node-index no_node c.loop-node.lines.items c.place_in.result (omega (arith, test))
    c.loop-node.invariant.0 c.loop-node.invariant.1 c.in-Err.stop c.place_in.ensures c.in-Err.ensures.stops)

pub loop-node-preserved : goal.loop-node-preserved
loop-node-preserved g c =
    let test = c.loop-node-test.true in (
      untouched_then c.loop-node.invariant.0 c.in-Ok.ensures.same,
      λ find h. subst (Lining find c.args.eof c.args.nodes.now (c.loop-node.node-index + 1)) (sym c.in_ok-push-in-Ok.ensures.items)
          (lining-next find c.args.eof c.args.nodes.now c.loop-node.node-index no_node c.loop-node.lines.items c.in-Ok.line (omega (arith, test)) (c.loop-node.invariant.1 find h)
          (c.in-Ok.ensures.line find (holds-still c.loop-node.invariant.0 h))),
    )

pub returns-clause-lines : goal.returns-clause-lines
returns-clause-lines g c = λ find h.
    let test = c.loop-node-test.false in
    lining-end find c.args.eof c.args.nodes.now c.loop-node.node-index c.loop-node.lines.items (omega (arith, test)) (c.loop-node.invariant.1 find h)
