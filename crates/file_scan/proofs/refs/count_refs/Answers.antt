use Rattle.std.proofs.Common.{◌∙◌, ℕ, List, sym, ap, subst, arith, get_or}
use Rattle.std.proofs.lemmas.List.{take_all}
use Rattle.btree_pages.specs.declared.entry.NodeEntry.{NodeEntry}
use Rattle.data_tree.specs.Keys.{count_of}
use Rattle.file_layout.specs.declared.stops.OpenStop.{OpenStop}
use Rattle.file_layout.proofs.Underway.{untouched_then}
use Rattle.node_reach.specs.Reach.{uses_of}
use Rattle.file_scan.specs.Parts.{NeverStops}
use Rattle.file_scan.proofs.NodeSteps.{holds-still}
use Rattle.file_scan.proofs.RefSteps.{uses-more, keys-stop}
use Rattle.file_scan.proofs.refs.count_refs.Goals as goal

abbrev no_node : NodeEntry
no_node = record { nid = record { bits = 0 }; content = record { bits = 0 }; subnodes = record { bits = 0 }; parent = record { bits = 0 } }

pub returns-in-Err-clause-stops : goal.returns-in-Err-clause-stops
returns-in-Err-clause-stops g c =
    let test = c.loop-node-test.true in
    let P : OpenStop → Type 0 = λ s. NeverStops s (g.W.Outside.view c.args.w.now) c.args.eof c.args.blocks.now c.args.nodes.now in
    subst P (sym c.stop_at.ensures)
    (keys-stop (g.W.Outside.view c.args.w.now) (g.W.Outside.view c.loop-node.w) c.args.eof c.args.blocks.now c.args.nodes.now c.loop-node.node-index no_node c.place_in.result (get_or c.args.nodes.now c.loop-node.node-index no_node).nid (omega (arith, test))
    c.loop-node.invariant.0 c.in-Err.stop c.in-Err.ensures.stops)

pub loop-node-preserved : goal.loop-node-preserved
loop-node-preserved g c =
    let test = c.loop-node-test.true in (
      untouched_then c.loop-node.invariant.0 c.in-Ok.ensures.same,
      λ find h key. ap (λ (ks : List ℕ). count_of key ks) c.in_ok-append-in-Ok.ensures.items
          ∙ uses-more find c.args.eof key c.args.nodes.now c.loop-node.node-index no_node c.loop-node.keys.items c.in-Ok.more.items (omega (arith, test)) (c.loop-node.invariant.1 find h key)
          (c.in-Ok.ensures.reads find (holds-still c.loop-node.invariant.0 h)),
    )

pub returns-clause-refs : goal.returns-clause-refs
returns-clause-refs g c = λ find h key.
    let test = c.loop-node-test.false in
    c.in_ok-count.ensures key ∙ c.loop-node.invariant.1 find h key ∙ ap (λ (es : List NodeEntry). uses_of find key es) (take_all c.loop-node.node-index c.args.nodes.now (omega (arith, test)))
