use Rattle.std.proofs.Common.{sym, subst}
use Rattle.file_layout.specs.Nodes.{node_tree}
use Rattle.file_layout.specs.Trees.{file_of}
use Rattle.copy_pieces.specs.declared.stops.CompactStop.{CompactStop}
use Rattle.copy_pieces.specs.Source.{HasTrees}
use Rattle.copy_pieces.specs.Stops.{StopsCopy}
use Rattle.copy_pieces.proofs.StopLaws.{tree-stops}
use Rattle.copy_pieces.proofs.source.read_nodes.Goals as goal

pub returns-in-Err-clause-stops : goal.returns-in-Err-clause-stops
returns-in-Err-clause-stops g c =
    let new = g.W.Outside.view c.read_tree.new.w in
    subst (λ (s : CompactStop). StopsCopy s new) (sym c.tree_stop.ensures) (tree-stops c.in-Err.stop new (λ told.
    let same = c.in-Err.ensures.same.stays in
    let trees = subst (HasTrees c.args.header.now) (sym (same.here told)) (c.requires (same.told told)) in
    (node_tree (file_of new.here) c.args.header.now.eof, c.args.header.now.nbt, trees.nodes, trees.node_pages, c.in-Err.ensures.refused told)))
