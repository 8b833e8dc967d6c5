use Rattle.std.proofs.Common.{get_or, arith}
use Rattle.std.proofs.lemmas.List.{drop_all}
use Rattle.std.proofs.lemmas.Result.{err_from_is_err_and}
use Rattle.btree_pages.specs.declared.entry.NodeEntry.{NodeEntry}
use Rattle.file_layout.proofs.Underway.{untouched_then}
use Rattle.file_pages.proofs.SourceLaws.{untouched-same}
use Rattle.file_scan.proofs.NodeSteps.{holds-still}
use Rattle.copy_part.proofs.Keeping.{rose_late}
use Rattle.copy_pieces.proofs.StopLaws.{look-stop, node-next, none-need}
use Rattle.copy_pieces.proofs.needs.most_need.Goals as goal

abbrev no_node : NodeEntry
no_node = record { nid = record { bits = 0 }; content = record { bits = 0 }; subnodes = record { bits = 0 }; parent = record { bits = 0 } }

pub returns-in_err-need-clause-stops : goal.returns-in_err-need-clause-stops
returns-in_err-need-clause-stops g c =
    let p = err_from_is_err_and c.from_residual.result c.from_residual.ensures.1 in
    let test = c.loop-node-test.true in
    let i = c.loop-node.node-index in
    let nodes = c.args.nodes.now in
    let inv = c.loop-node.invariant in
    rw (p.1, p.2) (look-stop c.in_err-need.field-0.0 (g.W.Outside.view c.args.w.now) (g.W.Outside.view c.loop-node.w) c.args.eof c.args.blocks.now nodes (get_or nodes i no_node)
    (λ find are told is.
    let left = inv.need find are told is in
    let next = node-next find c.args.eof nodes are left.0 c.loop-node.most i no_node (omega (arith, test)) left.1 left.2 in
    (next.node, next.is, holds-still inv.same told)) c.in_err-need.ensures.stops)

pub returns-in_err-need-clause-fault : goal.returns-in_err-need-clause-fault
returns-in_err-need-clause-fault g c =
    let p = err_from_is_err_and c.from_residual.result c.from_residual.ensures.1 in
    λ is. rose_late c.loop-node.invariant.same.counts _ (c.in_err-need.ensures.fault (cc (is, p.1, p.2)))

pub returns-in_err-need-clause-same : goal.returns-in_err-need-clause-same
returns-in_err-need-clause-same g c = untouched_then c.loop-node.invariant.same c.in_err-need.ensures.same

pub loop-node-init : goal.loop-node-init
loop-node-init g c = record { same = untouched-same (g.W.Outside.view c.args.w.now); need = λ find are told is. (are, is, omega arith) }

pub loop-node-preserved : goal.loop-node-preserved
loop-node-preserved g c =
    let test = c.loop-node-test.true in
    let i = c.loop-node.node-index in
    let nodes = c.args.nodes.now in
    let inv = c.loop-node.invariant in
    record {
      same = untouched_then inv.same c.in_ok-need.ensures.same;
      need = λ find are told is.
          let left = inv.need find are told is in
          let next = node-next find c.args.eof nodes are left.0 c.loop-node.most i no_node (omega (arith, test)) left.1 left.2 in
          let own = c.in_ok-need.ensures.need find next.node (holds-still inv.same told) next.is in
          let most = c.max-most.ensures in
          let all = next.need in
          (next.rest, next.others, omega (arith, own, most, all));
    }

pub returns-clause-need : goal.returns-clause-need
returns-clause-need g c = λ find are told is.
    let test = c.loop-node-test.false in
    let left = c.loop-node.invariant.need find are told is in
    let none = none-need find c.args.eof left.0 (drop_all c.loop-node.node-index c.args.nodes.now (omega (arith, test))) left.1 in
    let all = left.2 in
    omega (arith, none, all)
