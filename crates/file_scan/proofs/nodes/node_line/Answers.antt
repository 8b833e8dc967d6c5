use Rattle.std.proofs.Common.{ℕ, sym, ap, ◌∙◌}
use Rattle.std.proofs.lemmas.Result.{err_from_is_err_and}
use Rattle.data_tree.specs.Measure.{measured}
use Rattle.data_tree.specs.Tree.{blocks_of}
use Rattle.subnode_tree.specs.Counts.{counted}
use Rattle.subnode_tree.specs.Subnodes.{subs_of}
use Rattle.file_layout.specs.Nodes.{node_at}
use Rattle.file_scan.proofs.NodeSteps.{stops-through, line-is, first-fault, second-fault}
use Rattle.file_scan.proofs.nodes.node_line.Goals as goal

pub returns-in_err-bytes-clause-stops : goal.returns-in_err-bytes-clause-stops
returns-in_err-bytes-clause-stops g c =
    let p = err_from_is_err_and c.from_residual.result c.from_residual.ensures.1 in
    rw (p.1, p.2) (stops-through (g.W.Outside.view c.args.w.now) (g.W.Outside.view c.args.w.now) c.args.eof c.args.eof c.args.blocks.now c.args.blocks.now
    (λ find. measured (blocks_of find c.args.eof c.args.node.content)) (λ find. node_at find c.args.eof c.args.node) (λ find h. h)
    (λ find h fault e. first-fault find c.args.eof c.args.node fault e) c.in_err-bytes.field-0.0 c.in_err-bytes.ensures.stops)

pub returns-in_err-subs-clause-stops : goal.returns-in_err-subs-clause-stops
returns-in_err-subs-clause-stops g c =
    let p = err_from_is_err_and c.from_residual-in_err-subs.result c.from_residual-in_err-subs.ensures.1 in
    let asks = c.in_ok-bytes.ensures.asks in
    rw (p.1, p.2) (stops-through (g.W.Outside.view c.args.w.now) (g.W.Outside.view c.data_len.new.s.world.now) c.args.eof c.data_len.new.s.eof c.args.blocks.now c.data_len.new.s.entries.now
    (λ find. counted (subs_of find c.data_len.new.s.eof c.args.node.subnodes)) (λ find. node_at find c.args.eof c.args.node) asks.told
    (λ find h fault e. second-fault find c.args.eof c.args.node c.in_ok-bytes.bytes fault (c.in_ok-bytes.ensures.reads find h)
    (ap (λ (n : ℕ). counted (subs_of find n c.args.node.subnodes)) (sym asks.eof_is) ∙ e)) c.in_err-subs.field-0.0 c.in_err-subs.ensures.stops)

pub returns-clause-line : goal.returns-clause-line
returns-clause-line g c = λ find h.
    let asks = c.in_ok-bytes.ensures.asks in
    line-is find c.args.eof c.args.node c.in_ok-bytes.bytes c.in_ok-subs.subs (c.in_ok-bytes.ensures.reads find h)
    (ap (λ (n : ℕ). counted (subs_of find n c.args.node.subnodes)) (sym asks.eof_is) ∙ c.in_ok-subs.ensures.reads find (asks.told find h))
