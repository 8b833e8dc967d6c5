use Rattle.std.proofs.Common.{refl, sym, ap, ◌∙◌, arith}
use Rattle.std.proofs.lemmas.Result.{err_from_is_err_and}
use Rattle.data_tree.specs.Tree.{blocks_of}
use Rattle.subnode_tree.specs.Subnodes.{subs_of}
use Rattle.file_layout.specs.Nodes.{node_at}
use Rattle.file_pages.specs.declared.search.FileTree.{FileTree}
use Rattle.node_store.proofs.BlockLaws.{asks-same, asks-then, stops-through}
use Rattle.node_store.proofs.NodeLaws.{data-fault, node-made, subs-fault}
use Rattle.node_store.proofs.content.node_of.Goals as goal

pub returns-in_err-blocks-clause-stops : goal.returns-in_err-blocks-clause-stops
returns-in_err-blocks-clause-stops g c =
    let p = err_from_is_err_and c.from_residual.result c.from_residual.ensures.1 in
    rw (p.1, p.2) (stops-through (g.W.Outside.view c.args.s.now.world.now) (g.W.Outside.view c.args.s.now.world.now) (g.W.Outside.view c.data_in.new.s.world.now) c.args.s.now.tree c.args.s.now.tree c.args.s.now.cache.now c.args.s.now.cache.now
    (λ find. blocks_of find c.args.s.now.tree.eof c.args.entry.content) (λ find. node_at find c.args.s.now.tree.eof c.args.entry) (omega arith) (λ find h. h)
    (λ find h fault e. data-fault find c.args.s.now.tree.eof c.args.entry fault e) c.in_err-blocks.field-0.0 c.in_err-blocks.ensures.stops)

pub returns-in_err-subs-clause-stops : goal.returns-in_err-subs-clause-stops
returns-in_err-subs-clause-stops g c =
    let p = err_from_is_err_and c.from_residual-in_err-subs.result c.from_residual-in_err-subs.ensures.1 in
    let asks = c.data_in.ensures.asks in
    rw (p.1, p.2) (stops-through (g.W.Outside.view c.args.s.now.world.now) (g.W.Outside.view c.data_in.new.s.world.now) (g.W.Outside.view c.subs_in.new.s.world.now) c.args.s.now.tree c.data_in.new.s.tree c.args.s.now.cache.now c.data_in.new.s.cache.now
    (λ find. subs_of find c.data_in.new.s.tree.eof c.args.entry.subnodes) (λ find. node_at find c.args.s.now.tree.eof c.args.entry) asks.same.counts.disk_faults asks.told
    (λ find h fault e. subs-fault find c.args.s.now.tree.eof c.args.entry c.in_ok-blocks.blocks fault (c.in_ok-blocks.ensures.reads find h)
    (ap (λ (t : FileTree). subs_of find t.eof c.args.entry.subnodes) (sym asks.tree) ∙ e)) c.in_err-subs.field-0.0 c.in_err-subs.ensures.stops)

pub returns-in_err-subs-clause-names : goal.returns-in_err-subs-clause-names
returns-in_err-subs-clause-names g c = (c.subs_in.ensures.names.0 ∙ c.data_in.ensures.names.0, c.subs_in.ensures.names.1 ∙ c.data_in.ensures.names.1)

pub returns-clause-names : goal.returns-clause-names
returns-clause-names g c = (c.subs_in.ensures.names.0 ∙ c.data_in.ensures.names.0, c.subs_in.ensures.names.1 ∙ c.data_in.ensures.names.1)

pub returns-in_err-blocks-clause-asks : goal.returns-in_err-blocks-clause-asks
returns-in_err-blocks-clause-asks g c = asks-same c.data_in.ensures.asks

pub returns-in_err-subs-clause-asks : goal.returns-in_err-subs-clause-asks
returns-in_err-subs-clause-asks g c = asks-same (asks-then c.data_in.ensures.asks c.subs_in.ensures.asks)

pub returns-clause-asks : goal.returns-clause-asks
returns-clause-asks g c = asks-same (asks-then c.data_in.ensures.asks c.subs_in.ensures.asks)

pub returns-clause-node : goal.returns-clause-node
returns-clause-node g c = λ find h.
    let asks = c.data_in.ensures.asks in
    record {
      node = record { nid = (c.args.entry.nid).bits; parent = (c.args.entry.parent).bits; blocks = c.in_ok-blocks.blocks; subs = c.in_ok-subs.subs };
      reads = node-made find c.args.s.now.tree.eof c.args.entry c.in_ok-blocks.blocks c.in_ok-subs.subs (c.in_ok-blocks.ensures.reads find h)
          (ap (λ (t : FileTree). subs_of find t.eof c.args.entry.subnodes) (sym asks.tree) ∙ c.in_ok-subs.ensures.reads find (asks.told find h));
      is = refl;
    }
