use Rattle.node_port.specs.Nodes.{changed, no_nodes}
use Rattle.file_session.proofs.Making.{lacks_laying, made_reads, own_front}
use Rattle.file_session.proofs.make.make_file.Goals as goal

pub returns-in-Ok-lay_nodes-clause-made : goal.returns-in-Ok-lay_nodes-clause-made
returns-in-Ok-lay_nodes-clause-made g c = λ is tells.
    let shows = c.in-Ok.ensures.shows in
    let now = g.W.Outside.view c.lay_nodes.new.w in
    let N = changed no_nodes c.in-Ok.store.nodes.items in
    let k = c.in-Ok-lay_nodes._keeper in
    made_reads c.args.name.now now.here N c.in-Ok.store.counts.last shows.0 shows.1 shows.2 c.in-Ok.ensures.counts
    (own_front k.found now.here N k.header.indexes c.in-Ok.store.counts.last c.in-Ok-lay_nodes.ensures.last (c.in-Ok-lay_nodes.ensures.laid tells).1.stands)

pub returns-clause-lacks : goal.returns-clause-lacks
returns-clause-lacks g c = λ tells.
    lacks_laying (g.W.Outside.view c.lay_nodes.new.w).here 0 c.in-Ok.store.nodes.items c.in-Err.stop c.of_laying.result c.of_laying.ensures (c.in-Err.ensures.plan tells)
