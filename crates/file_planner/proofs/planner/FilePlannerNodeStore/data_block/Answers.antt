use Rattle.std.proofs.Common.{◌≡◌}
use Rattle.std.proofs.lemmas.Result.{IfOk-weaker}
use Rattle.file_layout.specs.Nodes.{NodeMap}
use Rattle.lays_kept.specs.Stands.{AreThose}
use Rattle.node_port.specs.Nodes.{Nodes, block_in, node_at}
use Rattle.node_port.specs.Stops.{Tells}
use Rattle.node_store.specs.Told.{TellsNodes}
use Rattle.pst_commit.specs.Keeping.{ReadsAs}
use Rattle.file_planner.specs.Knowing.{Knows}
use Rattle.file_planner.proofs.ComesLaws.{cached-after, looks-on, other-caches, read-tells, reads-tells}
use Rattle.file_planner.proofs.KeepLaws.{keeps-to}
use Rattle.file_planner.proofs.planner.FilePlannerNodeStore.data_block.Goals as goal

pub returns-clause-block : goal.returns-clause-block
returns-clause-block g c =
    let old = g.W.Outside.view c.args.w.now in
    let p = c.args.self.now in
    let header = c.args.header.now in
    IfOk-weaker c.read_node_block.result (λ block. (m : NodeMap) (N : Nodes) → TellsNodes old header p.caches m → AreThose m N → block ≡ block_in c.args.position (node_at N c.args.nid.bits))
    (λ block. Tells (ReadsAs (Knows p) header old) (λ N. block ≡ block_in c.args.position (node_at N c.args.nid.bits)))
    (λ block is N reads. is reads.m N (reads-tells reads) reads.those) c.read_node_block.ensures.block

pub returns-clause-stops : goal.returns-clause-stops
returns-clause-stops g c =
    let old = g.W.Outside.view c.args.w.now in
    let new = g.W.Outside.view c.read_node_block.new.w in
    let p = c.args.self.now in
    let header = c.args.header.now in
    keeps-to old new ((m : NodeMap) × TellsNodes old header p.caches m) (ReadsAs (Knows p) header old) (λ N reads. (reads.m, reads-tells reads)) c.read_node_block.result c.read_node_block.ensures.stops

pub returns-clause-looks : goal.returns-clause-looks
returns-clause-looks g c =
    let old = g.W.Outside.view c.args.w.now in
    let new = g.W.Outside.view c.read_node_block.new.w in
    let p = c.args.self.now in
    let header = c.args.header.now in
    looks-on p _ header old new (other-caches p _) c.read_node_block.ensures.untouched
    (λ m present tells lays end knows. cached-after c.read_node_block.ensures.untouched c.read_node_block.ensures.keeps m (read-tells tells lays end knows))
