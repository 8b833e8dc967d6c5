use Rattle.std.proofs.lemmas.Result.{IfOk-weaker}
use Rattle.file_layout.specs.Nodes.{NodeMap}
use Rattle.lays_kept.specs.Stands.{AreThose}
use Rattle.node_port.specs.Nodes.{IsNext, Nodes}
use Rattle.node_port.specs.Stops.{Tells}
use Rattle.node_store.specs.Told.{TellsNodes}
use Rattle.pst_commit.specs.Keeping.{ReadsAs}
use Rattle.file_planner.specs.Knowing.{Knows}
use Rattle.file_planner.proofs.ComesLaws.{cached-after, looks-on, other-caches, read-tells, reads-tells}
use Rattle.file_planner.proofs.KeepLaws.{keeps-to}
use Rattle.file_planner.proofs.planner.FilePlannerNodeStore.next.Goals as goal

pub returns-clause-next : goal.returns-clause-next
returns-clause-next g c =
    let old = g.W.Outside.view c.args.w.now in
    let p = c.args.self.now in
    let header = c.args.header.now in
    IfOk-weaker c.next_node.result (λ next. (m : NodeMap) (N : Nodes) → TellsNodes old header p.caches m → AreThose m N → IsNext N c.args.nid next)
    (λ next. Tells (ReadsAs (Knows p) header old) (λ N. IsNext N c.args.nid next))
    (λ next is N reads. is reads.m N (reads-tells reads) reads.those) c.next_node.ensures.next

pub returns-clause-stops : goal.returns-clause-stops
returns-clause-stops g c =
    let old = g.W.Outside.view c.args.w.now in
    let new = g.W.Outside.view c.next_node.new.w in
    let p = c.args.self.now in
    let header = c.args.header.now in
    keeps-to old new ((m : NodeMap) × TellsNodes old header p.caches m) (ReadsAs (Knows p) header old) (λ N reads. (reads.m, reads-tells reads)) c.next_node.result c.next_node.ensures.stops

pub returns-clause-looks : goal.returns-clause-looks
returns-clause-looks g c =
    let old = g.W.Outside.view c.args.w.now in
    let new = g.W.Outside.view c.next_node.new.w in
    let p = c.args.self.now in
    let header = c.args.header.now in
    looks-on p _ header old new (other-caches p _) c.next_node.ensures.untouched
    (λ m present tells lays end knows. cached-after c.next_node.ensures.untouched c.next_node.ensures.keeps m (read-tells tells lays end knows))
