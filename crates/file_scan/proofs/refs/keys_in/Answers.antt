use Rattle.std.proofs.Common.{refl}
use Rattle.node_reach.specs.Reach.{node_keys_read}
use Rattle.file_scan.proofs.NodeSteps.{reads-ok, reads-err, reads-fault, source_of, untouched-same}
use Rattle.file_scan.proofs.refs.keys_in.Goals as goal

pub returns-clause-same_reference : goal.returns-clause-same_reference
returns-clause-same_reference g c = (c.read_node_keys.ensures.later.since c.args.s.now (refl, untouched-same (g.W.Outside.view c.args.s.now.world.now))).0

pub returns-clause-same : goal.returns-clause-same
returns-clause-same g c = (c.read_node_keys.ensures.later.since c.args.s.now (refl, untouched-same (g.W.Outside.view c.args.s.now.world.now))).1

pub returns-clause-reads : goal.returns-clause-reads
returns-clause-reads g c = reads-ok (λ keys. keys.items) (source_of (g.W.Outside.view c.args.s.now.world.now) c.args.s.now.eof c.args.s.now.entries.now c.args.s.now.changes) (source_of (g.W.Outside.view c.read_node_keys.new.s.world.now) c.read_node_keys.new.s.eof c.read_node_keys.new.s.entries.now c.read_node_keys.new.s.changes) (λ find. node_keys_read find c.args.s.now.eof c.args.node) c.read_node_keys.result c.read_node_keys.ensures.reads

pub returns-clause-stops : goal.returns-clause-stops
returns-clause-stops g c =
    reads-err (λ keys. keys.items) (g.W.Outside.view c.args.s.now.world.now) c.args.s.now.eof c.args.s.now.entries.now (source_of (g.W.Outside.view c.args.s.now.world.now) c.args.s.now.eof c.args.s.now.entries.now c.args.s.now.changes) (source_of (g.W.Outside.view c.read_node_keys.new.s.world.now) c.read_node_keys.new.s.eof c.read_node_keys.new.s.entries.now c.read_node_keys.new.s.changes) (λ find. node_keys_read find c.args.s.now.eof c.args.node) (λ find h. h) c.read_node_keys.result c.read_node_keys.ensures.reads

pub returns-clause-fault : goal.returns-clause-fault
returns-clause-fault g c = λ is. reads-fault (λ keys. keys.items) (source_of (g.W.Outside.view c.args.s.now.world.now) c.args.s.now.eof c.args.s.now.entries.now c.args.s.now.changes) (source_of (g.W.Outside.view c.read_node_keys.new.s.world.now) c.read_node_keys.new.s.eof c.read_node_keys.new.s.entries.now c.read_node_keys.new.s.changes) (λ find. node_keys_read find c.args.s.now.eof c.args.node) c.read_node_keys.result c.read_node_keys.ensures.reads is
