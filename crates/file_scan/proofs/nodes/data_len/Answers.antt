use Rattle.std.proofs.Common.{refl}
use Rattle.data_tree.specs.Measure.{measured}
use Rattle.data_tree.specs.Tree.{blocks_of}
use Rattle.file_scan.proofs.NodeSteps.{reads-ok, reads-err, reads-fault, source_of, untouched-same}
use Rattle.file_scan.proofs.nodes.data_len.Goals as goal

pub returns-clause-same_reference : goal.returns-clause-same_reference
returns-clause-same_reference g c = (c.measure_data.ensures.later.since c.args.s.now (refl, untouched-same (g.W.Outside.view c.args.s.now.world.now))).0

pub returns-clause-asks : goal.returns-clause-asks
returns-clause-asks g c = record {
  same = (c.measure_data.ensures.later.since c.args.s.now (refl, untouched-same (g.W.Outside.view c.args.s.now.world.now))).1;
  eof_is = c.measure_data.ensures.later.eof;
  told = c.measure_data.ensures.later.told;
}

pub returns-clause-reads : goal.returns-clause-reads
returns-clause-reads g c = reads-ok (λ n. n) (source_of (g.W.Outside.view c.args.s.now.world.now) c.args.s.now.eof c.args.s.now.entries.now c.args.s.now.changes) (source_of (g.W.Outside.view c.measure_data.new.s.world.now) c.measure_data.new.s.eof c.measure_data.new.s.entries.now c.measure_data.new.s.changes) (λ find. measured (blocks_of find c.args.s.now.eof c.args.bid)) c.measure_data.result c.measure_data.ensures.reads

pub returns-clause-stops : goal.returns-clause-stops
returns-clause-stops g c =
    reads-err (λ n. n) (g.W.Outside.view c.args.s.now.world.now) c.args.s.now.eof c.args.s.now.entries.now (source_of (g.W.Outside.view c.args.s.now.world.now) c.args.s.now.eof c.args.s.now.entries.now c.args.s.now.changes) (source_of (g.W.Outside.view c.measure_data.new.s.world.now) c.measure_data.new.s.eof c.measure_data.new.s.entries.now c.measure_data.new.s.changes) (λ find. measured (blocks_of find c.args.s.now.eof c.args.bid)) (λ find h. h) c.measure_data.result c.measure_data.ensures.reads

pub returns-clause-fault : goal.returns-clause-fault
returns-clause-fault g c = λ is. reads-fault (λ n. n) (source_of (g.W.Outside.view c.args.s.now.world.now) c.args.s.now.eof c.args.s.now.entries.now c.args.s.now.changes) (source_of (g.W.Outside.view c.measure_data.new.s.world.now) c.measure_data.new.s.eof c.measure_data.new.s.entries.now c.measure_data.new.s.changes) (λ find. measured (blocks_of find c.args.s.now.eof c.args.bid)) c.measure_data.result c.measure_data.ensures.reads is
