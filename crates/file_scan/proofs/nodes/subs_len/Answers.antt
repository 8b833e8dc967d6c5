use Rattle.std.proofs.Common.{refl}
use Rattle.subnode_tree.specs.Counts.{counted}
use Rattle.subnode_tree.specs.Subnodes.{subs_of}
use Rattle.file_scan.proofs.NodeSteps.{reads-ok, reads-err, reads-fault, source_of, untouched-same}
use Rattle.file_scan.proofs.nodes.subs_len.Goals as goal

pub returns-clause-same_reference : goal.returns-clause-same_reference
returns-clause-same_reference g c = (c.count_subs.ensures.later.since c.args.s.now (refl, untouched-same (g.W.Outside.view c.args.s.now.world.now))).0

pub returns-clause-asks : goal.returns-clause-asks
returns-clause-asks g c = record {
  same = (c.count_subs.ensures.later.since c.args.s.now (refl, untouched-same (g.W.Outside.view c.args.s.now.world.now))).1;
  eof_is = c.count_subs.ensures.later.eof;
  told = c.count_subs.ensures.later.told;
}

pub returns-clause-reads : goal.returns-clause-reads
returns-clause-reads g c = reads-ok (λ n. n) (source_of (g.W.Outside.view c.args.s.now.world.now) c.args.s.now.eof c.args.s.now.entries.now c.args.s.now.changes) (source_of (g.W.Outside.view c.count_subs.new.s.world.now) c.count_subs.new.s.eof c.count_subs.new.s.entries.now c.count_subs.new.s.changes) (λ find. counted (subs_of find c.args.s.now.eof c.args.bid)) c.count_subs.result c.count_subs.ensures.reads

pub returns-clause-stops : goal.returns-clause-stops
returns-clause-stops g c =
    reads-err (λ n. n) (g.W.Outside.view c.args.s.now.world.now) c.args.s.now.eof c.args.s.now.entries.now (source_of (g.W.Outside.view c.args.s.now.world.now) c.args.s.now.eof c.args.s.now.entries.now c.args.s.now.changes) (source_of (g.W.Outside.view c.count_subs.new.s.world.now) c.count_subs.new.s.eof c.count_subs.new.s.entries.now c.count_subs.new.s.changes) (λ find. counted (subs_of find c.args.s.now.eof c.args.bid)) (λ find h. h) c.count_subs.result c.count_subs.ensures.reads

pub returns-clause-fault : goal.returns-clause-fault
returns-clause-fault g c = λ is. reads-fault (λ n. n) (source_of (g.W.Outside.view c.args.s.now.world.now) c.args.s.now.eof c.args.s.now.entries.now c.args.s.now.changes) (source_of (g.W.Outside.view c.count_subs.new.s.world.now) c.count_subs.new.s.eof c.count_subs.new.s.entries.now c.count_subs.new.s.changes) (λ find. counted (subs_of find c.args.s.now.eof c.args.bid)) c.count_subs.result c.count_subs.ensures.reads is
