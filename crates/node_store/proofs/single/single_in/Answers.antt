use Rattle.std.proofs.Common.{refl}
use Rattle.data_tree.specs.Single.{single_of}
use Rattle.file_pages.proofs.SourceLaws.{untouched-same}
use Rattle.node_store.proofs.BlockLaws.{asks-same, reads-ok, reads-err}
use Rattle.node_store.proofs.single.single_in.Goals as goal

pub returns-clause-names : goal.returns-clause-names
returns-clause-names g c = let s = c.read_single.ensures.later.since c.args.s.now (refl, refl, refl, untouched-same (g.W.Outside.view c.args.s.now.world.now)) in (s.0, s.1)

pub returns-clause-asks : goal.returns-clause-asks
returns-clause-asks g c =
    let s = c.read_single.ensures.later.since c.args.s.now (refl, refl, refl, untouched-same (g.W.Outside.view c.args.s.now.world.now)) in
    asks-same (record { same = s.3; tree = s.2; told = c.read_single.ensures.later.told })

pub returns-clause-reads : goal.returns-clause-reads
returns-clause-reads g c = reads-ok (λ x. x) (g.W.Outside.view c.args.s.now.world.now) (g.W.Outside.view c.read_single.new.s.world.now) c.args.s.now.tree c.read_single.new.s.tree c.args.s.now.cache.now c.read_single.new.s.cache.now
    c.args.s.now.changes c.read_single.new.s.changes (λ find. single_of find c.args.position c.args.bid) c.read_single.result c.read_single.ensures.reads

pub returns-clause-stops : goal.returns-clause-stops
returns-clause-stops g c = reads-err (λ x. x) (g.W.Outside.view c.args.s.now.world.now) (g.W.Outside.view c.read_single.new.s.world.now) c.args.s.now.tree c.read_single.new.s.tree c.args.s.now.cache.now c.read_single.new.s.cache.now
    c.args.s.now.changes c.read_single.new.s.changes (λ find. single_of find c.args.position c.args.bid) c.read_single.result c.read_single.ensures.reads
