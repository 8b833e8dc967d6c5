use Rattle.std.proofs.Common.{refl}
use Rattle.file_pages.proofs.SourceLaws.{untouched-same}
use Rattle.node_store.proofs.BlockLaws.{reads-ok, reads-err}
use Rattle.content_plan.specs.Told.{keys_read}
use Rattle.content_plan.proofs.read.keys_in.Goals as goal

pub returns-clause-names : goal.returns-clause-names
returns-clause-names g c = let s = c.keys_from.ensures.later.since c.args.s.now (refl, refl, refl, untouched-same (g.W.Outside.view c.args.s.now.world.now)) in (s.0, s.1)

pub returns-clause-asks : goal.returns-clause-asks
returns-clause-asks g c =
    let s = c.keys_from.ensures.later.since c.args.s.now (refl, refl, refl, untouched-same (g.W.Outside.view c.args.s.now.world.now)) in
    record { same = s.3; tree = s.2; told = c.keys_from.ensures.later.told }

pub returns-clause-reads : goal.returns-clause-reads
returns-clause-reads g c = reads-ok (λ keys. keys.items) (g.W.Outside.view c.args.s.now.world.now) (g.W.Outside.view c.keys_from.new.s.world.now) c.args.s.now.tree c.keys_from.new.s.tree c.args.s.now.cache.now c.keys_from.new.s.cache.now
    c.args.s.now.changes c.keys_from.new.s.changes (λ find. keys_read find c.args.s.now.tree.eof c.args.entry) c.keys_from.result c.keys_from.ensures.reads

pub returns-clause-stops : goal.returns-clause-stops
returns-clause-stops g c = reads-err (λ keys. keys.items) (g.W.Outside.view c.args.s.now.world.now) (g.W.Outside.view c.keys_from.new.s.world.now) c.args.s.now.tree c.keys_from.new.s.tree c.args.s.now.cache.now c.keys_from.new.s.cache.now
    c.args.s.now.changes c.keys_from.new.s.changes (λ find. keys_read find c.args.s.now.tree.eof c.args.entry) c.keys_from.result c.keys_from.ensures.reads
