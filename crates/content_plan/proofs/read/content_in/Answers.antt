use Rattle.std.proofs.Common.{refl}
use Rattle.file_pages.proofs.SourceLaws.{untouched-same}
use Rattle.node_store.proofs.BlockLaws.{reads-ok, reads-err}
use Rattle.content_plan.specs.Told.{content_of, content_read}
use Rattle.content_plan.proofs.read.content_in.Goals as goal

pub returns-clause-names : goal.returns-clause-names
returns-clause-names g c = let s = c.content_from.ensures.later.since c.args.s.now (refl, refl, refl, untouched-same (g.W.Outside.view c.args.s.now.world.now)) in (s.0, s.1)

pub returns-clause-asks : goal.returns-clause-asks
returns-clause-asks g c =
    let s = c.content_from.ensures.later.since c.args.s.now (refl, refl, refl, untouched-same (g.W.Outside.view c.args.s.now.world.now)) in
    record { same = s.3; tree = s.2; told = c.content_from.ensures.later.told }

pub returns-clause-reads : goal.returns-clause-reads
returns-clause-reads g c = reads-ok content_of (g.W.Outside.view c.args.s.now.world.now) (g.W.Outside.view c.content_from.new.s.world.now) c.args.s.now.tree c.content_from.new.s.tree c.args.s.now.cache.now c.content_from.new.s.cache.now
    c.args.s.now.changes c.content_from.new.s.changes (λ find. content_read find c.args.s.now.tree.eof c.args.entry) c.content_from.result c.content_from.ensures.reads

pub returns-clause-stops : goal.returns-clause-stops
returns-clause-stops g c = reads-err content_of (g.W.Outside.view c.args.s.now.world.now) (g.W.Outside.view c.content_from.new.s.world.now) c.args.s.now.tree c.content_from.new.s.tree c.args.s.now.cache.now c.content_from.new.s.cache.now
    c.args.s.now.changes c.content_from.new.s.changes (λ find. content_read find c.args.s.now.tree.eof c.args.entry) c.content_from.result c.content_from.ensures.reads
