use Rattle.std.proofs.Common.{◌≡◌, ℕ, List, Option, refl}
use Rattle.std.proofs.lemmas.Result.{IfOk-weaker}
use Rattle.pst_base.specs.declared.ids.Bref.{Bref}
use Rattle.pst_outside.specs.Calls.{Untouched}
use Rattle.file_pages.specs.declared.source.FilePages.{FilePages}
use Rattle.file_blocks.specs.Blocks.{file_of}
use Rattle.tree_edit.specs.Shapes.{IsWhole}
use Rattle.tree_edit.specs.Pages.{shapes}
use Rattle.tree_edit.specs.Source.{Source, TellsWhole}
use Rattle.file_pages.specs.Told.{Caches, Gives, HasTree, PlansIn}
use Rattle.file_pages.proofs.SourceLaws.{BoundsOver, PlansOver, SparesOver, caches-of, given, gives, ok-both, plans-in, stops-on, tree-given, untouched-same}
use Rattle.file_pages.proofs.changes.change_in.Goals as goal

pub returns-clause-names : goal.returns-clause-names
returns-clause-names g c = let s = c.change.ensures.later.since c.args.pages.now (refl, refl, refl, refl, untouched-same (g.W.Outside.view c.args.pages.now.world.now)) in (s.0, s.1)

pub returns-clause-asks : goal.returns-clause-asks
returns-clause-asks g c =
    let s = c.change.ensures.later.since c.args.pages.now (refl, refl, refl, refl, untouched-same (g.W.Outside.view c.args.pages.now.world.now)) in
    let old = g.W.Outside.view c.args.pages.now.world.now in
    record { same = s.4; caches = λ caches. caches-of s.2 s.3 (c.change.ensures.later.told (given (file_of old.here) c.args.pages.now.eof c.args.pages.now.kind) (gives caches)) }

pub returns-clause-plan : goal.returns-clause-plan
returns-clause-plan g c =
    let old = g.W.Outside.view c.args.pages.now.world.now in
    let eof = c.args.pages.now.eof in
    let kind = c.args.pages.now.kind in
    let rule = g.E.Entry.rule in let size = g.E.Entry.size in let entry_of = g.E.Entry.entry_of in let key = g.E.Entry.key in
    let file : List ℕ = file_of old.here in
    let Held : (Bref → Option (List ℕ)) → Type 0 = Gives old eof kind c.args.pages.now.cache.now in
    let ds = c.args.edits.now in
    let root = c.args.root in
    IfOk-weaker c.change.result
    (λ plan. ((find : Bref → Option (List ℕ)) → Held find → PlansOver (shapes rule size entry_of find) key root ds plan.pages.items plan.freed.items plan.root)
    × (((find : Bref → Option (List ℕ)) → Held find → SparesOver (shapes rule size entry_of find) key root ds plan.pages.items plan.freed.items)
    × ((find : Bref → Option (List ℕ)) → Held find → BoundsOver (shapes rule size entry_of find) key root ds plan.pages.items plan.freed.items)))
    (λ plan. Caches old eof kind c.args.pages.now.cache.now → PlansIn rule size entry_of key file eof kind root ds plan.pages.items plan.freed.items plan.root)
    (λ plan is caches. let all = given file eof kind in let held = gives caches in plans-in rule size entry_of key file eof kind root ds plan.pages.items plan.freed.items plan.root (is.0 all held) (is.1.0 all held) (is.1.1 all held))
    (ok-both c.change.result
    (λ plan. (find : Bref → Option (List ℕ)) → Held find → PlansOver (shapes rule size entry_of find) key root ds plan.pages.items plan.freed.items plan.root)
    (λ plan. ((find : Bref → Option (List ℕ)) → Held find → SparesOver (shapes rule size entry_of find) key root ds plan.pages.items plan.freed.items)
    × ((find : Bref → Option (List ℕ)) → Held find → BoundsOver (shapes rule size entry_of find) key root ds plan.pages.items plan.freed.items))
    c.change.ensures.plan
    (ok-both c.change.result
    (λ plan. (find : Bref → Option (List ℕ)) → Held find → SparesOver (shapes rule size entry_of find) key root ds plan.pages.items plan.freed.items)
    (λ plan. (find : Bref → Option (List ℕ)) → Held find → BoundsOver (shapes rule size entry_of find) key root ds plan.pages.items plan.freed.items)
    c.change.ensures.spare c.change.ensures.bound))

pub returns-clause-stops : goal.returns-clause-stops
returns-clause-stops g c =
    let old = g.W.Outside.view c.args.pages.now.world.now in
    let new = g.W.Outside.view c.change.new.s.world.now in
    let eof = c.args.pages.now.eof in
    let kind = c.args.pages.now.kind in
    let rule = g.E.Entry.rule in let size = g.E.Entry.size in let entry_of = g.E.Entry.entry_of in let key = g.E.Entry.key in
    let Whole : Type 0 = Caches old eof kind c.args.pages.now.cache.now × ((es : List g.row.E.Denot) × HasTree rule size entry_of key (file_of old.here) eof kind c.args.root es) in
    let before : Source (FilePages g.row.W.Denot) = record {
      holds = Gives (g.W.Outside.view c.args.pages.now.world.now) c.args.pages.now.eof c.args.pages.now.kind c.args.pages.now.cache.now;
      fails = (g.W.Outside.view c.args.pages.now.world.now).disk_faults;
      changes = 0;
      since = λ first. (c.args.pages.now.world.ghost_name ≡ first.world.ghost_name) × (c.args.pages.now.cache.ghost_name ≡ first.cache.ghost_name) × (c.args.pages.now.eof ≡ first.eof) × (c.args.pages.now.kind ≡ first.kind) × Untouched (g.W.Outside.view first.world.now) (g.W.Outside.view c.args.pages.now.world.now);
    } in
    let after : Source (FilePages g.row.W.Denot) = record {
      holds = Gives (g.W.Outside.view c.change.new.s.world.now) c.change.new.s.eof c.change.new.s.kind c.change.new.s.cache.now;
      fails = (g.W.Outside.view c.change.new.s.world.now).disk_faults;
      changes = 0;
      since = λ first. (c.change.new.s.world.ghost_name ≡ first.world.ghost_name) × (c.change.new.s.cache.ghost_name ≡ first.cache.ghost_name) × (c.change.new.s.eof ≡ first.eof) × (c.change.new.s.kind ≡ first.kind) × Untouched (g.W.Outside.view first.world.now) (g.W.Outside.view c.change.new.s.world.now);
    } in
    stops-on before after (TellsWhole g.E.Entry.rule g.E.Entry.size g.E.Entry.entry_of g.E.Entry.key c.args.root) old new Whole c.change.result refl refl
    (λ is. (given (file_of old.here) eof kind, gives is.0, (is.1.0, is.1.1.0, tree-given rule size entry_of key (file_of old.here) eof kind c.args.root is.1.0 (given (file_of old.here) eof kind) (λ at. refl) is.1.1)))
    c.change.ensures.stopped
