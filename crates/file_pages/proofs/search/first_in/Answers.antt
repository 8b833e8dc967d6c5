use Rattle.std.proofs.Common.{◌≡◌, ℕ, List, Option, refl}
use Rattle.std.proofs.lemmas.Result.{IfOk-weaker}
use Rattle.pst_base.specs.declared.ids.Bref.{Bref}
use Rattle.pst_outside.specs.Calls.{Untouched}
use Rattle.file_pages.specs.declared.source.FilePages.{FilePages}
use Rattle.file_blocks.specs.Blocks.{file_of}
use Rattle.tree_edit.specs.Shapes.{IsWhole}
use Rattle.tree_edit.specs.Pages.{shapes}
use Rattle.tree_edit.specs.Source.{Source}
use Rattle.tree_search.specs.Search.{first_from}
use Rattle.file_pages.specs.Told.{Caches, Gives, HasTree}
use Rattle.file_pages.proofs.SourceLaws.{caches-of, given, gives, stops-in, tree-given, untouched-same}
use Rattle.file_pages.proofs.search.first_in.Goals as goal

pub returns-clause-names : goal.returns-clause-names
returns-clause-names g c = let s = c.find_from.ensures.later.since c.args.pages.now (refl, refl, refl, refl, untouched-same (g.W.Outside.view c.args.pages.now.world.now)) in (s.0, s.1)

pub returns-clause-asks : goal.returns-clause-asks
returns-clause-asks g c =
    let s = c.find_from.ensures.later.since c.args.pages.now (refl, refl, refl, refl, untouched-same (g.W.Outside.view c.args.pages.now.world.now)) in
    let old = g.W.Outside.view c.args.pages.now.world.now in
    record { same = s.4; caches = λ caches. caches-of s.2 s.3 (c.find_from.ensures.later.told (given (file_of old.here) c.args.pages.now.eof c.args.pages.now.kind) (gives caches)) }

pub returns-clause-found : goal.returns-clause-found
returns-clause-found g c =
    let old = g.W.Outside.view c.args.pages.now.world.now in
    let eof = c.args.pages.now.eof in
    let kind = c.args.pages.now.kind in
    let rule = g.E.Entry.rule in let size = g.E.Entry.size in let entry_of = g.E.Entry.entry_of in let key = g.E.Entry.key in
    IfOk-weaker c.find_from.result
    (λ found. (find : Bref → Option (List ℕ)) → Gives old eof kind c.args.pages.now.cache.now find → (es : List g.row.E.Denot) (ps : List Bref) → IsWhole (shapes rule size entry_of find) key c.args.root es ps → found ≡ first_from key c.args.low es)
    (λ found. Caches old eof kind c.args.pages.now.cache.now → (es : List g.row.E.Denot) → HasTree rule size entry_of key (file_of old.here) eof kind c.args.root es → found ≡ first_from key c.args.low es)
    (λ found is caches es t. is (given (file_of old.here) eof kind) (gives caches) es t.0 (tree-given rule size entry_of key (file_of old.here) eof kind c.args.root es (given (file_of old.here) eof kind) (λ at. refl) t))
    c.find_from.ensures.found

pub returns-clause-stops : goal.returns-clause-stops
returns-clause-stops g c =
    let old = g.W.Outside.view c.args.pages.now.world.now in
    let new = g.W.Outside.view c.find_from.new.s.world.now in
    let eof = c.args.pages.now.eof in
    let kind = c.args.pages.now.kind in
    let rule = g.E.Entry.rule in let size = g.E.Entry.size in let entry_of = g.E.Entry.entry_of in let key = g.E.Entry.key in
    let Whole : Type 0 = Caches old eof kind c.args.pages.now.cache.now × ((es : List g.row.E.Denot) × HasTree rule size entry_of key (file_of old.here) eof kind c.args.root es) in
    let before : Source (FilePages g.row.W.Denot) = record {
      holds = Gives (g.W.Outside.view c.args.pages.now.world.now) c.args.pages.now.eof c.args.pages.now.kind c.args.pages.now.cache.now;
      fails = (g.W.Outside.view c.args.pages.now.world.now).disk_faults;
      changes = 0;
      since = λ first. (c.args.pages.now.world.ghost_name ≡ first.world.ghost_name) × (c.args.pages.now.cache.ghost_name ≡ first.cache.ghost_name) × (c.args.pages.now.eof ≡ first.eof) × (c.args.pages.now.kind ≡ first.kind) × Untouched (g.W.Outside.view first.world.now) (g.W.Outside.view c.args.pages.now.world.now);
    } in
    let after : Source (FilePages g.row.W.Denot) = record {
      holds = Gives (g.W.Outside.view c.find_from.new.s.world.now) c.find_from.new.s.eof c.find_from.new.s.kind c.find_from.new.s.cache.now;
      fails = (g.W.Outside.view c.find_from.new.s.world.now).disk_faults;
      changes = 0;
      since = λ first. (c.find_from.new.s.world.ghost_name ≡ first.world.ghost_name) × (c.find_from.new.s.cache.ghost_name ≡ first.cache.ghost_name) × (c.find_from.new.s.eof ≡ first.eof) × (c.find_from.new.s.kind ≡ first.kind) × Untouched (g.W.Outside.view first.world.now) (g.W.Outside.view c.find_from.new.s.world.now);
    } in
    stops-in before after (λ find. (es : List g.row.E.Denot) × (ps : List Bref) × IsWhole (shapes g.E.Entry.rule g.E.Entry.size g.E.Entry.entry_of find) g.E.Entry.key c.args.root es ps) old new Whole c.find_from.result refl refl
    (λ is. (given (file_of old.here) eof kind, gives is.0, (is.1.0, is.1.1.0, tree-given rule size entry_of key (file_of old.here) eof kind c.args.root is.1.0 (given (file_of old.here) eof kind) (λ at. refl) is.1.1)))
    c.find_from.ensures.stops
