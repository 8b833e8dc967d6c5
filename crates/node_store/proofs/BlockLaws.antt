-- Blocks that are found by the pages of a file's block tree.
use Rattle.std.proofs.Common.{◌≡◌, ◌==◌, ℕ, ◌≤◌, if◌then◌else◌, List, [], ◌∷◌, refl, sym, ap, subst, ◌∙◌, arith, Option, Some, Result, Ok, Err, IfOk, IfErr}
use Rattle.pst_base.specs.declared.stops.MemOr.{MemOr}
use Rattle.pst_base.specs.declared.stops.MemOr.TheVariants as mem
use Rattle.pst_base.specs.declared.stops.SourceStop.{SourceStop}
use Rattle.pst_base.specs.declared.stops.SourceStop.TheVariants as source
use Rattle.pst_base.specs.Ids.{key_of}
use Rattle.pst_outside.specs.World.{Image, World}
use Rattle.pst_outside.specs.Calls.{Untouched}
use Rattle.btree_pages.specs.declared.entry.BlockEntry.{BlockEntry}
use Rattle.btree_pages.specs.Entries.{block_of}
use Rattle.data_tree.specs.declared.source.TreeStop.{TreeStop}
use Rattle.data_tree.specs.declared.source.TreeStop.TheVariants as tree
use Rattle.data_tree.specs.Source.{Source}
use Rattle.data_tree.specs.Stops.{Reads, TreeStops}
use Rattle.file_blocks.specs.Blocks.{AllStand, entry_key, file_of, found_in}
use Rattle.file_blocks.specs.Blocks.{entry_with as file_entry}
use Rattle.file_layout.proofs.Underway.{untouched_then}
use Rattle.page_cache.specs.declared.cache.Cached.{Cached}
use Rattle.tree_edit.specs.Edits.{entry_with}
use Rattle.file_pages.specs.declared.search.FileTree.{FileTree}
use Rattle.file_pages.specs.Told.{Caches, HasTree, StopsUnless}
use Rattle.node_store.specs.Told.{AsksBlocks, StopsReading, TellsBlocks, StopsKeeping, keep_stop, tree_stop}

pub entry-same : (k : ℕ) (es : List BlockEntry) → entry_with entry_key k es ≡ file_entry k es
entry-same k [] = refl
entry-same k (e ∷ es) = ap (λ (o : Option BlockEntry). if entry_key e == k then Some e else o) (entry-same k es)

-- what a world tells of blocks it tells on
pub tells-on : {old new : World} {t : FileTree} {cached now : List (ℕ × Cached)} → Untouched old new → (Caches old t.eof t.kind cached → Caches new t.eof t.kind now) → (find : ℕ → Option (List ℕ)) → TellsBlocks old t cached find → TellsBlocks new t now find
tells-on {old} {new} {t} {cached} {now} same on find h =
    let caches = on h.caches in
    let here = sym (same.stays.here caches.told.tells) in
    record {
      caches = caches;
      entries = h.entries;
      has_tree = subst (λ (i : Image). HasTree key_of 24 block_of entry_key (file_of i) t.eof t.kind t.root h.entries) here h.has_tree;
      stand = subst (λ (i : Image). AllStand (file_of i) t.eof h.entries) here h.stand;
      found = λ key. h.found key ∙ ap (λ (i : Image). found_in (file_of i) h.entries key) here;
    }

-- ---- stops of readings

abbrev pub source_of : World → FileTree → List (ℕ × Cached) → ℕ → Source (Unit {0})
source_of w t cached changes = record { holds = TellsBlocks w t cached; fails = w.disk_faults; changes = changes; eof = t.eof; since = λ first. Unit {0} }

of-source : {Y : Type 0} (old new : World) (t u : FileTree) (cached now : List (ℕ × Cached)) (a b : ℕ) (reading : (ℕ → Option (List ℕ)) → Result Y TreeStop) → (stop : MemOr TreeStop) → TreeStops (source_of old t cached a) (source_of new u now b) reading stop → StopsReading stop old new t cached reading
of-source old new t u cached now a b reading mem.Memory stops = tt
of-source old new t u cached now a b reading (mem.Refused (tree.Source source.Failed)) stops = stops
of-source old new t u cached now a b reading (mem.Refused (tree.Source (source.Changed ib stored computed))) stops = stops.1
of-source old new t u cached now a b reading (mem.Refused (tree.Missing bid)) stops = stops
of-source old new t u cached now a b reading (mem.Refused (tree.Form bid)) stops = stops
of-source old new t u cached now a b reading (mem.Refused tree.Long) stops = stops
of-source old new t u cached now a b reading (mem.Refused tree.Deep) stops = stops
of-source old new t u cached now a b reading (mem.Refused tree.Many) stops = stops

pub reads-ok : {X Y : Type 0} (view : X → Y) (old new : World) (t u : FileTree) (cached now : List (ℕ × Cached)) (a b : ℕ) (reading : (ℕ → Option (List ℕ)) → Result Y TreeStop) (answer : Result X (MemOr TreeStop))
    → Reads view (source_of old t cached a) (source_of new u now b) reading answer → IfOk answer (λ x. (find : ℕ → Option (List ℕ)) → TellsBlocks old t cached find → reading find ≡ Ok (view x))
reads-ok view old new t u cached now a b reading (Ok x) reads = reads
reads-ok view old new t u cached now a b reading (Err stop) reads = tt

pub reads-err : {X Y : Type 0} (view : X → Y) (old new : World) (t u : FileTree) (cached now : List (ℕ × Cached)) (a b : ℕ) (reading : (ℕ → Option (List ℕ)) → Result Y TreeStop) (answer : Result X (MemOr TreeStop))
    → Reads view (source_of old t cached a) (source_of new u now b) reading answer → IfErr answer (λ stop. StopsReading stop old new t cached reading)
reads-err view old new t u cached now a b reading (Ok x) reads = tt
reads-err view old new t u cached now a b reading (Err stop) reads = of-source old new t u cached now a b reading stop reads

-- a stop of a part of a reading, after other calls, is the whole's
pub stops-through : {Y Z : Type 0} (old mid new : World) (t u : FileTree) (cached now : List (ℕ × Cached)) (part : (ℕ → Option (List ℕ)) → Result Y TreeStop) (whole : (ℕ → Option (List ℕ)) → Result Z TreeStop)
    → old.disk_faults ≤ mid.disk_faults → ((find : ℕ → Option (List ℕ)) → TellsBlocks old t cached find → TellsBlocks mid u now find)
    → ((find : ℕ → Option (List ℕ)) → TellsBlocks old t cached find → (fault : TreeStop) → part find ≡ Err fault → whole find ≡ Err fault)
    → (stop : MemOr TreeStop) → StopsReading stop mid new u now part → StopsReading stop old new t cached whole
stops-through old mid new t u cached now part whole le told faults mem.Memory stops = tt
stops-through old mid new t u cached now part whole le told faults (mem.Refused (tree.Source source.Failed)) stops = omega (arith, le, stops)
stops-through old mid new t u cached now part whole le told faults (mem.Refused (tree.Source (source.Changed ib stored computed))) stops = λ find h. stops find (told find h)
stops-through old mid new t u cached now part whole le told faults (mem.Refused (tree.Missing bid)) stops = λ find h. faults find h (tree.Missing bid) (stops find (told find h))
stops-through old mid new t u cached now part whole le told faults (mem.Refused (tree.Form bid)) stops = λ find h. faults find h (tree.Form bid) (stops find (told find h))
stops-through old mid new t u cached now part whole le told faults (mem.Refused tree.Long) stops = λ find h. faults find h tree.Long (stops find (told find h))
stops-through old mid new t u cached now part whole le told faults (mem.Refused tree.Deep) stops = λ find h. faults find h tree.Deep (stops find (told find h))
stops-through old mid new t u cached now part whole le told faults (mem.Refused tree.Many) stops = λ find h. faults find h tree.Many (stops find (told find h))

-- ---- stops of a keeper

pub keep-stops : (old new : World) (Part Whole : Type 0) → (Whole → Part) → (stop : MemOr SourceStop) → StopsUnless old new Part stop → StopsKeeping old new Whole (keep_stop stop)
keep-stops old new Part Whole part mem.Memory stops = tt
keep-stops old new Part Whole part (mem.Refused source.Failed) stops = stops
keep-stops old new Part Whole part (mem.Refused (source.Changed ib stored computed)) stops = λ is. stops (part is)

-- where the blocks are told and the reading has no fault
pub tree-stops : {Y : Type 0} (old mid new : World) (t : FileTree) (cached : List (ℕ × Cached)) (reading : (ℕ → Option (List ℕ)) → Result Y TreeStop) (Whole : Type 0) (ib : ℕ) → old.disk_faults ≤ mid.disk_faults
    → (Whole → (find : ℕ → Option (List ℕ)) × TellsBlocks mid t cached find × ((fault : TreeStop) → reading find ≡ Err fault → ⊥))
    → (stop : MemOr TreeStop) → StopsReading stop mid new t cached reading → StopsKeeping old new Whole (tree_stop ib stop)
tree-stops old mid new t cached reading Whole ib le told mem.Memory stops = tt
tree-stops old mid new t cached reading Whole ib le told (mem.Refused (tree.Source source.Failed)) stops = omega (arith, le, stops)
tree-stops old mid new t cached reading Whole ib le told (mem.Refused (tree.Source (source.Changed at stored computed))) stops = λ is. let t = told is in stops t.0 t.1
tree-stops old mid new t cached reading Whole ib le told (mem.Refused (tree.Missing bid)) stops = λ is. let t = told is in t.2 (tree.Missing bid) (stops t.0 t.1)
tree-stops old mid new t cached reading Whole ib le told (mem.Refused (tree.Form bid)) stops = λ is. let t = told is in t.2 (tree.Form bid) (stops t.0 t.1)
tree-stops old mid new t cached reading Whole ib le told (mem.Refused tree.Long) stops = λ is. let t = told is in t.2 tree.Long (stops t.0 t.1)
tree-stops old mid new t cached reading Whole ib le told (mem.Refused tree.Deep) stops = λ is. let t = told is in t.2 tree.Deep (stops t.0 t.1)
tree-stops old mid new t cached reading Whole ib le told (mem.Refused tree.Many) stops = λ is. let t = told is in t.2 tree.Many (stops t.0 t.1)

-- ---- calls one after the other

pub asks-then : {old mid new : World} {t u v : FileTree} {cached between now : List (ℕ × Cached)} → AsksBlocks old mid t u cached between → AsksBlocks mid new u v between now → AsksBlocks old new t v cached now
asks-then a b = record { same = untouched_then a.same b.same; tree = b.tree ∙ a.tree; told = λ find h. b.told find (a.told find h) }

-- of the same tree
pub asks-same : {old new : World} {t u : FileTree} {cached now : List (ℕ × Cached)} → AsksBlocks old new t u cached now → AsksBlocks old new t t cached now
asks-same {old} {new} {t} {u} {cached} {now} a = subst (λ (x : FileTree). AsksBlocks old new t x cached now) a.tree a
