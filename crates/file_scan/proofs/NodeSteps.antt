-- How the reading of a node is made of those of its data and of its subnodes.
use Rattle.std.proofs.Common.{true, Err, List, Ok, Option, Result, [], ap, append-nil, append_assoc, arith, drop, get_or, inl, inr, length, map, refl, subst, sym, ℕ, ◌++◌, ◌+◌, ◌<◌, ◌∙◌, ◌∷◌, ◌≡◌, ◌≤◌}
use Rattle.pst_base.specs.declared.stops.MemOr.{MemOr}
use Rattle.pst_base.specs.declared.stops.MemOr.TheVariants as or_memory
use Rattle.pst_base.specs.declared.stops.SourceStop.TheVariants as sources
use Rattle.pst_base.specs.Flat.{Flat}
use Rattle.pst_outside.specs.World.{World}
use Rattle.pst_outside.specs.Calls.{Untouched}
use Rattle.btree_pages.specs.declared.entry.BlockEntry.{BlockEntry}
use Rattle.btree_pages.specs.declared.entry.NodeEntry.{NodeEntry}
use Rattle.data_tree.specs.declared.source.TreeStop.{TreeStop}
use Rattle.data_tree.specs.declared.source.TreeStop.TheVariants as tree_stops
use Rattle.data_tree.specs.Measure.{bytes_in, measured}
use Rattle.data_tree.specs.Source.{Source}
use Rattle.data_tree.specs.Source as source
use Rattle.data_tree.specs.Stops.{TreeStops, Reads}
use Rattle.std.specs.Result.{IfOk, IfErr}
use Rattle.data_tree.specs.Tree.{and_then, blocks_of}
use Rattle.subnode_tree.specs.Counts.{directs, counted}
use Rattle.subnode_tree.specs.Subnodes.{subs_of}
use Rattle.file_blocks.specs.Stops.{Holds}
use Rattle.file_scan.specs.declared.nodes.NodeLine.{NodeLine}
use Rattle.file_layout.specs.Nodes.{node_at}
use Rattle.file_scan.specs.Lines.{line_of}
use Rattle.file_blocks.specs.Blocks.{file_of, rise_from, AllStand, found_in}
use Rattle.file_blocks.specs.declared.check.BlockRefusal.TheVariants.{Form}
use Rattle.file_layout.specs.declared.stops.OpenRefusal.TheVariants as refusals
use Rattle.file_layout.specs.declared.stops.OpenStop.TheVariants.{Refused}
use Rattle.file_blocks.proofs.StandLaws.{tells-still}
use Rattle.pst_outside.specs.World.{Image}
use Rattle.file_scan.specs.Parts.{StopsReading, IsLineOf, AreLines, place_in, stop_at, StopsAtNodes}
use Rattle.file_scan.specs.Scan.{IsFirstStop}
use Rattle.std.proofs.lemmas.List.{drop_all}
use Rattle.data_tree.proofs.ListingLaws.{drop-here}

-- ---- stops

-- a stop of a source of blocks over a world
pub of_source : {A Y : Type 0} (old : World) (eof : ℕ) (blocks : List BlockEntry) (before after : Source A) (reading : (ℕ → Option (List ℕ)) → Result Y TreeStop)
    → ((find : ℕ → Option (List ℕ)) → Holds old eof blocks find → before.holds find)
    → (stop : MemOr TreeStop) → TreeStops before after reading stop → StopsReading stop old eof blocks reading
of_source old eof blocks before after reading holds or_memory.Memory stops = tt
of_source old eof blocks before after reading holds (or_memory.Refused (tree_stops.Source sources.Failed)) stops = tt
of_source old eof blocks before after reading holds (or_memory.Refused (tree_stops.Source (sources.Changed ib stored computed))) stops = λ find h. stops.1 find (holds find h)
of_source old eof blocks before after reading holds (or_memory.Refused (tree_stops.Missing bid)) stops = λ find h. stops find (holds find h)
of_source old eof blocks before after reading holds (or_memory.Refused (tree_stops.Form bid)) stops = λ find h. stops find (holds find h)
of_source old eof blocks before after reading holds (or_memory.Refused tree_stops.Long) stops = λ find h. stops find (holds find h)
of_source old eof blocks before after reading holds (or_memory.Refused tree_stops.Deep) stops = λ find h. stops find (holds find h)
of_source old eof blocks before after reading holds (or_memory.Refused tree_stops.Many) stops = λ find h. stops find (holds find h)

-- the same, of a whole answer
pub reads-ok : {A X Y : Type 0} (view : X → Y) (before after : Source A) (reading : (ℕ → Option (List ℕ)) → Result Y TreeStop) (answer : Result X (MemOr TreeStop))
    → Reads view before after reading answer → IfOk answer (λ x. (find : ℕ → Option (List ℕ)) → before.holds find → reading find ≡ Ok (view x))
reads-ok view before after reading (Ok x) reads = reads
reads-ok view before after reading (Err stop) reads = tt

pub reads-err : {A X Y : Type 0} (view : X → Y) (old : World) (eof : ℕ) (blocks : List BlockEntry) (before after : Source A) (reading : (ℕ → Option (List ℕ)) → Result Y TreeStop)
    → ((find : ℕ → Option (List ℕ)) → Holds old eof blocks find → before.holds find)
    → (answer : Result X (MemOr TreeStop)) → Reads view before after reading answer → IfErr answer (λ stop. StopsReading stop old eof blocks reading)
reads-err view old eof blocks before after reading holds (Ok x) reads = tt
reads-err view old eof blocks before after reading holds (Err stop) reads = of_source old eof blocks before after reading holds stop reads

-- the disk's stop shows in its count
pub reads-fault : {A X Y : Type 0} (view : X → Y) (before after : Source A) (reading : (ℕ → Option (List ℕ)) → Result Y TreeStop) (answer : Result X (MemOr TreeStop))
    → Reads view before after reading answer → answer ≡ Err (or_memory.Refused (tree_stops.Source sources.Failed)) → source.Rose before.fails after.fails
reads-fault {A} {X} view before after reading answer reads is =
    let P : Result X (MemOr TreeStop) → Type 0 = λ a. Reads view before after reading a in
    let h : P (Err (or_memory.Refused (tree_stops.Source sources.Failed))) = subst P is reads in
    h

-- a stop of a part of a reading is the whole's
pub stops-through : {Y Z : Type 0} (old mid : World) (eof eof' : ℕ) (blocks blocks' : List BlockEntry)
    (part : (ℕ → Option (List ℕ)) → Result Y TreeStop) (whole : (ℕ → Option (List ℕ)) → Result Z TreeStop)
    → ((find : ℕ → Option (List ℕ)) → Holds old eof blocks find → Holds mid eof' blocks' find)
    → ((find : ℕ → Option (List ℕ)) → Holds old eof blocks find → (fault : TreeStop) → part find ≡ Err fault → whole find ≡ Err fault)
    → (stop : MemOr TreeStop) → StopsReading stop mid eof' blocks' part → StopsReading stop old eof blocks whole
stops-through old mid eof eof' blocks blocks' part whole holds faults or_memory.Memory stops = tt
stops-through old mid eof eof' blocks blocks' part whole holds faults (or_memory.Refused (tree_stops.Source sources.Failed)) stops = tt
stops-through old mid eof eof' blocks blocks' part whole holds faults (or_memory.Refused (tree_stops.Source (sources.Changed ib stored computed))) stops = λ find h. stops find (holds find h)
stops-through old mid eof eof' blocks blocks' part whole holds faults (or_memory.Refused (tree_stops.Missing bid)) stops = λ find h. faults find h (tree_stops.Missing bid) (stops find (holds find h))
stops-through old mid eof eof' blocks blocks' part whole holds faults (or_memory.Refused (tree_stops.Form bid)) stops = λ find h. faults find h (tree_stops.Form bid) (stops find (holds find h))
stops-through old mid eof eof' blocks blocks' part whole holds faults (or_memory.Refused tree_stops.Long) stops = λ find h. faults find h tree_stops.Long (stops find (holds find h))
stops-through old mid eof eof' blocks blocks' part whole holds faults (or_memory.Refused tree_stops.Deep) stops = λ find h. faults find h tree_stops.Deep (stops find (holds find h))
stops-through old mid eof eof' blocks blocks' part whole holds faults (or_memory.Refused tree_stops.Many) stops = λ find h. faults find h tree_stops.Many (stops find (holds find h))

-- ---- readings

ok_same : {Y : Type 0} (x y : Y) → ◌≡◌ {A = Result Y TreeStop} (Ok x) (Ok y) → x ≡ y
ok_same x y h = cc

err_same : {X Y : Type 0} (x y : TreeStop) → ◌≡◌ {A = Result X TreeStop} (Err x) (Err y) → ◌≡◌ {A = Result Y TreeStop} (Err x) (Err y)
err_same x y h = let e : x ≡ y = cc in ap Err e

then-ok : {X : Type 0} (number : X → ℕ) (r : Result X TreeStop) (n : ℕ) → and_then r (λ x. Ok (number x)) ≡ Ok n → (x : X) × (r ≡ Ok x) × (n ≡ number x)
then-ok number (Ok x) n h = (x, refl, sym (ok_same (number x) n h))
then-ok number (Err fault) n h = absurd (cc)

then-err : {X : Type 0} (number : X → ℕ) (r : Result X TreeStop) (fault : TreeStop) → and_then r (λ x. Ok (number x)) ≡ Err fault → r ≡ Err fault
then-err number (Ok x) fault h = absurd (cc)
then-err {X} number (Err got) fault h = err_same {X = ℕ} {Y = X} got fault h

-- the node of its blocks and its subnodes
node-of : (find : ℕ → Option (List ℕ)) (eof : ℕ) (e : NodeEntry) (blocks : List (List ℕ)) (subs : List Flat) → blocks_of find eof e.content ≡ Ok blocks → subs_of find eof e.subnodes ≡ Ok subs
    → node_at find eof e ≡ Ok (record { nid = (e.nid).bits; parent = (e.parent).bits; blocks = blocks; subs = subs })
unfolding node_at
node-of find eof e blocks subs one two = rw (one, two) refl

-- the node of a length and a count
pub line-is : (find : ℕ → Option (List ℕ)) (eof : ℕ) (e : NodeEntry) (bytes subs : ℕ) → measured (blocks_of find eof e.content) ≡ Ok bytes → counted (subs_of find eof e.subnodes) ≡ Ok subs
    → IsLineOf find eof e (record { nid = e.nid; parent = e.parent; bytes = bytes; subs = subs })
unfolding node_at
line-is find eof e bytes subs one two =
    let data_parts : (x : List (List ℕ)) × (blocks_of find eof e.content ≡ Ok x) × (bytes ≡ bytes_in x) = then-ok bytes_in (blocks_of find eof e.content) bytes one in
    let sub_parts : (x : List Flat) × (subs_of find eof e.subnodes ≡ Ok x) × (subs ≡ directs x) = then-ok directs (subs_of find eof e.subnodes) subs two in
    record {
      node = record { nid = (e.nid).bits; parent = (e.parent).bits; blocks = data_parts.0; subs = sub_parts.0 };
      is = node-of find eof e data_parts.0 sub_parts.0 data_parts.1 sub_parts.1;
      line_is = ap (λ (p : ℕ × ℕ). record { nid = e.nid; parent = e.parent; bytes = p.0; subs = p.1 }) (pair_same bytes subs (bytes_in data_parts.0) (directs sub_parts.0) data_parts.2 sub_parts.2);
    }
  where
    pair_same : (a b x y : ℕ) → a ≡ x → b ≡ y → ◌≡◌ {A = ℕ × ℕ} (a, b) (x, y)
    pair_same a b x y p q = cc

pub first-fault : (find : ℕ → Option (List ℕ)) (eof : ℕ) (e : NodeEntry) (fault : TreeStop) → measured (blocks_of find eof e.content) ≡ Err fault → node_at find eof e ≡ Err fault
unfolding node_at
first-fault find eof e fault h = rw (then-err bytes_in (blocks_of find eof e.content) fault h) refl

pub second-fault : (find : ℕ → Option (List ℕ)) (eof : ℕ) (e : NodeEntry) (bytes : ℕ) (fault : TreeStop) → measured (blocks_of find eof e.content) ≡ Ok bytes
    → counted (subs_of find eof e.subnodes) ≡ Err fault → node_at find eof e ≡ Err fault
unfolding node_at
second-fault find eof e bytes fault one two =
    let data_parts : (x : List (List ℕ)) × (blocks_of find eof e.content ≡ Ok x) × (bytes ≡ bytes_in x) = then-ok bytes_in (blocks_of find eof e.content) bytes one in
    rw (data_parts.1, then-err directs (subs_of find eof e.subnodes) fault two) refl

-- ---- worlds

pub untouched-same : (w : World) → Untouched w w
untouched-same w = record {
  counts = record { in_faults = omega arith; out_faults = omega arith; disk_faults = omega arith };
  stays = record { written = refl; told = λ told. told; here = λ told. refl; input = λ told. refl };
  keeps_told = λ told. told;
  crash = λ i left. left;
  time = record { later = omega arith; nothing_else = λ t i le left. inl left; keeps = λ t i le left. left };
}

-- what a world holds it holds on
pub holds-still : {old new : World} {eof : ℕ} {blocks : List BlockEntry} {find : ℕ → Option (List ℕ)} → Untouched old new → Holds old eof blocks find → Holds new eof blocks find
holds-still {old} {new} {eof} {blocks} {find} same h =
    let told = tells-still same h.told in
    let here = sym (same.stays.here told.tells) in
    record {
      told = told;
      stand = subst (λ (i : Image). AllStand (file_of i) eof blocks) here h.stand;
      ascend = h.ascend;
      found = λ key. h.found key ∙ ap (λ (i : Image). found_in (file_of i) blocks key) here;
    }

-- ---- node by node

lines-cons : (find : ℕ → Option (List ℕ)) (eof : ℕ) (e : NodeEntry) (es : List NodeEntry) (line : NodeLine) (more : List NodeLine)
    → IsLineOf find eof e line → AreLines find eof es more → AreLines find eof (e ∷ es) (line ∷ more)
lines-cons find eof e es line more one rest = record {
  nodes = one.node ∷ rest.nodes;
  are = (one.node, rest.nodes, refl, one.is, rest.are);
  lines_are = cons_same line more (line_of one.node) (map line_of rest.nodes) one.line_is rest.lines_are;
}
  where
    cons_same : (a : NodeLine) (b : List NodeLine) (x : NodeLine) (y : List NodeLine) → a ≡ x → b ≡ y → a ∷ b ≡ x ∷ y
    cons_same a b x y p q = cc

-- of these entries i have given lines: what the others give completes them, and the first stop of the others is that of all
pub record Lining (find : ℕ → Option (List ℕ)) (eof : ℕ) (nodes : List NodeEntry) (i : ℕ) (lines : List NodeLine) : Type 0 where
  pub rest : (more : List NodeLine) → AreLines find eof (drop i nodes) more → AreLines find eof nodes (lines ++ more)
  pub stop : (nid : ℕ) (fault : TreeStop) → IsFirstStop find eof (drop i nodes) nid fault → IsFirstStop find eof nodes nid fault

here_is : (nodes : List NodeEntry) (i : ℕ) (d : NodeEntry) → i < length nodes → drop i nodes ≡ get_or nodes i d ∷ drop (i + 1) nodes
here_is nodes i d within = drop-here nodes i d within

pub lining-next : (find : ℕ → Option (List ℕ)) (eof : ℕ) (nodes : List NodeEntry) (i : ℕ) (d : NodeEntry) (lines : List NodeLine) (line : NodeLine) → i < length nodes
    → Lining find eof nodes i lines → IsLineOf find eof (get_or nodes i d) line → Lining find eof nodes (i + 1) (lines ++ line ∷ [])
lining-next find eof nodes i d lines line within lining one =
    let here = here_is nodes i d within in
    record {
      rest = λ more h.
          let both_are : AreLines find eof (drop i nodes) (line ∷ more) = subst (λ (es : List NodeEntry). AreLines find eof es (line ∷ more)) (sym here) (lines-cons find eof (get_or nodes i d) (drop (i + 1) nodes) line more one h) in
          subst (AreLines find eof nodes) (sym (append_assoc lines (line ∷ []) more)) (lining.rest (line ∷ more) both_are);
      stop = λ nid fault h.
          lining.stop nid fault (subst (λ (es : List NodeEntry). IsFirstStop find eof es nid fault) (sym here) (inr (one.node, one.is, h)));
    }

pub lining-end : (find : ℕ → Option (List ℕ)) (eof : ℕ) (nodes : List NodeEntry) (i : ℕ) (lines : List NodeLine) → length nodes ≤ i → Lining find eof nodes i lines → AreLines find eof nodes lines
lining-end find eof nodes i lines all lining =
    let none : AreLines find eof (drop i nodes) [] = subst (λ (es : List NodeEntry). AreLines find eof es []) (sym (drop_all i nodes all)) (record { nodes = []; are = refl; lines_are = refl }) in
    subst (AreLines find eof nodes) (append-nil lines) (lining.rest [] none)

-- the first stop, where the node of an entry stops
first-here : (find : ℕ → Option (List ℕ)) (eof : ℕ) (nodes : List NodeEntry) (i : ℕ) (d : NodeEntry) (lines : List NodeLine) (fault : TreeStop) → i < length nodes
    → Lining find eof nodes i lines → node_at find eof (get_or nodes i d) ≡ Err fault → IsFirstStop find eof nodes ((get_or nodes i d).nid).bits fault
first-here find eof nodes i d lines fault within lining stops =
    lining.stop ((get_or nodes i d).nid).bits fault
    (subst (λ (es : List NodeEntry). IsFirstStop find eof es ((get_or nodes i d).nid).bits fault) (sym (here_is nodes i d within)) (inl (refl, stops)))

-- a node's stop is one of the reading of nodes
pub stops-nodes : (old mid : World) (eof : ℕ) (blocks : List BlockEntry) (nodes : List NodeEntry) (i : ℕ) (d : NodeEntry) (lines : List NodeLine) (ib : ℕ) → i < length nodes
    → Untouched old mid → ((find : ℕ → Option (List ℕ)) → Holds old eof blocks find → Lining find eof nodes i lines)
    → (stop : MemOr TreeStop) → (rise_from 0 blocks ≡ true → ib ≡ place_in blocks stop) → StopsReading stop mid eof blocks (λ find. node_at find eof (get_or nodes i d))
    → StopsAtNodes (stop_at ib (get_or nodes i d).nid stop) old eof blocks nodes
stops-nodes old mid eof blocks nodes i d lines ib within same lining or_memory.Memory place stops = tt
stops-nodes old mid eof blocks nodes i d lines ib within same lining (or_memory.Refused (tree_stops.Source sources.Failed)) place stops = tt
stops-nodes old mid eof blocks nodes i d lines ib within same lining (or_memory.Refused (tree_stops.Source (sources.Changed at stored computed))) place stops = λ find h. stops find (holds-still same h)
stops-nodes old mid eof blocks nodes i d lines ib within same lining (or_memory.Refused (tree_stops.Form bid)) place stops = λ find h.
    record { nid = (get_or nodes i d).nid; fault = tree_stops.Form bid; is = ap (λ (n : ℕ). Refused (refusals.Block n Form)) (place h.ascend); first = first-here find eof nodes i d lines (tree_stops.Form bid) within (lining find h) (stops find (holds-still same h)) }
stops-nodes old mid eof blocks nodes i d lines ib within same lining (or_memory.Refused (tree_stops.Missing bid)) place stops = λ find h.
    record { nid = (get_or nodes i d).nid; fault = (tree_stops.Missing bid); is = refl; first = first-here find eof nodes i d lines (tree_stops.Missing bid) within (lining find h) (stops find (holds-still same h)) }
stops-nodes old mid eof blocks nodes i d lines ib within same lining (or_memory.Refused tree_stops.Long) place stops = λ find h.
    record { nid = (get_or nodes i d).nid; fault = tree_stops.Long; is = refl; first = first-here find eof nodes i d lines tree_stops.Long within (lining find h) (stops find (holds-still same h)) }
stops-nodes old mid eof blocks nodes i d lines ib within same lining (or_memory.Refused tree_stops.Deep) place stops = λ find h.
    record { nid = (get_or nodes i d).nid; fault = tree_stops.Deep; is = refl; first = first-here find eof nodes i d lines tree_stops.Deep within (lining find h) (stops find (holds-still same h)) }
stops-nodes old mid eof blocks nodes i d lines ib within same lining (or_memory.Refused tree_stops.Many) place stops = λ find h.
    record { nid = (get_or nodes i d).nid; fault = tree_stops.Many; is = refl; first = first-here find eof nodes i d lines tree_stops.Many within (lining find h) (stops find (holds-still same h)) }

-- a source of a file's blocks, as its calls' clauses see it
abbrev pub source_of : World → ℕ → List BlockEntry → ℕ → Source (Unit {0})
source_of w eof blocks changes = record { holds = Holds w eof blocks; fails = w.disk_faults; changes = changes; eof = eof; since = λ first. Unit {0} }
