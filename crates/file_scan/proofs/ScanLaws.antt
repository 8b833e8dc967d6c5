-- A file lays one node map at most, and what is at fault leaves it none.
use Rattle.std.proofs.Common.{Bool, true, false, ◌≡◌, ℕ, ◌≤◌, ◌<◌, zero, suc, nat_lt, List, [], ◌∷◌, ◌++◌, map, take, drop, length, Option, Some, None, Result, Ok, Err, refl, sym, ap, subst, ◌∙◌, arith, inl, inr, if◌then◌else◌}
use Rattle.std.specs.List.{Contains}
use Rattle.pst_base.specs.declared.ids.Bref.{Bref}
use Rattle.pst_base.specs.declared.ids.Nid.{Nid}
use Rattle.pst_base.specs.declared.stops.MemOr.TheVariants as or_memory
use Rattle.pst_base.specs.declared.stops.SourceStop.TheVariants as sources
use Rattle.pst_outside.specs.World.{Image, World}
use Rattle.pst_header.specs.declared.header.Header.{Header}
use Rattle.alloc_map.specs.Standing.{standing, occupied, IsCovered, IsMeeting}
use Rattle.block_frame.specs.declared.block.BlockFault.{BlockFault}
use Rattle.block_frame.specs.Block.{reading}
use Rattle.block_frame.specs.Size.{disk_size_of}
use Rattle.btree_pages.specs.declared.entry.BlockEntry.{BlockEntry}
use Rattle.btree_pages.specs.declared.entry.NodeEntry.{NodeEntry}
use Rattle.btree_pages.specs.Entries.{block_of, node_of}
use Rattle.data_tree.specs.declared.source.TreeStop.{TreeStop}
use Rattle.data_tree.specs.declared.source.TreeStop.TheVariants as tree_stops
use Rattle.file_blocks.specs.declared.check.BlockRefusal.{BlockRefusal}
use Rattle.file_blocks.specs.declared.check.BlockRefusal.TheVariants.{Length, Outside, Faulty, Form}
use Rattle.file_blocks.specs.Blocks.{file_of, has_room, faulty, unless, misplaced, data_at, Stands, AllStand, found_in}
use Rattle.file_blocks.specs.Stops.{Tells, Holds}
use Rattle.file_scan.specs.declared.nodes.NodeLine.{NodeLine}
use Rattle.file_layout.specs.declared.stops.NodeFault.TheVariants as faults
use Rattle.file_layout.specs.declared.stops.OpenRefusal.{OpenRefusal}
use Rattle.file_layout.specs.declared.stops.OpenRefusal.TheVariants as refusals
use Rattle.file_layout.specs.declared.stops.OpenStop.{OpenStop}
use Rattle.file_layout.specs.declared.stops.OpenStop.TheVariants.{Refused, Fault, Changed, Memory}
use Rattle.file_layout.specs.Nodes.{Node, NodeMap, block_tree, node_tree, blocks_in, nodes_in, node_at, AreNodes, place_of, places_of, LARGEST, regions_to, Lays}
use Rattle.file_scan.specs.Lines.{lines_of}
use Rattle.file_layout.specs.Opening.{opening}
use Rattle.file_scan.specs.Parts.{HasBlocks, StopsAtBlock, StopsBlocks, StopsAtNodes, place_in, stop_at, AreLines, StopsAtMeeting, StopsTrees, LaysThese, StopsEof}
use Rattle.file_scan.specs.Scan.{IsFirstBad, IsFirstStop, HasBadBlock, HasBadNode, StopsScan, Scans}
use Rattle.file_layout.specs.Trees.{FileTree, Found, page_place, root_seat, IsWhole}
use Rattle.file_layout.specs.Walk.{StopsTree, Adds, AddsReached}
use Rattle.file_blocks.proofs.FileLaws.{no_shorter, same_length}
use Rattle.file_scan.proofs.OpeningLaws.{opened-long}
use Rattle.file_layout.proofs.ReachLaws.{whole-has}
use Rattle.file_layout.proofs.RiseLaws.{whole-rises, blocks-rise}
use Rattle.file_layout.proofs.WalkLaws.{whole-walk, found_same}

-- ---- once

pub whole-once : (t : FileTree) (root : Bref) (f g : Found) → IsWhole t root f → IsWhole t root g → f ≡ g
whole-once t root f g one two = found_same (whole-walk t root f one) (whole-walk t root g two)

ok_same : {E Y : Type 0} (x y : Y) → ◌≡◌ {A = Result Y E} (Ok x) (Ok y) → x ≡ y
ok_same x y h = cc

never : {E Y : Type 0} (r : Result Y E) (x : Y) (e : E) → r ≡ Ok x → r ≡ Err e → ⊥
never {E} {Y} r x e ok err = apart (sym ok ∙ err)
  where
    apart : ◌≡◌ {A = Result Y E} (Ok x) (Err e) → ⊥
    apart h = cc

cons_same : {X : Type 0} (a b : X) (xs ys : List X) → a ≡ b → xs ≡ ys → a ∷ xs ≡ b ∷ ys
cons_same a b xs ys p q = cc

pub are-once : (find : ℕ → Option (List ℕ)) (eof : ℕ) (es : List NodeEntry) (ns ms : List Node) → AreNodes find eof es ns → AreNodes find eof es ms → ns ≡ ms
are-once find eof [] ns ms one two = one ∙ sym two
are-once find eof (e ∷ es) ns ms one two =
    one.2 ∙ cons_same one.0 two.0 one.1 two.1 (ok_same {E = TreeStop} one.0 two.0 (sym one.3 ∙ two.3)) (are-once find eof es one.1 two.1 one.4 two.4) ∙ sym two.2

-- ---- never both

pub no-stop : (find : ℕ → Option (List ℕ)) (eof : ℕ) (es : List NodeEntry) (ns : List Node) (nid : ℕ) (stop : TreeStop) → AreNodes find eof es ns → IsFirstStop find eof es nid stop → ⊥
no-stop find eof [] ns nid stop are first = first
no-stop find eof (e ∷ es) ns nid stop are (inl here) = never (node_at find eof e) are.0 stop are.3 here.1
no-stop find eof (e ∷ es) ns nid stop are (inr later) = no-stop find eof es are.1 nid stop are.4 later.2

-- a block's frame is never at fault by its form
unless-form : (o : Option BlockRefusal) (r : Result (List ℕ) BlockFault) → (o ≡ Some Form → ⊥) → unless o (faulty r) ≡ Err Form → ⊥
unless-form None (Ok x) place h = ok-err h
  where
    ok-err : ◌≡◌ {A = Result (List ℕ) BlockRefusal} (Ok x) (Err Form) → ⊥
    ok-err e = cc
unless-form None (Err fault) place h = other h
  where
    other : ◌≡◌ {A = Result (List ℕ) BlockRefusal} (Err (Faulty fault)) (Err Form) → ⊥
    other e = cc
unless-form (Some refusal) r place h = place (same h)
  where
    same : ◌≡◌ {A = Result (List ℕ) BlockRefusal} (Err refusal) (Err Form) → ◌≡◌ {A = Option BlockRefusal} (Some refusal) (Some Form)
    same e = cc

two-tests : (long room : Bool) → (if long then Some Length else (if room then None else Some Outside)) ≡ Some Form → ⊥
two-tests true room h = cc
two-tests false true h = cc
two-tests false false h = cc

no-form-at : (file : List ℕ) (eof : ℕ) (e : BlockEntry) → data_at file eof e ≡ Err Form → ⊥
unfolding data_at misplaced
no-form-at file eof e h =
    unless-form (misplaced eof e) (reading e.cb e.at (take (disk_size_of e.cb) (drop e.at.ib file))) (λ is. two-tests (nat_lt 8176 e.cb) (has_room eof (disk_size_of e.cb) e.at.ib) is) h

-- ---- what a file lays

-- both trees of a file are whole, its blocks are, and so are the nodes
pub record Holding (header : Header) (file : List ℕ) (blocks : Found) (nodes : Found) : Type 0 where
  pub block_pages : IsWhole (block_tree file header.eof) header.bbt blocks
  pub stand : AllStand file header.eof (blocks_in blocks)
  pub node_pages : IsWhole (node_tree file header.eof) header.nbt nodes

pub lays-once : (header : Header) (file : List ℕ) (m n : NodeMap) → Lays header file m → Lays header file n → m ≡ n
lays-once header file m n one two =
    let blocks : one.blocks ≡ two.blocks = whole-once (block_tree file header.eof) header.bbt one.blocks two.blocks one.block_pages two.block_pages in
    let nodes : one.nodes ≡ two.nodes = whole-once (node_tree file header.eof) header.nbt one.nodes two.nodes one.node_pages two.node_pages in
    let moved : AreNodes (found_in file (blocks_in two.blocks)) header.eof (nodes_in two.nodes) m.nodes =
    subst (λ (f : Found). AreNodes (found_in file (blocks_in f)) header.eof (nodes_in two.nodes) m.nodes) blocks
    (subst (λ (f : Found). AreNodes (found_in file (blocks_in one.blocks)) header.eof (nodes_in f) m.nodes) nodes one.are) in
    map_same m n (one.counters ∙ sym two.counters) (are-once (found_in file (blocks_in two.blocks)) header.eof (nodes_in two.nodes) m.nodes n.nodes moved two.are)
  where
    map_same : (a b : NodeMap) → a.counters ≡ b.counters → a.nodes ≡ b.nodes → a ≡ b
    map_same a b p q = let pair : ◌≡◌ {A = List ℕ × List Node} (a.counters, a.nodes) (b.counters, b.nodes) = cc in ap (λ (c : List ℕ × List Node). record { counters = c.0; nodes = c.1 }) pair

-- a source of a file's blocks holds what its block tree names
pub holds-found : (world : World) (eof : ℕ) (root : Bref) (found : Found) → Tells world eof → IsWhole (block_tree (file_of world.here) eof) root found → AllStand (file_of world.here) eof (blocks_in found)
    → Holds world eof (blocks_in found) (found_in (file_of world.here) (blocks_in found))
holds-found world eof root found told pages stand = record {
  told = told;
  stand = stand;
  ascend = sym (blocks-rise found.entries 0) ∙ whole-rises (block_tree (file_of world.here) eof) root found pages;
  found = λ key. refl;
}

-- ---- stops

-- an entry of a list whose entries all name whole blocks
stands-in : (file : List ℕ) (eof : ℕ) (entries : List (List ℕ)) (e : List ℕ) → AllStand file eof (map block_of entries) → Contains entries e → Stands file eof (block_of e)
stands-in file eof [] e all has = absurd (below-none has.0 has.1)
  where
    below-none : (n : ℕ) → n < 0 → ⊥
    below-none n h = omega (arith, h)
stands-in file eof (x ∷ xs) e all (zero, within, is) = subst (λ (b : List ℕ). Stands file eof (block_of b)) is all.0
stands-in file eof (x ∷ xs) e all (suc k, within, is) = stands-in file eof xs e all.1 (k, omega (arith, within), is)

-- no node map, where an entry that is reached names a bad block
none-by-block : (header : Header) (file : List ℕ) (ib : ℕ) (fault : BlockRefusal) → HasBadBlock file header.eof header.bbt ib fault → (m : NodeMap) → Lays header file m → ⊥
none-by-block header file ib fault bad m lays =
    let has : Contains lays.blocks.entries bad.entry = whole-has (block_tree file header.eof) header.bbt lays.blocks lays.block_pages bad.entry bad.reached in
    let stands : Stands file header.eof (block_of bad.entry) = stands-in file header.eof lays.blocks.entries bad.entry lays.stand has in
    never (data_at file header.eof (block_of bad.entry)) stands.0 fault stands.1 bad.bad

-- the first bad block of some entries
first-bad : (file : List ℕ) (eof : ℕ) (some : List (List ℕ)) (ib : ℕ) (fault : BlockRefusal) → IsFirstBad file eof (map block_of some) ib fault
    → (entry : List ℕ) × Contains some entry × ((block_of entry).at.ib ≡ ib) × (data_at file eof (block_of entry) ≡ Err fault)
first-bad file eof [] ib fault bad = absurd bad
first-bad file eof (e ∷ es) ib fault (inl here) = (e, (0, omega arith, refl), here.0, here.1)
first-bad file eof (e ∷ es) ib fault (inr later) =
    let more : (entry : List ℕ) × Contains es entry × ((block_of entry).at.ib ≡ ib) × (data_at file eof (block_of entry) ≡ Err fault) = first-bad file eof es ib fault later.1 in
    let within = more.1.1 in
    (more.0, (suc more.1.0, omega (arith, within), more.1.2), more.2, more.3)

bad-reached : (file : List ℕ) (eof : ℕ) (root : Bref) (old blocks : List BlockEntry) (ib : ℕ) (fault : BlockRefusal) → old ≡ [] → AddsReached block_of (block_tree file eof) (root_seat root) old blocks
    → IsFirstBad file eof blocks ib fault → HasBadBlock file eof root ib fault
bad-reached file eof root old blocks ib fault none adds first =
    let all : blocks ≡ map block_of adds.some = adds.entries ∙ ap (λ (es : List BlockEntry). es ++ map block_of adds.some) none in
    let bad : (entry : List ℕ) × Contains adds.some entry × ((block_of entry).at.ib ≡ ib) × (data_at file eof (block_of entry) ≡ Err fault) =
    first-bad file eof adds.some ib fault (subst (λ (es : List BlockEntry). IsFirstBad file eof es ib fault) all first) in
    record { entry = bad.0; reached = adds.reached bad.0 bad.1; place = bad.2; bad = bad.3 }

-- a stop at a block of entries that are reached
pub block-stops : (file : List ℕ) (eof : ℕ) (root : Bref) (old blocks bs : List BlockEntry) (stop : OpenStop) → old ≡ [] → AddsReached block_of (block_tree file eof) (root_seat root) old blocks → bs ≡ blocks
    → StopsAtBlock stop file eof bs → StopsBlocks stop file eof root
block-stops file eof root old blocks bs Memory none adds same stops = tt
block-stops file eof root old blocks bs Fault none adds same stops = tt
block-stops file eof root old blocks bs (Changed ib stored computed) none adds same stops = absurd stops
block-stops file eof root old blocks bs (Refused (refusals.Block ib fault)) none adds same stops =
    bad-reached file eof root old blocks ib fault none adds (subst (λ (es : List BlockEntry). IsFirstBad file eof es ib fault) same stops)
block-stops file eof root old blocks bs (Refused (refusals.Page ib fault)) none adds same stops = absurd stops
block-stops file eof root old blocks bs (Refused refusals.Empty) none adds same stops = absurd stops
block-stops file eof root old blocks bs (Refused (refusals.Gate len)) none adds same stops = absurd stops
block-stops file eof root old blocks bs (Refused (refusals.Short len)) none adds same stops = absurd stops
block-stops file eof root old blocks bs (Refused (refusals.Header refusal)) none adds same stops = absurd stops
block-stops file eof root old blocks bs (Refused (refusals.Truncated len end)) none adds same stops = absurd stops
block-stops file eof root old blocks bs (Refused (refusals.Large end)) none adds same stops = absurd stops
block-stops file eof root old blocks bs (Refused (refusals.Missing bid)) none adds same stops = absurd stops
block-stops file eof root old blocks bs (Refused (refusals.Overlap ib)) none adds same stops = absurd stops
block-stops file eof root old blocks bs (Refused (refusals.Node nid fault)) none adds same stops = absurd stops

pub blocks-stops : (header : Header) (file : List ℕ) (stop : OpenStop) → StopsBlocks stop file header.eof header.bbt → StopsTrees stop header file
blocks-stops header file Memory stops = tt
blocks-stops header file Fault stops = tt
blocks-stops header file (Changed ib stored computed) stops = stops
blocks-stops header file (Refused (refusals.Page ib fault)) stops = (inl stops, λ m lays. stops.none lays.blocks lays.block_pages)
blocks-stops header file (Refused (refusals.Block ib Form)) stops = absurd (no-form-at file header.eof (block_of stops.entry) stops.bad)
blocks-stops header file (Refused (refusals.Block ib Length)) stops = (stops, none-by-block header file ib Length stops)
blocks-stops header file (Refused (refusals.Block ib Outside)) stops = (stops, none-by-block header file ib Outside stops)
blocks-stops header file (Refused (refusals.Block ib (Faulty fault))) stops = (stops, none-by-block header file ib (Faulty fault) stops)
blocks-stops header file (Refused refusals.Empty) stops = absurd stops
blocks-stops header file (Refused (refusals.Gate len)) stops = absurd stops
blocks-stops header file (Refused (refusals.Short len)) stops = absurd stops
blocks-stops header file (Refused (refusals.Header refusal)) stops = absurd stops
blocks-stops header file (Refused (refusals.Truncated len eof)) stops = absurd stops
blocks-stops header file (Refused (refusals.Large eof)) stops = absurd stops
blocks-stops header file (Refused (refusals.Missing bid)) stops = absurd stops
blocks-stops header file (Refused (refusals.Overlap ib)) stops = absurd stops
blocks-stops header file (Refused (refusals.Node nid fault)) stops = absurd stops

pub nodes-stops : (header : Header) (file : List ℕ) (stop : OpenStop) → StopsTree stop (node_tree file header.eof) header.nbt → StopsTrees stop header file
nodes-stops header file Memory stops = tt
nodes-stops header file Fault stops = tt
nodes-stops header file (Changed ib stored computed) stops = stops
nodes-stops header file (Refused (refusals.Page ib fault)) stops = (inr stops, λ m lays. stops.none lays.nodes lays.node_pages)
nodes-stops header file (Refused (refusals.Block ib fault)) stops = absurd stops
nodes-stops header file (Refused refusals.Empty) stops = absurd stops
nodes-stops header file (Refused (refusals.Gate len)) stops = absurd stops
nodes-stops header file (Refused (refusals.Short len)) stops = absurd stops
nodes-stops header file (Refused (refusals.Header refusal)) stops = absurd stops
nodes-stops header file (Refused (refusals.Truncated len eof)) stops = absurd stops
nodes-stops header file (Refused (refusals.Large eof)) stops = absurd stops
nodes-stops header file (Refused (refusals.Missing bid)) stops = absurd stops
nodes-stops header file (Refused (refusals.Overlap ib)) stops = absurd stops
nodes-stops header file (Refused (refusals.Node nid fault)) stops = absurd stops

-- no node map, where the first bad node is known
none-by-node : (header : Header) (file : List ℕ) (blocks nodes : Found) (nid : ℕ) (fault : TreeStop) → Holding header file blocks nodes
    → IsFirstStop (found_in file (blocks_in blocks)) header.eof (nodes_in nodes) nid fault → (m : NodeMap) → Lays header file m → ⊥
none-by-node header file blocks nodes nid fault holding first m lays =
    let one : lays.blocks ≡ blocks = whole-once (block_tree file header.eof) header.bbt lays.blocks blocks lays.block_pages holding.block_pages in
    let two : lays.nodes ≡ nodes = whole-once (node_tree file header.eof) header.nbt lays.nodes nodes lays.node_pages holding.node_pages in
    let moved : AreNodes (found_in file (blocks_in blocks)) header.eof (nodes_in nodes) m.nodes =
    subst (λ (f : Found). AreNodes (found_in file (blocks_in f)) header.eof (nodes_in nodes) m.nodes) one
    (subst (λ (f : Found). AreNodes (found_in file (blocks_in lays.blocks)) header.eof (nodes_in f) m.nodes) two lays.are) in
    no-stop (found_in file (blocks_in blocks)) header.eof (nodes_in nodes) m.nodes nid fault moved first

bad-node : (header : Header) (file : List ℕ) (blocks nodes : Found) (nid : ℕ) (fault : TreeStop) → Holding header file blocks nodes
    → IsFirstStop (found_in file (blocks_in blocks)) header.eof (nodes_in nodes) nid fault → HasBadNode header file nid fault
bad-node header file blocks nodes nid fault holding first =
    record { blocks = blocks; block_pages = holding.block_pages; stand = holding.stand; nodes = nodes; node_pages = holding.node_pages; first = first }

refusal_same : (a b : OpenRefusal) → Refused a ≡ Refused b → a ≡ b
refusal_same a b h = cc

by-fault : (header : Header) (file : List ℕ) (blocks nodes : Found) (nid : Nid) (refusal : OpenRefusal) (fault : TreeStop) → Holding header file blocks nodes
    → Refused refusal ≡ stop_at (place_in (blocks_in blocks) (or_memory.Refused fault)) nid (or_memory.Refused fault)
    → IsFirstStop (found_in file (blocks_in blocks)) header.eof (nodes_in nodes) nid.bits fault → StopsTrees (Refused refusal) header file
unfolding bad-node
by-fault header file blocks nodes nid refusal (tree_stops.Missing bid) holding is first =
    subst (λ (r : OpenRefusal). StopsTrees (Refused r) header file) (sym (refusal_same refusal (refusals.Missing bid) is))
    ((nid.bits, bad-node header file blocks nodes nid.bits (tree_stops.Missing bid) holding first), none-by-node header file blocks nodes nid.bits (tree_stops.Missing bid) holding first)
by-fault header file blocks nodes nid refusal (tree_stops.Form bid) holding is first =
    let ib = place_in (blocks_in blocks) (or_memory.Refused (tree_stops.Form bid)) in
    subst (λ (r : OpenRefusal). StopsTrees (Refused r) header file) (sym (refusal_same refusal (refusals.Block ib Form) is))
    (record { nid = nid.bits; bid = bid; bad = bad-node header file blocks nodes nid.bits (tree_stops.Form bid) holding first; place = refl }, none-by-node header file blocks nodes nid.bits (tree_stops.Form bid) holding first)
by-fault header file blocks nodes nid refusal tree_stops.Long holding is first =
    subst (λ (r : OpenRefusal). StopsTrees (Refused r) header file) (sym (refusal_same refusal (refusals.Node nid faults.Long) is))
    (bad-node header file blocks nodes nid.bits tree_stops.Long holding first, none-by-node header file blocks nodes nid.bits tree_stops.Long holding first)
by-fault header file blocks nodes nid refusal tree_stops.Deep holding is first =
    subst (λ (r : OpenRefusal). StopsTrees (Refused r) header file) (sym (refusal_same refusal (refusals.Node nid faults.Deep) is))
    (bad-node header file blocks nodes nid.bits tree_stops.Deep holding first, none-by-node header file blocks nodes nid.bits tree_stops.Deep holding first)
by-fault header file blocks nodes nid refusal tree_stops.Many holding is first =
    subst (λ (r : OpenRefusal). StopsTrees (Refused r) header file) (sym (refusal_same refusal (refusals.Node nid faults.Many) is))
    (bad-node header file blocks nodes nid.bits tree_stops.Many holding first, none-by-node header file blocks nodes nid.bits tree_stops.Many holding first)
by-fault header file blocks nodes nid refusal (tree_stops.Source sources.Failed) holding is first = absurd (apart is)
  where
    apart : Refused refusal ≡ Fault → ⊥
    apart h = cc
by-fault header file blocks nodes nid refusal (tree_stops.Source (sources.Changed ib stored computed)) holding is first = absurd (apart is)
  where
    apart : Refused refusal ≡ Changed ib stored computed → ⊥
    apart h = cc

pub lines-stops : (header : Header) (file : List ℕ) (world : World) (blocks nodes : Found) (stop : OpenStop) → Holding header file blocks nodes
    → Holds world header.eof (blocks_in blocks) (found_in file (blocks_in blocks)) → StopsAtNodes stop world header.eof (blocks_in blocks) (nodes_in nodes) → StopsTrees stop header file
lines-stops header file world blocks nodes Memory holding holds stops = tt
lines-stops header file world blocks nodes Fault holding holds stops = tt
lines-stops header file world blocks nodes (Changed ib stored computed) holding holds stops = stops (found_in file (blocks_in blocks)) holds
lines-stops header file world blocks nodes (Refused refusal) holding holds stops =
    let stop = stops (found_in file (blocks_in blocks)) holds in
    by-fault header file blocks nodes stop.nid refusal stop.fault holding stop.is stop.first

pub places-stops : (header : Header) (file : List ℕ) (blocks nodes : Found) (stop : OpenStop) → Holding header file blocks nodes
    → StopsAtMeeting stop (places_of blocks nodes) (regions_to header.eof) → StopsTrees stop header file
places-stops header file blocks nodes Memory holding stops = tt
places-stops header file blocks nodes Fault holding stops = tt
places-stops header file blocks nodes (Changed ib stored computed) holding stops = stops
places-stops header file blocks nodes (Refused (refusals.Overlap ib)) holding stops = (
  record { blocks = blocks; block_pages = holding.block_pages; nodes = nodes; node_pages = holding.node_pages; meet = stops },
  λ m lays.
      let one : blocks ≡ lays.blocks = whole-once (block_tree file header.eof) header.bbt blocks lays.blocks holding.block_pages lays.block_pages in
      let two : nodes ≡ lays.nodes = whole-once (node_tree file header.eof) header.nbt nodes lays.nodes holding.node_pages lays.node_pages in
      lays.apart stops.slot (subst (λ (f : Found). IsMeeting (standing (places_of f lays.nodes) (regions_to header.eof)) stops.slot) one
      (subst (λ (f : Found). IsMeeting (standing (places_of blocks f) (regions_to header.eof)) stops.slot) two stops.meets)),
)
places-stops header file blocks nodes (Refused (refusals.Page ib fault)) holding stops = absurd stops
places-stops header file blocks nodes (Refused (refusals.Block ib fault)) holding stops = absurd stops
places-stops header file blocks nodes (Refused refusals.Empty) holding stops = absurd stops
places-stops header file blocks nodes (Refused (refusals.Gate len)) holding stops = absurd stops
places-stops header file blocks nodes (Refused (refusals.Short len)) holding stops = absurd stops
places-stops header file blocks nodes (Refused (refusals.Header refusal)) holding stops = absurd stops
places-stops header file blocks nodes (Refused (refusals.Truncated len eof)) holding stops = absurd stops
places-stops header file blocks nodes (Refused (refusals.Large eof)) holding stops = absurd stops
places-stops header file blocks nodes (Refused (refusals.Missing bid)) holding stops = absurd stops
places-stops header file blocks nodes (Refused (refusals.Node nid fault)) holding stops = absurd stops

-- ---- a whole file

pub lays-these : (header : Header) (file : List ℕ) (blocks nodes : Found) (lines : List NodeLine) (slots : List Bool) → Holding header file blocks nodes → header.eof ≤ length file → header.eof ≤ LARGEST
    → AreLines (found_in file (blocks_in blocks)) header.eof (nodes_in nodes) lines → ((slot : ℕ) → IsMeeting (standing (places_of blocks nodes) (regions_to header.eof)) slot → ⊥)
    → IsCovered (occupied (places_of blocks nodes) 8192) slots → LaysThese header file (blocks_in blocks) (nodes_in nodes) (blocks.pages ++ nodes.pages) lines slots
lays-these header file blocks nodes lines slots holding whole small are apart used = record {
  nodes = record { counters = header.indexes; nodes = are.nodes };
  lays = record {
    long_enough = whole;
    small_enough = small;
    blocks = blocks;
    block_pages = holding.block_pages;
    stand = holding.stand;
    nodes = nodes;
    node_pages = holding.node_pages;
    are = are.are;
    apart = apart;
    counters = refl;
  };
  lines_are = are.lines_are;
  blocks_are = refl;
  entries_are = refl;
  pages_are = refl;
  used = used;
}

-- the trees' stops are the scan's
pub trees-stops : (image : Image) (header : Header) (stop : OpenStop) → opening image.main image.side ≡ Ok header → header.eof ≤ length (file_of image) → header.eof ≤ LARGEST → StopsTrees stop header (file_of image) → StopsScan stop image
trees-stops image header Memory opened whole small stops = tt
trees-stops image header Fault opened whole small stops = tt
trees-stops image header (Changed ib stored computed) opened whole small stops = stops
trees-stops image header (Refused refusal) opened whole small stops = inr (record { header = header; opened = opened; fault = stops.0; long = λ other. (whole, small); none = stops.1 })

-- ---- what the calls gave

pub record Gathered (header : Header) (file : List ℕ) (blocks : List BlockEntry) (nodes : List NodeEntry) (pages : List Bref) : Type 0 where
  pub block_found : Found
  pub node_found : Found
  pub holding : Holding header file block_found node_found
  pub blocks_are : blocks ≡ blocks_in block_found
  pub nodes_are : nodes ≡ nodes_in node_found
  pub pages_are : pages ≡ block_found.pages ++ node_found.pages

pub gathered : (header : Header) (first mid : Image) (blocks : List BlockEntry) (old nodes : List NodeEntry) (pages all : List Bref) → mid ≡ first → old ≡ []
    → HasBlocks (file_of first) header.eof header.bbt blocks pages → (found : Found) → IsWhole (node_tree (file_of mid) header.eof) header.nbt found → Adds node_of found old nodes pages all
    → Gathered header (file_of mid) blocks nodes all
gathered header first mid blocks old nodes pages all same none has found whole adds = record {
  block_found = has.found;
  node_found = found;
  holding = record {
    block_pages = subst (λ (i : Image). IsWhole (block_tree (file_of i) header.eof) header.bbt has.found) (sym same) has.whole;
    stand = subst (λ (i : Image). AllStand (file_of i) header.eof (blocks_in has.found)) (sym same) (subst (AllStand (file_of first) header.eof) has.blocks_are has.stand);
    node_pages = whole;
  };
  blocks_are = has.blocks_are;
  nodes_are = adds.entries ∙ ap (λ (es : List NodeEntry). es ++ nodes_in found) none;
  pages_are = adds.pages ∙ ap (λ (ps : List Bref). ps ++ found.pages) has.pages_are;
}

holds-gathered : (header : Header) (world : World) (blocks : List BlockEntry) (nodes : List NodeEntry) (pages : List Bref) → Tells world header.eof
    → (all : Gathered header (file_of world.here) blocks nodes pages) → Holds world header.eof (blocks_in all.block_found) (found_in (file_of world.here) (blocks_in all.block_found))
holds-gathered header world blocks nodes pages told all = holds-found world header.eof header.bbt all.block_found told all.holding.block_pages all.holding.stand

-- (the calls got slices of the lists)
pub lines-stopped : (header : Header) (world : World) (blocks bs : List BlockEntry) (nodes ns : List NodeEntry) (pages : List Bref) → Tells world header.eof → Gathered header (file_of world.here) blocks nodes pages
    → bs ≡ blocks → ns ≡ nodes → (stop : OpenStop) → StopsAtNodes stop world header.eof bs ns → StopsTrees stop header (file_of world.here)
lines-stopped header world blocks bs nodes ns pages told all one two stop stops =
    lines-stops header (file_of world.here) world all.block_found all.node_found stop all.holding (holds-gathered header world blocks nodes pages told all)
    (subst (λ (es : List BlockEntry). StopsAtNodes stop world header.eof es (nodes_in all.node_found)) (one ∙ all.blocks_are)
    (subst (λ (es : List NodeEntry). StopsAtNodes stop world header.eof bs es) (two ∙ all.nodes_are) stops))

pub places-stopped : (header : Header) (file : List ℕ) (blocks bs : List BlockEntry) (nodes : List NodeEntry) (pages ps : List Bref) → Gathered header file blocks nodes pages → bs ≡ blocks → ps ≡ pages
    → (stop : OpenStop) → StopsAtMeeting stop (map page_place ps ++ map place_of bs) (regions_to header.eof) → StopsTrees stop header file
places-stopped header file blocks bs nodes pages ps all one two stop stops =
    places-stops header file all.block_found all.node_found stop all.holding
    (subst (λ (es : List Bref). StopsAtMeeting stop (map page_place es ++ map place_of (blocks_in all.block_found)) (regions_to header.eof)) (two ∙ all.pages_are)
    (subst (λ (es : List BlockEntry). StopsAtMeeting stop (map page_place ps ++ map place_of es) (regions_to header.eof)) (one ∙ all.blocks_are) stops))

pub lines-laid : (header : Header) (world : World) (blocks bs more : List BlockEntry) (nodes ns : List NodeEntry) (pages ps : List Bref) (lines : List NodeLine) (slots : List Bool) → Tells world header.eof
    → Gathered header (file_of world.here) blocks nodes pages → bs ≡ blocks → more ≡ blocks → ns ≡ nodes → ps ≡ pages → header.eof ≤ LARGEST
    → ((find : ℕ → Option (List ℕ)) → Holds world header.eof bs find → AreLines find header.eof ns lines)
    → ((slot : ℕ) → IsMeeting (standing (map page_place ps ++ map place_of more) (regions_to header.eof)) slot → ⊥)
    → IsCovered (occupied (map page_place ps ++ map place_of more) 8192) slots → LaysThese header (file_of world.here) blocks nodes pages lines slots
lines-laid header world blocks bs more nodes ns pages ps lines slots told all one other two three small are apart used =
    let file = file_of world.here in
    let regions = regions_to header.eof in
    let B = all.block_found in
    let N = all.node_found in
    let find = found_in file (blocks_in B) in
    let long = no_shorter world.here.main world.here.side in
    let whole = told.whole in
    let laid : LaysThese header file (blocks_in B) (nodes_in N) (B.pages ++ N.pages) lines slots =
    lays-these header file B N lines slots all.holding (omega (arith, whole, long)) small
    (subst (λ (es : List NodeEntry). AreLines find header.eof es lines) (two ∙ all.nodes_are)
    (are find (subst (λ (es : List BlockEntry). Holds world header.eof es find) (sym (one ∙ all.blocks_are)) (holds-gathered header world blocks nodes pages told all))))
    (subst (λ (es : List Bref). (slot : ℕ) → IsMeeting (standing (map page_place es ++ map place_of (blocks_in B)) regions) slot → ⊥) (three ∙ all.pages_are)
    (subst (λ (es : List BlockEntry). (slot : ℕ) → IsMeeting (standing (map page_place ps ++ map place_of es) regions) slot → ⊥) (other ∙ all.blocks_are) apart))
    (subst (λ (es : List Bref). IsCovered (occupied (map page_place es ++ map place_of (blocks_in B)) 8192) slots) (three ∙ all.pages_are)
    (subst (λ (es : List BlockEntry). IsCovered (occupied (map page_place ps ++ map place_of es) 8192) slots) (other ∙ all.blocks_are) used)) in
    subst (λ (es : List BlockEntry). LaysThese header file es nodes pages lines slots) (sym all.blocks_are)
    (subst (λ (es : List NodeEntry). LaysThese header file (blocks_in B) es pages lines slots) (sym all.nodes_are)
    (subst (λ (es : List Bref). LaysThese header file (blocks_in B) (nodes_in N) es lines slots) (sym all.pages_are) laid))

-- ---- the header's end

-- a header's end that is at fault is a stop at the trees
pub eof-trees : (image : Image) (header : Header) (stop : OpenStop) → 564 ≤ length image.main → StopsEof stop (length image.main) header.eof → StopsTrees stop header (file_of image)
eof-trees image header Fault long stops = tt
eof-trees image header Memory long stops = tt
eof-trees image header (Changed ib stored computed) long stops = absurd stops
eof-trees image header (Refused (refusals.Truncated len eof)) long stops =
    let less = stops.2 in
    let one = stops.0 in
    let two = stops.1 in
    let same = same_length image.main image.side long in
    ((omega (arith, one, same), two, omega (arith, one, two, less)), λ m lays. let h = lays.long_enough in never-less (length image.main) header.eof (length (file_of image)) less same h)
  where
    never-less : (a b c : ℕ) → a < b → c ≡ a → b ≤ c → ⊥
    never-less a b c p q r = omega (arith, p, q, r)
eof-trees image header (Refused (refusals.Large eof)) long stops =
    let end = stops.0 in
    let within = stops.1 in
    let over = stops.2 in
    let same = same_length image.main image.side long in
    ((end, omega (arith, end, within, same), omega (arith, end, over)), λ m lays. let h = lays.small_enough in never-both (header.eof) LARGEST over h)
  where
    never-both : (a b : ℕ) → b < a → a ≤ b → ⊥
    never-both a b p q = omega (arith, p, q)
eof-trees image header (Refused refusals.Empty) long stops = absurd stops
eof-trees image header (Refused (refusals.Gate len)) long stops = absurd stops
eof-trees image header (Refused (refusals.Short len)) long stops = absurd stops
eof-trees image header (Refused (refusals.Header refusal)) long stops = absurd stops
eof-trees image header (Refused (refusals.Page ib fault)) long stops = absurd stops
eof-trees image header (Refused (refusals.Block ib fault)) long stops = absurd stops
eof-trees image header (Refused (refusals.Missing bid)) long stops = absurd stops
eof-trees image header (Refused (refusals.Overlap ib)) long stops = absurd stops
eof-trees image header (Refused (refusals.Node nid fault)) long stops = absurd stops

pub eof-stops : (image : Image) (header : Header) (stop : OpenStop) → opening image.main image.side ≡ Ok header → StopsEof stop (length image.main) header.eof → StopsScan stop image
eof-stops image header Fault opened stops = tt
eof-stops image header Memory opened stops = tt
eof-stops image header (Changed ib stored computed) opened stops = absurd stops
eof-stops image header (Refused (refusals.Truncated len eof)) opened stops =
    let found = eof-trees image header (Refused (refusals.Truncated len eof)) (opened-long image.main image.side header opened) stops in
    inr (record { header = header; opened = opened; fault = found.0; long = λ other. absurd (cc); none = found.1 })
eof-stops image header (Refused (refusals.Large eof)) opened stops =
    let found = eof-trees image header (Refused (refusals.Large eof)) (opened-long image.main image.side header opened) stops in
    inr (record { header = header; opened = opened; fault = found.0; long = λ other. absurd (cc); none = found.1 })
eof-stops image header (Refused refusals.Empty) opened stops = absurd stops
eof-stops image header (Refused (refusals.Gate len)) opened stops = absurd stops
eof-stops image header (Refused (refusals.Short len)) opened stops = absurd stops
eof-stops image header (Refused (refusals.Header refusal)) opened stops = absurd stops
eof-stops image header (Refused (refusals.Page ib fault)) opened stops = absurd stops
eof-stops image header (Refused (refusals.Block ib fault)) opened stops = absurd stops
eof-stops image header (Refused (refusals.Missing bid)) opened stops = absurd stops
eof-stops image header (Refused (refusals.Overlap ib)) opened stops = absurd stops
eof-stops image header (Refused (refusals.Node nid fault)) opened stops = absurd stops

pub scans-of : (image : Image) (header : Header) (blocks : List BlockEntry) (entries : List NodeEntry) (pages : List Bref) (lines : List NodeLine) (slots : List Bool) → opening image.main image.side ≡ Ok header
    → LaysThese header (file_of image) blocks entries pages lines slots → Scans image lines
scans-of image header blocks entries pages lines slots opened laid = record { header = header; opened = opened; nodes = laid.nodes; lays = laid.lays; listed = laid.lines_are }

pub scans-once : (image : Image) (header other : Header) (blocks : List BlockEntry) (entries : List NodeEntry) (pages : List Bref) (lines : List NodeLine) (slots : List Bool) (m : NodeMap) → opening image.main image.side ≡ Ok header
    → LaysThese header (file_of image) blocks entries pages lines slots → opening image.main image.side ≡ Ok other → Lays other (file_of image) m → lines ≡ lines_of m
scans-once image header other blocks entries pages lines slots m opened laid opens lays =
    let same : other ≡ header = ok_same {E = OpenRefusal} other header (sym opens ∙ opened) in
    laid.lines_are ∙ ap lines_of (lays-once header (file_of image) laid.nodes m laid.lays (subst (λ (h : Header). Lays h (file_of image) m) same lays))
