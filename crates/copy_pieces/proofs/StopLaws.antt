-- Why a call stops, and blocks that are read again.
use Rattle.std.proofs.Common.{Bool, true, false, not, ◌≡◌, ◌∙◌, ℕ, ◌+◌, ◌<◌, ◌≤◌, eqb, List, [], ◌∷◌, length, take, drop, get_or, length-drop, max, Option, Result, Ok, Err, sym, ap, subst, arith, if◌then◌else◌}
use Rattle.std.proofs.lemmas.List.{length-take, take-take}
use Rattle.pst_outside.specs.World.{Image, World}
use Rattle.btree_pages.specs.declared.entry.BlockEntry.{BlockEntry}
use Rattle.btree_pages.specs.declared.entry.NodeEntry.{NodeEntry}
use Rattle.block_frame.specs.declared.block.BlockFault.{BlockFault}
use Rattle.block_frame.specs.declared.block.BlockFault.TheVariants as faults
use Rattle.block_frame.specs.Block.{reading, trailer_at}
use Rattle.block_frame.specs.Size.{disk_size_of}
use Rattle.pst_base.specs.declared.ids.Bref.{Bref}
use Rattle.pst_base.specs.Fields.{number_at}
use Rattle.pst_base.specs.Ids.{key_of}
use Rattle.pst_checksum.specs.Crc.{crc_of}
use Rattle.pst_checksum.specs.Sig.{sig_of}
use Rattle.data_tree.proofs.ListingLaws.{drop-here}
use Rattle.file_blocks.specs.Blocks.{data_at, faulty, misplaced}
use Rattle.file_layout.specs.Nodes.{AreNodes, Node, node_at}
use Rattle.lays_kept.proofs.Kept.{unless_parts}
use Rattle.node_needs.specs.Needs.{need_of, needs}
use Rattle.copy_pieces.specs.declared.stops.CompactStop.{CompactStop}
use Rattle.copy_pieces.specs.declared.stops.CompactStop.TheVariants.{Changed, Fault, Large, Memory}
use Rattle.pst_base.specs.declared.stops.MemOr.{MemOr}
use Rattle.pst_base.specs.declared.stops.MemOr.TheVariants as or_memory
use Rattle.pst_base.specs.declared.stops.SourceStop.TheVariants as sources
use Rattle.data_tree.specs.declared.source.TreeStop.{TreeStop}
use Rattle.data_tree.specs.declared.source.TreeStop.TheVariants as trees
use Rattle.data_tree.specs.Source.{Source}
use Rattle.file_blocks.specs.Stops.{Holds}
use Rattle.file_layout.specs.declared.stops.OpenStop.{OpenStop}
use Rattle.file_layout.specs.declared.stops.OpenStop.TheVariants as opens
use Rattle.file_layout.specs.declared.stops.OpenRefusal.TheVariants as refusals
use Rattle.file_layout.specs.Opening.{opening}
use Rattle.file_layout.specs.Trees.{FileTree, Found, IsWhole}
use Rattle.file_layout.specs.Walk.{StopsTree}
use Rattle.gate_file.specs.Effective.{effective, header_bytes}
use Rattle.lays_kept.proofs.Opened.{front_is, opens_parts}
use Rattle.lays_kept.proofs.Places.{blocks_places}
use Rattle.file_blocks.proofs.FileLaws.{same_length}
use Rattle.pst_header.specs.declared.header.Header.{Header}
use Rattle.pst_header.specs.Format.{reading as header_reading}
use Rattle.node_needs.specs.Needs.{StopsNeed}
use Rattle.copy_pieces.specs.Stops.{StopsCopy, StopsLook, StopsNode, look_stop, tree_stop}

-- ---- a block that stands

-- a block that reads has its data in front
reads-front : (cb : ℕ) (at : Bref) (b body : List ℕ) → reading cb at b ≡ Ok body → take cb b ≡ body
unfolding reading
reads-front cb at b body e = by (not (eqb (number_at 2 (trailer_at cb) b) cb)) (not (eqb (number_at 4 (trailer_at cb + 4) b) (crc_of (take cb b)))) (not (eqb (number_at 2 (trailer_at cb + 2) b) (sig_of at.ib (number_at 8 (trailer_at cb + 8) b))))
    (not (eqb (key_of (number_at 8 (trailer_at cb + 8) b)) (key_of (at.bid).bits))) (faults.Length (number_at 2 (trailer_at cb) b) cb) (faults.Crc (number_at 4 (trailer_at cb + 4) b) (crc_of (take cb b)))
    (faults.Sig (number_at 2 (trailer_at cb + 2) b) (sig_of at.ib (number_at 8 (trailer_at cb + 8) b))) (faults.Bid (key_of (number_at 8 (trailer_at cb + 8) b)) (key_of (at.bid).bits)) e
  where
    by : (one two three four : Bool) (x y z w : BlockFault) → (if one then Err x else (if two then Err y else (if three then Err z else (if four then Err w else Ok (take cb b))))) ≡ Ok body → take cb b ≡ body
    by true two three four x y z w e = absurd (cc)
    by false true three four x y z w e = absurd (cc)
    by false false true four x y z w e = absurd (cc)
    by false false false true x y z w e = absurd (cc)
    by false false false false x y z w e = cc

unfaulty : (r : Result (List ℕ) BlockFault) (content : List ℕ) → faulty r ≡ Ok content → r ≡ Ok content
unfaulty (Ok x) content e = cc
unfaulty (Err fault) content e = absurd (cc)

-- the data of a block that stands is what stands at its place
pub data-front : (file : List ℕ) (eof : ℕ) (e : BlockEntry) (content : List ℕ) → data_at file eof e ≡ Ok content → content ≡ take e.cb (drop (e.at).ib file)
unfolding data_at
data-front file eof e content is =
    let bytes : List ℕ = take (disk_size_of e.cb) (drop (e.at).ib file) in
    let parts = unless_parts (misplaced eof e) (faulty (reading e.cb e.at bytes)) content is in
    let front = reads-front e.cb e.at bytes content (unfaulty (reading e.cb e.at bytes) content parts.1) in
    sym front ∙ take-take e.cb (disk_size_of e.cb) (drop (e.at).ib file) (omega arith)

-- ---- nodes, one by one

pub record NodeNext (find : ℕ → Option (List ℕ)) (eof : ℕ) (e : NodeEntry) (es : List NodeEntry) (are : List Node) (most : ℕ) : Type 0 where
  pub node : Node
  pub is : node_at find eof e ≡ Ok node
  pub rest : List Node
  pub others : AreNodes find eof es rest
  pub need : needs are ≡ max (max (need_of node) most) (needs rest)

pub node-next : (find : ℕ → Option (List ℕ)) (eof : ℕ) (es : List NodeEntry) (are rest : List Node) (most i : ℕ) (d : NodeEntry) → i < length es → AreNodes find eof (drop i es) rest → needs are ≡ max most (needs rest)
    → NodeNext find eof (get_or es i d) (drop (i + 1) es) are most
node-next find eof es are rest most i d within left need =
    let here = subst (λ (l : List NodeEntry). AreNodes find eof l rest) (drop-here es i d within) left in
    let whole = ap needs here.2 in
    record { node = here.0; is = here.3; rest = here.1; others = here.4; need = omega (arith, need, whole) }

-- the length of such data
pub data-long : (main side : List ℕ) (eof : ℕ) (e : BlockEntry) (content : List ℕ) → eof ≤ length main → data_at (effective main side) eof e ≡ Ok content → length content ≡ e.cb
data-long main side eof e content whole is =
    let place = (blocks_places (effective main side) eof (e ∷ []) ((content, is), tt)).0 in
    let above = place.above in
    let before = place.before in
    let same = same_length main side (omega (arith, above, before, whole)) in
    let front = ap length (data-front (effective main side) eof e content is) in
    let left = length-drop (e.at).ib (effective main side) in
    omega (arith, front, length-take e.cb (drop (e.at).ib (effective main side)), left, same, before, whole)

-- ---- stops

pub node-stop : {A : Type 0} (stop : MemOr TreeStop) (old new : Source A) (world : World) (eof : ℕ) (blocks : List BlockEntry) (e : NodeEntry) → ((find : ℕ → Option (List ℕ)) → Holds world eof blocks find → old.holds find) → old.eof ≡ eof
    → StopsNeed stop old new e → StopsNode (look_stop stop) world eof blocks e
node-stop or_memory.Memory old new world eof blocks e holds same h = tt
node-stop (or_memory.Refused (trees.Source sources.Failed)) old new world eof blocks e holds same h = tt
node-stop (or_memory.Refused (trees.Source (sources.Changed ib stored computed))) old new world eof blocks e holds same h = λ find n told is. h.1 find (holds find told)
node-stop (or_memory.Refused (trees.Missing b)) old new world eof blocks e holds same h = λ find n told is. h find n (holds find told) (ap (λ (k : ℕ). node_at find k e) same ∙ is)
node-stop (or_memory.Refused (trees.Form b)) old new world eof blocks e holds same h = λ find n told is. h find n (holds find told) (ap (λ (k : ℕ). node_at find k e) same ∙ is)
node-stop (or_memory.Refused trees.Long) old new world eof blocks e holds same h = λ find n told is. h find n (holds find told) (ap (λ (k : ℕ). node_at find k e) same ∙ is)
node-stop (or_memory.Refused trees.Deep) old new world eof blocks e holds same h = λ find n told is. h find n (holds find told) (ap (λ (k : ℕ). node_at find k e) same ∙ is)
node-stop (or_memory.Refused trees.Many) old new world eof blocks e holds same h = λ find n told is. h find n (holds find told) (ap (λ (k : ℕ). node_at find k e) same ∙ is)

-- the stop of one node among others
pub look-stop : (stop : CompactStop) (first now : World) (eof : ℕ) (blocks : List BlockEntry) (es : List NodeEntry) (e : NodeEntry)
    → ((find : ℕ → Option (List ℕ)) (are : List Node) → Holds first eof blocks find → AreNodes find eof es are → (n : Node) × (node_at find eof e ≡ Ok n) × Holds now eof blocks find)
    → StopsNode stop now eof blocks e → StopsLook stop first eof blocks es
look-stop Fault first now eof blocks es e here h = tt
look-stop Memory first now eof blocks es e here h = tt
look-stop (Changed ib stored computed) first now eof blocks es e here h = λ find are told is. let at = here find are told is in h find at.0 at.2 at.1
look-stop (Large end) first now eof blocks es e here h = h

-- a tree that is whole is read
pub tree-stops : (stop : OpenStop) (new : World) → (new.tells → (t : FileTree) × (root : Bref) × (found : Found) × IsWhole t root found × StopsTree stop t root) → StopsCopy (tree_stop stop) new
tree-stops opens.Fault new h = tt
tree-stops opens.Memory new h = tt
tree-stops (opens.Changed ib stored computed) new h = λ told. (h told).4
tree-stops (opens.Refused (refusals.Page ib fault)) new h = λ told. let x = h told in (x.4).none x.2 x.3
tree-stops (opens.Refused refusals.Empty) new h = λ told. (h told).4
tree-stops (opens.Refused (refusals.Gate n)) new h = λ told. (h told).4
tree-stops (opens.Refused (refusals.Short n)) new h = λ told. (h told).4
tree-stops (opens.Refused (refusals.Header r)) new h = λ told. (h told).4
tree-stops (opens.Refused (refusals.Truncated m n)) new h = λ told. (h told).4
tree-stops (opens.Refused (refusals.Large n)) new h = λ told. (h told).4
tree-stops (opens.Refused (refusals.Block ib fault)) new h = λ told. (h told).4
tree-stops (opens.Refused (refusals.Missing b)) new h = λ told. (h told).4
tree-stops (opens.Refused (refusals.Overlap ib)) new h = λ told. (h told).4
tree-stops (opens.Refused (refusals.Node nid fault)) new h = λ told. (h told).4

pub changed-stop : (stop : CompactStop) (new : World) → stop ≡ Changed 0 0 0 → (new.tells → ⊥) → StopsCopy stop new
changed-stop stop new is never = subst (λ (s : CompactStop). StopsCopy s new) (sym is) never

pub changed-at : (stop : CompactStop) (new : World) (ib : ℕ) → stop ≡ Changed ib 0 0 → (new.tells → ⊥) → StopsCopy stop new
changed-at stop new ib is never = subst (λ (s : CompactStop). StopsCopy s new) (sym is) never

-- the header that counts reads as it was found
pub counted : (image : Image) (header : Header) (bytes : List ℕ) → opening image.main image.side ≡ Ok header → bytes ≡ header_bytes image.main image.side → header_reading bytes ≡ Ok header
counted image header bytes opened is =
    let parts = opens_parts image.main image.side header opened in
    ap header_reading (is ∙ sym (front_is image.main image.side)) ∙ parts.2

pub none-need : (find : ℕ → Option (List ℕ)) (eof : ℕ) (rest : List Node) {es : List NodeEntry} → es ≡ [] → AreNodes find eof es rest → needs rest ≡ 0
none-need find eof rest {es} none are = ap needs (subst (λ (l : List NodeEntry). AreNodes find eof l rest) none are)
