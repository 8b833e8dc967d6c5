-- What makes a file lay nodes anew: pages and blocks that were sealed and stand, nodes that are kept, and another header over the same bytes.
use Rattle.std.proofs.Common.{Bool, true, false, ◌≡◌, ◌∙◌, ℕ, ◌+◌, ◌-◌, ◌%◌, ◌≤◌, ltb, List, [], ◌∷◌, ◌++◌, length, take, drop, map, Option, Some, None, Ok, refl, sym, ap, subst, arith, length-drop, length-append, if◌then◌else◌}
use Rattle.std.proofs.lemmas.Bool.{le-leb, eq-eqb, le-ltb}
use Rattle.std.proofs.lemmas.List.{drop-drop, drop_at}
use Rattle.pst_base.specs.declared.places.Place.{Place}
use Rattle.page_frame.specs.Page.{IsPage}
use Rattle.block_frame.specs.Block.{IsBlock, reading}
use Rattle.block_frame.specs.Size.{disk_size_of}
use Rattle.btree_pages.specs.Pages.{Page}
use Rattle.btree_pages.specs.declared.entry.BlockEntry.{BlockEntry}
use Rattle.btree_pages.specs.declared.entry.NodeEntry.{NodeEntry}
use Rattle.file_blocks.specs.Blocks.{has_room, misplaced, faulty, data_at, Stands, found_in}
use Rattle.pst_header.specs.declared.header.Header.{Header}
use Rattle.file_layout.specs.declared.tree_pages.Seat.{Seat}
use Rattle.file_layout.specs.Trees.{IsPlace}
use Rattle.file_layout.specs.Trees.{FileTree, IsTreePage, page_in, Found, IsWhole, root_seat, page_place}
use Rattle.file_layout.specs.Nodes.{NodeMap, Node, Lays, block_tree, node_tree, blocks_in, nodes_in, place_of, places_of, node_at, regions_to, LARGEST}
use Rattle.alloc_map.specs.Standing.{standing, IsMeeting}
use Rattle.lays_kept.specs.Kept.{Each, SameAt}
use Rattle.lays_kept.specs.Saved.{SameTrees}
use Rattle.data_tree.specs.Grown.{FindsAll}
use Rattle.lays_kept.specs.Grown.{restricted, NeedsOnly}
use Rattle.lays_kept.proofs.Kept.{each_front, each_back, pages_front, pages_back, tree_kept, all_kept, found_kept}
use Rattle.lays_kept.proofs.Places.{lays_places}
use Rattle.lays_kept.proofs.Grown.{node_gives, nodes_give}

-- ---- new pages and blocks

-- a block that was sealed for its place stands there
pub block_stands : (file : List ℕ) (eof : ℕ) (e : BlockEntry) (body bytes : List ℕ) → IsBlock e.at body bytes → e.cb ≡ length body → e.cb ≤ 8176 → IsPlace eof (place_of e)
    → take (disk_size_of e.cb) (drop e.at.ib file) ≡ bytes → Stands file eof e
unfolding data_at misplaced
block_stands file eof e body bytes sealed size short place here =
    let read : reading e.cb e.at (take (disk_size_of e.cb) (drop e.at.ib file)) ≡ Ok body = ap (reading e.cb e.at) here ∙ ap (λ k. reading k e.at bytes) size ∙ sealed.1 in
    let room : has_room eof (disk_size_of e.cb) e.at.ib ≡ true =
    rw (le-leb 0x4400 e.at.ib place.above, eq-eqb (e.at.ib % 64) 0 place.start, le-leb (e.at.ib + disk_size_of e.cb) eof place.before) refl in
    let low : ltb 8176 e.cb ≡ false = le-ltb 8176 e.cb short in
    (body, rw (low, room) (ap faulty read))

-- a page that was sealed for its place stands there
pub page_stands : (t : FileTree) (seat : Seat) (page : Page) (body bytes : List ℕ) → IsPage t.kind seat.at body bytes → IsPlace t.eof (record { ib = seat.at.ib; len = 512 })
    → page_in t.rule t.leaf seat body ≡ Ok page → take 512 (drop seat.at.ib t.file) ≡ bytes → IsTreePage t seat page
page_stands t seat page body bytes sealed place content here = record {
  body = body;
  stands = record { multiple = place.start; above = place.above; before = place.before; framed = subst (IsPage t.kind seat.at body) (sym here) sealed };
  content = content;
}

-- ---- nodes that are kept

-- a node reads the same where the blocks that it needs are found still, and the file is no shorter
pub node_kept : (find found : ℕ → Option (List ℕ)) (eof longer : ℕ) (e : NodeEntry) (some : ℕ → Bool) (n : Node) → NeedsOnly find eof e some
    → ((key : ℕ) (b : List ℕ) → some key ≡ true → find key ≡ Some b → found key ≡ Some b) → eof ≤ longer → node_at find eof e ≡ Ok n → node_at found longer e ≡ Ok n
node_kept find found eof longer e some n needs still grows is =
    node_gives (restricted some find) found finds eof longer grows e n (needs n is)
  where
    by : (key : ℕ) (b : List ℕ) (t : Bool) → some key ≡ t → (if t then find key else None) ≡ Some b → found key ≡ Some b
    by key b true is_some h = still key b is_some h
    by key b false is_some h = absurd (cc)

    finds : FindsAll (restricted some find) found
    finds key b h = by key b (some key) refl h

-- ---- another header over the same bytes

-- behind a header of 564 bytes the bytes are the same
pub behind : (header file : List ℕ) (at n : ℕ) → length header ≡ 564 → 564 ≤ at → take n (drop at (header ++ drop 564 file)) ≡ take n (drop at file)
behind header file at n size low =
    let whole : List ℕ = header ++ drop 564 file in
    let later : (l : List ℕ) → drop at l ≡ drop (at - 564) (drop 564 l) = λ l. let e : at ≡ 564 + (at - 564) = omega (arith, low) in ap (λ k. drop k l) e ∙ sym (drop-drop (at - 564) 564 l) in
    ap (take n) (later whole ∙ ap (drop (at - 564)) (drop_at header (drop 564 file) 564 size) ∙ sym (later file))

-- and so it is at places above it
pub behind_all : (header file : List ℕ) (eof : ℕ) → length header ≡ 564 → (ps : List Place) → Each (IsPlace eof) ps → Each (SameAt file (header ++ drop 564 file)) ps
behind_all header file eof size [] places = tt
behind_all header file eof size (p ∷ ps) places = (behind header file p.ib p.len size (omega (arith, places.0.above)), behind_all header file eof size ps places.1)

-- the file under another header lays the same nodes, if that names the same trees, and an end that isn't before the old one and in the same region
abbrev pub lays_under : (old new : Header) (header file : List ℕ) (m : NodeMap) → Lays old file m → SameTrees old new → old.eof ≤ new.eof → new.eof ≤ length file → new.eof ≤ LARGEST → regions_to new.eof ≡ regions_to old.eof
    → length header ≡ 564 → 564 ≤ length file → Lays new (header ++ drop 564 file) m
lays_under old new header file m is same longer within small regions size long =
    let whole : List ℕ = header ++ drop 564 file in
    let len : length whole ≡ length file = omega (arith, length-append header (drop 564 file), length-drop 564 file, size, long) in
    let blocks : Found = is.blocks in
    let nodes : Found = is.nodes in
    let S : Place → Type 0 = SameAt file whole in
    let all : Each S (places_of blocks nodes) = behind_all header file old.eof size (places_of blocks nodes) (lays_places old file m is) in
    let pages : Each S (map page_place (blocks.pages ++ nodes.pages)) = each_front S (map page_place (blocks.pages ++ nodes.pages)) (map place_of (blocks_in blocks)) all in
    let own : Each S (map place_of (blocks_in blocks)) = each_back S (map page_place (blocks.pages ++ nodes.pages)) (map place_of (blocks_in blocks)) all in
    record {
      long_enough = omega (arith, within, len);
      small_enough = small;
      blocks = blocks;
      block_pages = subst (λ r. IsWhole (block_tree whole new.eof) r blocks) (sym same.bbt) (record {
        level = is.block_pages.level;
        low_enough = is.block_pages.low_enough;
        tree = tree_kept (block_tree file old.eof) whole new.eof longer is.block_pages.level (root_seat old.bbt) blocks (pages_front S blocks.pages nodes.pages pages) is.block_pages.tree;
      });
      stand = all_kept file whole old.eof new.eof longer (blocks_in blocks) own is.stand;
      nodes = nodes;
      node_pages = subst (λ r. IsWhole (node_tree whole new.eof) r nodes) (sym same.nbt) (record {
        level = is.node_pages.level;
        low_enough = is.node_pages.low_enough;
        tree = tree_kept (node_tree file old.eof) whole new.eof longer is.node_pages.level (root_seat old.nbt) nodes (pages_back S blocks.pages nodes.pages pages) is.node_pages.tree;
      });
      are = nodes_give (found_in file (blocks_in blocks)) (found_in whole (blocks_in blocks)) (λ key b h. found_kept file whole (blocks_in blocks) own key ∙ h) old.eof new.eof longer (nodes_in nodes) m.nodes is.are;
      apart = subst (λ n. (slot : ℕ) → IsMeeting (standing (places_of blocks nodes) n) slot → ⊥) (sym regions) is.apart;
      counters = is.counters ∙ sym same.indexes;
    }
