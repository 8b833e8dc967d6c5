-- Trees that are held stand on while other parts of a file are written, and under a later header.
use Rattle.std.proofs.Common.{◌≡◌, ◌∙◌, inl, inr, ℕ, zero, suc, ◌*◌, ◌<◌, ◌≤◌, Bool, List, [], ◌∷◌, ◌++◌, map, length, drop, refl, sym, subst, arith, ⊎_elim, length-append}
use Rattle.std.proofs.lemmas.List.{length-drop}
use Rattle.std.proofs.lemmas.Bool.{cases_lt}
use Rattle.pst_base.specs.declared.ids.Bref.{Bref}
use Rattle.pst_base.specs.declared.places.Place.{Place}
use Rattle.pst_header.specs.declared.header.Header.{Header}
use Rattle.alloc_map.specs.Covered.{IsTwice}
use Rattle.alloc_map.specs.Standing.{Covers, IsMeeting, SomeCovers, amap_place, amap_places, standing}
use Rattle.alloc_map.proofs.CoverLaws.{covers_either, covers_first, covers_last}
use Rattle.file_blocks.specs.Blocks.{found_in}
use Rattle.file_layout.specs.Trees.{Found, IsPlace, page_place, root_seat}
use Rattle.file_layout.specs.Nodes.{AreNodes, LARGEST, block_tree, blocks_in, node_tree, nodes_in, place_of, places_of, regions_to}
use Rattle.node_port.specs.Nodes.{Nodes}
use Rattle.lays_kept.specs.declared.Piece.{Piece}
use Rattle.lays_kept.specs.Kept.{Each, HoldsEach, IsClear, SameAt, Scattered}
use Rattle.lays_kept.specs.Saved.{last_byte, map_pieces, region_end}
use Rattle.lays_kept.proofs.Grown.{nodes_give}
use Rattle.lays_kept.proofs.Kept.{all_kept, each_back, each_front, found_kept, pages_back, pages_front, tree_kept}
use Rattle.lays_kept.proofs.Once.{apart_once, once_apart}
use Rattle.lays_kept.proofs.MapPages.{beside_maps}
use Rattle.lays_kept.proofs.Places.{lays_places, lays_wholes, scattered_same}
use Rattle.lays_kept.proofs.Renewed.{behind_all}
use Rattle.lays_kept.proofs.Saving.{byte_reaches, clear_places, not_before, still_small}
use Rattle.pst_commit.specs.Held.{HoldsTrees, LeavesTrees, rooted}

-- ---- places and AMap pages

-- a place of a file lies before the end of its regions
covers_low : (eof slot : ℕ) (p : Place) → IsPlace eof p → Covers p slot → slot < 3968 * regions_to eof
covers_low eof slot p place covers =
    let above = place.above in
    let before = place.before in
    let ends = covers.ends in
    omega (arith, above, before, ends)

amap_high : (n slot : ℕ) → SomeCovers (amap_places n) slot → slot < 3968 * n
unfolding SomeCovers amap_places
amap_high zero slot covers = absurd covers
amap_high (suc r) slot (inl covers) = let ends = covers.ends in omega (arith, ends)
amap_high (suc r) slot (inr covers) = let low = amap_high r slot covers in omega (arith, low)

amap_here : (n r slot : ℕ) → r < n → Covers (amap_place r) slot → SomeCovers (amap_places n) slot
unfolding SomeCovers amap_places
amap_here zero r slot lt covers = absurd (omega (arith, lt))
amap_here (suc n) r slot lt covers = ⊎_elim
    (λ (below : r < n). inr (amap_here n r slot below covers))
    (λ (least : n ≤ r). let same : r ≡ n = omega (arith, lt, least) in inl (subst (λ k. Covers (amap_place k) slot) same covers))
    (cases_lt r n)

-- the AMap page of a slot below a region's end is one of those below it
amap_low : (more n slot : ℕ) → slot < 3968 * n → SomeCovers (amap_places more) slot → SomeCovers (amap_places n) slot
unfolding SomeCovers amap_places
amap_low zero n slot lt covers = absurd covers
amap_low (suc r) n slot lt (inl covers) = let begins = covers.begins in amap_here n r slot (omega (arith, begins, lt)) covers
amap_low (suc r) n slot lt (inr covers) = amap_low r n slot lt covers

amap_once : (n slot : ℕ) → IsTwice (amap_places n) slot → ⊥
unfolding IsTwice amap_places
amap_once zero slot twice = absurd twice
amap_once (suc r) slot (inl both) = let begins = (both.0).begins in let high = amap_high r slot both.1 in absurd (omega (arith, begins, high))
amap_once (suc r) slot (inr twice) = amap_once r slot twice

still_once : (eof more slot : ℕ) (ps : List Place) → Each (IsPlace eof) ps → IsTwice (ps ++ amap_places more) slot → IsTwice (ps ++ amap_places (regions_to eof)) slot
unfolding IsTwice
still_once eof more slot [] places twice = absurd (amap_once more slot twice)
still_once eof more slot (p ∷ ps) places (inl both) =
    let low = covers_low eof slot p places.0 both.0 in
    inl (
      both.0,
      ⊎_elim
          (λ (own : SomeCovers ps slot). covers_first ps (amap_places (regions_to eof)) slot own)
          (λ (amap : SomeCovers (amap_places more) slot). covers_last ps (amap_places (regions_to eof)) slot (amap_low more (regions_to eof) slot low amap))
          (covers_either ps (amap_places more) slot both.1),
    )
still_once eof more slot (p ∷ ps) places (inr twice) = inr (still_once eof more slot ps places.1 twice)

-- places that meet no AMap page of a file meet none of a longer one
still_apart : (eof more : ℕ) (ps : List Place) → Each (IsPlace eof) ps → ((slot : ℕ) → IsMeeting (standing ps (regions_to eof)) slot → ⊥) → (slot : ℕ) → IsMeeting (standing ps more) slot → ⊥
still_apart eof more ps places apart =
    once_apart (standing ps more) (λ slot twice. apart_once (standing ps (regions_to eof)) apart slot (still_once eof more slot ps places twice))

-- ---- trees

-- Trees that are held stand under a header that ends the file no earlier, where their pages and blocks have the same bytes.
pub trees_kept : (old new : Header) (file other : List ℕ) (nbt bbt : Bref) (used : List Bool) (N : Nodes) (is : HoldsTrees old file nbt bbt used N) → old.eof ≤ new.eof → new.eof ≤ length other → new.eof ≤ LARGEST
    → Each (SameAt file other) (places_of is.lays.blocks is.lays.nodes) → HoldsTrees new other nbt bbt used N
trees_kept old new file other nbt bbt used N is grows long small same =
    let lays = is.lays in
    let blocks : Found = lays.blocks in
    let nodes : Found = lays.nodes in
    let S : Place → Type 0 = SameAt file other in
    let pages : Each S (map page_place (blocks.pages ++ nodes.pages)) = each_front S (map page_place (blocks.pages ++ nodes.pages)) (map place_of (blocks_in blocks)) same in
    let own : Each S (map place_of (blocks_in blocks)) = each_back S (map page_place (blocks.pages ++ nodes.pages)) (map place_of (blocks_in blocks)) same in
    let find : found_in other (blocks_in blocks) ≡ found_in file (blocks_in blocks) = λ i key. found_kept file other (blocks_in blocks) own key i in
    let places = lays_places (rooted old nbt bbt) file is.m lays in
    record {
      m = record { counters = new.indexes; nodes = (is.m).nodes };
      lays = record {
        long_enough = long;
        small_enough = small;
        blocks = blocks;
        block_pages = record {
          level = lays.block_pages.level;
          low_enough = lays.block_pages.low_enough;
          tree = tree_kept (block_tree file old.eof) other new.eof grows lays.block_pages.level (root_seat bbt) blocks (pages_front S blocks.pages nodes.pages pages) lays.block_pages.tree;
        };
        stand = all_kept file other old.eof new.eof grows (blocks_in blocks) own lays.stand;
        nodes = nodes;
        node_pages = record {
          level = lays.node_pages.level;
          low_enough = lays.node_pages.low_enough;
          tree = tree_kept (node_tree file old.eof) other new.eof grows lays.node_pages.level (root_seat nbt) nodes (pages_back S blocks.pages nodes.pages pages) lays.node_pages.tree;
        };
        are = subst (λ f. AreNodes f new.eof (nodes_in nodes) (is.m).nodes) (sym find)
            (nodes_give (found_in file (blocks_in blocks)) (found_in file (blocks_in blocks)) (λ key b h. h) old.eof new.eof grows (nodes_in nodes) (is.m).nodes lays.are);
        apart = still_apart old.eof (regions_to new.eof) (places_of blocks nodes) places lays.apart;
        counters = refl;
      };
      those = is.those;
      size = is.size;
      covered = is.covered;
    }

-- ---- saves

each_through : (a b c : List ℕ) (ps : List Place) → Each (SameAt a b) ps → Each (SameAt b c) ps → Each (SameAt a c) ps
each_through a b c [] one two = tt
each_through a b c (p ∷ ps) one two = (two.0 ∙ one.0, each_through a b c ps one.1 two.1)

under_length : (sealed mid : List ℕ) → length sealed ≡ 564 → 564 ≤ length mid → length (sealed ++ drop 564 mid) ≡ length mid
under_length sealed mid size long = omega (arith, length-append sealed (drop 564 mid), length-drop 564 mid, size, long)

-- all trees stay where other parts of a file are written and a header is put before it
under_trees : (header next : Header) (sealed file mid : List ℕ) (pieces : List Piece) → length sealed ≡ 564 → header.eof ≤ next.eof → next.eof ≤ length mid → 564 ≤ length mid → next.eof ≤ LARGEST → Scattered pieces file mid
    → (nbt bbt : Bref) (used : List Bool) (M : Nodes) (is : HoldsTrees header file nbt bbt used M) → Each (λ p. IsClear pieces p.ib p.len) (places_of is.lays.blocks is.lays.nodes) → HoldsTrees next (sealed ++ drop 564 mid) nbt bbt used M
under_trees header next sealed file mid pieces size grows reach long small writes nbt bbt used M is clear =
    let lays = is.lays in
    let places : List Place = places_of lays.blocks lays.nodes in
    let own = lays_places (rooted header nbt bbt) file is.m lays in
    let len = under_length sealed mid size long in
    trees_kept header next file (sealed ++ drop 564 mid) nbt bbt used M is grows (omega (arith, reach, len)) small
    (each_through file mid (sealed ++ drop 564 mid) places
    (scattered_same pieces file mid header.eof writes lays.long_enough places own clear)
    (behind_all sealed mid header.eof size places own))

-- where a save lengthens the file to the end of its last region
pub unmapped_trees : (header next : Header) (sealed file mid : List ℕ) (n : ℕ) → n ≡ regions_to header.eof → length sealed ≡ 564 → next.eof ≡ region_end n
    → Scattered (last_byte header.eof (region_end n)) file mid → HoldsEach mid (last_byte header.eof (region_end n)) → LeavesTrees header next file (sealed ++ drop 564 mid)
unmapped_trees header next sealed file mid n regions size end writes holds used nbt bbt M is =
    let lays = is.lays in
    let longer : header.eof ≤ length mid = omega (arith, lays.long_enough, writes.longer) in
    let reach : region_end n ≤ length mid = byte_reaches header.eof (region_end n) mid longer holds in
    let low = not_before header.eof n regions in
    let small = still_small header.eof n regions lays.small_enough in
    under_trees header next sealed file mid (last_byte header.eof (region_end n)) size (omega (arith, end, low)) (omega (arith, end, reach)) (omega (arith, reach)) (omega (arith, end, small)) writes nbt bbt used M is
    (clear_places header.eof n regions (places_of lays.blocks lays.nodes) (lays_places (rooted header nbt bbt) file is.m lays))

-- and where it writes the map pages
pub mapped_trees : (header next : Header) (sealed file mid : List ℕ) (n : ℕ) → n ≡ regions_to header.eof → length sealed ≡ 564 → header.eof ≡ region_end n → next.eof ≡ header.eof
    → Scattered (map_pieces n) file mid → LeavesTrees header next file (sealed ++ drop 564 mid)
mapped_trees header next sealed file mid n regions size whole end writes used nbt bbt M is =
    let lays = is.lays in
    let places : List Place = places_of lays.blocks lays.nodes in
    let longer : header.eof ≤ length mid = omega (arith, lays.long_enough, writes.longer) in
    under_trees header next sealed file mid (map_pieces n) size (omega (arith, end)) (omega (arith, end, longer)) (omega (arith, whole, longer)) (let small = lays.small_enough in omega (arith, end, small)) writes nbt bbt used M is
    (beside_maps places n (lays_wholes (rooted header nbt bbt) file is.m lays)
    (apart_once (standing places n) (subst (λ k. (slot : ℕ) → IsMeeting (standing places k) slot → ⊥) (sym regions) lays.apart)))

-- a file keeps its own trees
pub leaves_itself : (header : Header) (file : List ℕ) → LeavesTrees header header file file
leaves_itself header file used nbt bbt M is = is
