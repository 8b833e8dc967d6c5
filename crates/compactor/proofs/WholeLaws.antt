-- What was written is a copy without holes.
use Rattle.std.proofs.Common.{Bool, not, ◌≡◌, ◌∙◌, ℕ, ◌+◌, ◌-◌, ◌*◌, ◌/◌, ◌^◌, ◌≤◌, List, [], ◌∷◌, ◌++◌, length, take, drop, map, replicate, Ok, refl, sym, ap, subst, arith}
use Rattle.std.specs.Prelude.{count_by}
use Rattle.std.proofs.lemmas.Bool.{ne_eqb, le-ltb}
use Rattle.std.proofs.lemmas.List.{map-append}
use Rattle.pst_base.specs.declared.ids.Bref.{Bref}
use Rattle.pst_base.specs.declared.places.Place.{Place}
use Rattle.pst_outside.specs.World.{Image}
use Rattle.pst_header.specs.declared.header.Header.{Header}
use Rattle.pst_header.specs.Format.{reading}
use Rattle.page_frame.specs.Page.{IsPage}
use Rattle.alloc_map.specs.Maps.{IsMapPage}
use Rattle.alloc_map.specs.Slots.{start_of}
use Rattle.alloc_map.specs.Standing.{IsCovered, IsMeeting, occupied, standing}
use Rattle.alloc_map.specs.Tally.{tally as slot_tally}
use Rattle.btree_pages.specs.declared.entry.BlockEntry.{BlockEntry}
use Rattle.btree_pages.specs.declared.entry.NodeEntry.{NodeEntry}
use Rattle.btree_pages.specs.Entries.{block_of, node_of}
use Rattle.btree_pages.specs.EntryLaws.{key-block_of, key-node_of}
use Rattle.copy_layout.proofs.OrderLaws.{Ascends, order-once}
use Rattle.data_tree.proofs.PieceLaws.{joined}
use Rattle.file_blocks.specs.Blocks.{AllStand, entry_key, found_in}
use Rattle.file_layout.specs.Nodes.{AreNodes, Lays, block_tree, blocks_in, node_tree, nodes_in, place_of, places_of, regions_to}
use Rattle.file_layout.specs.Opening.{of_header, opening}
use Rattle.file_layout.specs.Trees.{Found, IsPlace, IsWhole, file_of}
use Rattle.lays_kept.specs.declared.Piece.{Piece}
use Rattle.lays_kept.specs.Kept.{Each, HoldsEach}
use Rattle.lays_kept.specs.Stands.{Maps, last_map}
use Rattle.lays_kept.proofs.Kept.{each_back, each_front}
use Rattle.node_layout.specs.Joined.{node_id}
use Rattle.node_layout.specs.Pieces.{EachStands, piece_place}
use Rattle.node_needs.specs.Needs.{needs}
use Rattle.node_reach.specs.Reach.{uses_of}
use Rattle.tree_edit.specs.Shapes.{RiseIn}
use Rattle.copy_pieces.specs.Moved.{reached}
use Rattle.copy_pieces.specs.Writes.{Adds}
use Rattle.copy_pieces.proofs.AddLaws.{adds-then}
use Rattle.copy_trees.specs.Writes.{shapes_in}
use Rattle.compactor.specs.Compacted.{IsCompacted}
use Rattle.compactor.specs.Layout.{IsLayout, IsLayoutOf, Layout, layout_places, tree_places}
use Rattle.compactor.specs.Source.{IsSource}
use Rattle.compactor.specs.Written.{IsMade, IsWritten, block_form, dense_at, node_form}
use Rattle.compactor.specs.declared.source.Source.{Source}
use Rattle.compactor.proofs.BlockLaws.{copied-found, copied-placed, copied-stand, moved-keys, nodes-copied, reached-found, reached-rise}
use Rattle.compactor.proofs.EndLaws.{all-end}
use Rattle.compactor.proofs.MapLaws.{apart-same, covered-same, maps-stand, places-same}
use Rattle.compactor.proofs.PlacedLaws.{ascends-places, layout-ascends}
use Rattle.compactor.proofs.StandLaws.{AreFront, all-stand, stand-back, stand-front}
use Rattle.compactor.proofs.TreeLaws.{HasTree, pages-placed, tree-rises, tree-stands}

-- a file that begins with a header opens with it
opens : (file : List ℕ) (header : Header) → 564 ≤ length file → reading (take 564 file) ≡ Ok header → opening file [] ≡ Ok header
unfolding opening
opens file header long reads = rw (ne_eqb (length file) 0 (λ none. omega (arith, none, long)), le-ltb (length file) 564 long) (ap of_header reads)

module _ (image : Image) (source : Source) (is : IsSource image source) (l : Layout) (layout : IsLayoutOf image source is l) (header : Header) (used : List Bool) (regions : ℕ) (made : IsMade source.header header source.next_block l used regions) (copy : List ℕ)
    (written : IsWritten (file_of image) (reached (λ key. uses_of (found_in (file_of image) (blocks_in (is.lays).blocks)) key (nodes_in (is.lays).nodes)) (blocks_in (is.lays).blocks)) (nodes_in (is.lays).nodes) l used regions header copy) where
  abbrev file : List ℕ
  file = file_of image

  abbrev bs : List BlockEntry
  bs = blocks_in (is.lays).blocks

  abbrev ns : List NodeEntry
  ns = nodes_in (is.lays).nodes

  abbrev uses : ℕ → ℕ
  uses key = uses_of (found_in file bs) key ns

  abbrev lay : IsLayout uses bs ns (needs (is.m).nodes) source.next_page l
  lay = layout.layout

  -- ---- where all stands

  within : (l.tree.end ≤ l.eof) × (needs (is.m).nodes ≤ l.eof)
  within = let enough = lay.ends.enough in (omega (arith, enough), omega (arith, enough))

  ascends : Ascends 0x4400 (layout_places l) l.tree.end
  ascends = layout-ascends uses bs ns (needs (is.m).nodes) source.next_page l lay

  places : Each (IsPlace l.eof) (layout_places l)
  places = ascends-places l.eof 0x4400 l.tree.end (layout_places l) within.0 ascends

  behind : Each (IsPlace l.eof) (tree_places l.nodes ++ tree_places l.tree)
  behind = each_back (IsPlace l.eof) (map place_of l.blocks) (tree_places l.nodes ++ tree_places l.tree) places

  abbrev parts : List Piece
  parts = written.all.parts.blocks.pieces ++ (written.all.parts.node_pages.pieces ++ written.all.parts.block_pages.pieces)

  placed : map piece_place parts ≡ layout_places l
  placed =
      let a = copied-placed file (reached uses bs) l.blocks written.all.parts.blocks.pieces written.all.parts.blocks.are in
      let b = pages-placed node_form (shapes_in node_id 15 ns l.nodes.levels) (joined l.nodes.levels) written.all.parts.node_pages.pieces written.all.parts.node_pages.are in
      let c = pages-placed block_form (shapes_in entry_key 20 l.blocks l.tree.levels) (joined l.tree.levels) written.all.parts.block_pages.pieces written.all.parts.block_pages.are in
      map-append piece_place written.all.parts.blocks.pieces (written.all.parts.node_pages.pieces ++ written.all.parts.block_pages.pieces)
      ∙ ap (λ (ps : List Place). map piece_place written.all.parts.blocks.pieces ++ ps) (map-append piece_place written.all.parts.node_pages.pieces written.all.parts.block_pages.pieces)
      ∙ (λ i. a i ++ (b i ++ c i))

  abbrev front : List Piece
  front = record { at = 0x4200; bytes = written.all.dense.page } ∷ record { at = 0; bytes = written.head.bytes } ∷ []

  is_front : AreFront front
  is_front = record {
    dense = record { at = 0x4200; bytes = written.all.dense.page };
    head = record { at = 0; bytes = written.head.bytes };
    are = refl;
    dense_at = refl;
    dense_size = written.all.dense.sealed.0;
    head_at = refl;
    head_size = written.head.size;
  }

  abbrev last : List Piece
  last = record { at = l.eof - 1; bytes = 0 ∷ [] } ∷ []

  adds : Adds [] copy (last ++ (parts ++ (written.all.fixed.pieces ++ front)))
  adds =
      let pages = adds-then written.all.parts.filled written.all.parts.named written.all.laid written.all.parts.node_pages.pieces written.all.parts.block_pages.pieces written.all.parts.node_pages.adds written.all.parts.block_pages.adds in
      let all = adds-then written.all.grown written.all.parts.filled written.all.laid written.all.parts.blocks.pieces (written.all.parts.node_pages.pieces ++ written.all.parts.block_pages.pieces) written.all.parts.blocks.adds pages in
      let heads = adds-then written.all.mapped written.shown copy (record { at = 0x4200; bytes = written.all.dense.page } ∷ []) (record { at = 0; bytes = written.head.bytes } ∷ []) written.all.dense.adds written.head.adds in
      let rest = adds-then written.all.laid written.all.mapped copy written.all.fixed.pieces front written.all.fixed.adds heads in
      adds-then [] written.all.grown copy last (parts ++ (written.all.fixed.pieces ++ front)) written.all.last (adds-then written.all.grown written.all.laid copy parts (written.all.fixed.pieces ++ front) all rest)

  holds : HoldsEach copy (last ++ (parts ++ (written.all.fixed.pieces ++ front)))
  holds = adds.holds [] tt

  stands : EachStands copy (parts ++ (written.all.fixed.pieces ++ front))
  stands = all-stand copy used last parts written.all.fixed.pieces front 0x4400 l.tree.end (subst (λ (ps : List Place). Ascends 0x4400 ps l.tree.end) (sym placed) ascends) written.all.fixed.are is_front holds

  stand_parts : EachStands copy parts
  stand_parts = stand-front copy parts (written.all.fixed.pieces ++ front) stands

  stand_pages : EachStands copy (written.all.parts.node_pages.pieces ++ written.all.parts.block_pages.pieces)
  stand_pages = stand-back copy written.all.parts.blocks.pieces (written.all.parts.node_pages.pieces ++ written.all.parts.block_pages.pieces) stand_parts

  stand_blocks : EachStands copy written.all.parts.blocks.pieces
  stand_blocks = stand-front copy written.all.parts.blocks.pieces (written.all.parts.node_pages.pieces ++ written.all.parts.block_pages.pieces) stand_parts

  stand_fixed : EachStands copy written.all.fixed.pieces
  stand_fixed = stand-front copy written.all.fixed.pieces front (stand-back copy parts (written.all.fixed.pieces ++ front) stands)

  stand_front : EachStands copy front
  stand_front = stand-back copy written.all.fixed.pieces front (stand-back copy parts (written.all.fixed.pieces ++ front) stands)

  -- ---- how long it is

  long : l.eof ≤ length copy
  long = let reach = holds.0 in let ends = made.ends in omega (arith, reach, ends)

  size : length copy ≡ l.eof
  size =
      let ends = made.ends in
      let some = made.some in
      let count = written.all.fixed.count in
      let end = all-end used l.eof regions parts written.all.fixed.pieces front (subst (Each (IsPlace l.eof)) (sym placed) places) written.all.fixed.are count ends some is_front in
      let low : 0 ≤ l.eof = omega arith in
      let high = adds.no_longer l.eof low (omega (arith, ends), end) in
      let least = long in
      omega (arith, high, least)

  -- ---- the trees

  rise_blocks : RiseIn 0 (2 ^ 64) (map entry_key l.blocks)
  rise_blocks =
      subst (RiseIn 0 (2 ^ 64)) (sym (moved-keys uses (reached uses bs) l.blocks lay.moved))
      (reached-rise uses 0 (2 ^ 64) bs (tree-rises block_of entry_key (block_tree file source.header.eof) key-block_of source.header.bbt (is.lays).blocks (is.lays).block_pages))

  rise_nodes : RiseIn 0 (2 ^ 64) (map node_id ns)
  rise_nodes = tree-rises node_of node_id (node_tree file source.header.eof) key-node_of source.header.nbt (is.lays).nodes (is.lays).node_pages

  block_side : HasTree block_of (block_tree copy l.eof) l.tree.root l.blocks l.tree.levels
  block_side =
      tree-stands block_of entry_key (block_tree copy l.eof) key-block_of 20 l.blocks l.tree.levels l.tree.root written.all.parts.block_pages.pieces (omega arith) long rise_blocks lay.block_pages.levels_are written.all.parts.block_pages.are
      (each_back (IsPlace l.eof) (tree_places l.nodes) (tree_places l.tree) behind) (stand-back copy written.all.parts.node_pages.pieces written.all.parts.block_pages.pieces stand_pages)

  node_side : HasTree node_of (node_tree copy l.eof) l.nodes.root ns l.nodes.levels
  node_side =
      tree-stands node_of node_id (node_tree copy l.eof) key-node_of 15 ns l.nodes.levels l.nodes.root written.all.parts.node_pages.pieces (omega arith) long rise_nodes lay.node_pages.levels_are written.all.parts.node_pages.are
      (each_front (IsPlace l.eof) (tree_places l.nodes) (tree_places l.tree) behind) (stand-front copy written.all.parts.node_pages.pieces written.all.parts.block_pages.pieces stand_pages)

  abbrev new_blocks : Found
  new_blocks = block_side.found

  abbrev new_nodes : Found
  new_nodes = node_side.found

  -- ---- blocks and nodes

  all_stand : AllStand copy l.eof l.blocks
  all_stand = copied-stand file copy l.eof (reached uses bs) l.blocks written.all.parts.blocks.pieces written.all.parts.blocks.are (each_front (IsPlace l.eof) (map place_of l.blocks) (tree_places l.nodes ++ tree_places l.tree) places) stand_blocks

  same_nodes : AreNodes (found_in copy l.blocks) l.eof ns (is.m).nodes
  same_nodes =
      nodes-copied (found_in file bs) (found_in copy l.blocks) source.header.eof l.eof ns (is.m).nodes
      (λ key some. copied-found uses file copy (reached uses bs) l.blocks written.all.parts.blocks.pieces lay.moved written.all.parts.blocks.are stand_blocks key ∙ reached-found uses file bs key some)
      within.1 (is.lays).are

  -- ---- slots

  same_slots : (slot : ℕ) → slot_tally slot (places_of new_blocks new_nodes) ≡ slot_tally slot (layout_places l)
  same_slots slot = places-same slot new_blocks new_nodes l block_side.entries block_side.counted node_side.counted

  same_end : header.eof ≡ l.eof
  same_end = made.succeeds.eof_is

  same_regions : regions_to header.eof ≡ regions
  same_regions = let some = made.some in let ends = made.ends in let e = same_end in omega (arith, some, ends, e)

  apart : (slot : ℕ) → IsMeeting (standing (places_of new_blocks new_nodes) (regions_to header.eof)) slot → ⊥
  apart = apart-same (layout_places l) (places_of new_blocks new_nodes) (regions_to header.eof) same_slots (order-once 0x4400 l.tree.end (regions_to header.eof) (layout_places l) ascends)

  -- ---- the whole

  abbrev lays : Lays header copy is.m
  lays = record {
    long_enough = let e = same_end in let reach = long in omega (arith, e, reach);
    small_enough = let e = same_end in let small = made.small in omega (arith, e, small);
    blocks = new_blocks;
    block_pages = subst (λ (e : ℕ). IsWhole (block_tree copy e) header.bbt new_blocks) (sym same_end) (subst (λ (r : Bref). IsWhole (block_tree copy l.eof) r new_blocks) (sym made.bbt) block_side.whole);
    stand = subst (λ (e : ℕ). AllStand copy e (blocks_in new_blocks)) (sym same_end) (subst (AllStand copy l.eof) (sym block_side.entries) all_stand);
    nodes = new_nodes;
    node_pages = subst (λ (e : ℕ). IsWhole (node_tree copy e) header.nbt new_nodes) (sym same_end) (subst (λ (r : Bref). IsWhole (node_tree copy l.eof) r new_nodes) (sym made.nbt) node_side.whole);
    are = subst (λ (e : ℕ). AreNodes (found_in copy (blocks_in new_blocks)) e (nodes_in new_nodes) (is.m).nodes) (sym same_end)
        (subst (λ (es : List NodeEntry). AreNodes (found_in copy (blocks_in new_blocks)) l.eof es (is.m).nodes) (sym node_side.entries)
        (subst (λ (es : List BlockEntry). AreNodes (found_in copy es) l.eof ns (is.m).nodes) (sym block_side.entries) same_nodes));
    apart = apart;
    counters = (is.lays).counters ∙ sym made.succeeds.indexes;
  }

  opened : opening copy [] ≡ Ok header
  opened =
      let head = stand_front.1.0 in
      let reach = long in
      let ends = made.ends in
      opens copy header (omega (arith, reach, ends)) (ap reading (ap (λ (n : ℕ). take n copy) (sym written.head.size) ∙ head) ∙ written.head.reads)

  dense : IsPage 0x86 (dense_at l.tree.next) (replicate 496 0) (take 512 (drop 0x4200 copy))
  dense =
      subst (IsPage 0x86 (dense_at l.tree.next) (replicate 496 0)) (sym (ap (λ (n : ℕ). take n (drop 0x4200 copy)) (sym written.all.dense.sealed.0) ∙ stand_front.0)) written.all.dense.sealed

  maps : Maps header copy (places_of new_blocks new_nodes)
  maps = record {
    used = used;
    size = let a = made.size in let b = same_regions in omega (arith, a, b);
    exact = subst (λ (n : ℕ). IsCovered (occupied (places_of new_blocks new_nodes) n) used) (sym same_regions) (covered-same (layout_places l) (places_of new_blocks new_nodes) regions used same_slots made.covered);
    pages = λ r lt.
        let count = written.all.fixed.count in
        let n = same_regions in
        let e : 0 + r ≡ r = omega arith in
        subst (λ (k : ℕ). IsMapPage used k (take 512 (drop (start_of (3968 * k)) copy))) e (maps-stand used copy 0 r written.all.fixed.pieces written.all.fixed.are stand_fixed (omega (arith, lt, count, n)));
    free = let ends = made.ends in let e = same_end in
        let slots : (header.eof - 0x4400) / 64 ≡ 3968 * regions = omega (arith, ends, e) in
        made.free ∙ ap (λ (n : ℕ). 64 * count_by not (take n used)) (sym slots);
    last = made.last ∙ ap last_map (sym same_end);
  }

  pub compacted : IsCompacted image source l.eof copy
  compacted = record {
    source_is = is;
    l = l;
    layout = layout;
    small_enough = made.small;
    eof_is = refl;
    size = size;
    header = header;
    opened = opened;
    lays = lays;
    blocks = block_side.entries;
    nodes = node_side.entries;
    block_pages = block_side.counted;
    node_pages = node_side.counted;
    succeeds = made.succeeds;
    nbt = made.nbt;
    bbt = made.bbt;
    maps = maps;
    dense = dense;
  }
