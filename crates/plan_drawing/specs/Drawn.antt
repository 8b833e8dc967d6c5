-- A plan of a commit in all its parts, for a file that lays nodes.
use Rattle.std.specs.Prelude.{◌≡◌, ◌≤◌, ◌<◌, ◌+◌, ◌-◌, ◌*◌, ◌%◌, ◌^◌, ◌++◌, ℕ, Bool, List, map, length, Option, Ok}
use Rattle.pst_base.specs.declared.ids.Bid.{Bid}
use Rattle.pst_base.specs.declared.ids.Bref.{Bref}
use Rattle.pst_base.specs.declared.ids.Nid.{Nid}
use Rattle.pst_base.specs.declared.places.Place.{Place}
use Rattle.pst_base.specs.Ids.{key_of}
use Rattle.pst_header.specs.declared.header.Header.{Header}
use Rattle.pst_header.specs.Format.{reading}
use Rattle.alloc_map.specs.Ends.{IsEndFor, region_end}
use Rattle.alloc_map.specs.Taken.{IsBlockPlace, IsPagePlace, Taken, Takes}
use Rattle.btree_pages.specs.declared.entry.BlockEntry.{BlockEntry}
use Rattle.btree_pages.specs.declared.entry.NodeEntry.{NodeEntry}
use Rattle.btree_pages.specs.Entries.{block_of, node_of, node_key}
use Rattle.data_tree.specs.Plan.{Rise}
use Rattle.file_blocks.specs.Blocks.{entry_key, found_in}
use Rattle.file_layout.specs.Nodes.{NodeMap, Lays, blocks_in, nodes_in, place_of}
use Rattle.file_layout.specs.Trees.{page_place}
use Rattle.file_pages.specs.Told.{PlansIn}
use Rattle.lays_kept.specs.declared.Piece.{Piece}
use Rattle.node_port.specs.declared.node.NodeRec.{NodeRec}
use Rattle.node_layout.specs.Growth.{AllGrow, EndsAt}
use Rattle.node_layout.specs.Joined.{TreePlan, node_id}
use Rattle.node_layout.specs.Pieces.{piece_place}
use Rattle.node_layout.specs.Sealed.{AreSealed}
use Rattle.node_layout.specs.Written.{AreWritten}
use Rattle.tree_edit.specs.declared.plan.Child.{Child}
use Rattle.tree_edit.specs.declared.plan.PlanPage.{PlanPage}
use Rattle.tree_edit.specs.Edits.{AreEdits}
use Rattle.tree_edit.specs.Plans.{resolve}
use Rattle.ref_counts.specs.declared.table.RefChange.{RefChange}
use Rattle.ref_counts.specs.Changes.{AreRefChanges}
use Rattle.plan_pieces.specs.Names.{named}
use Rattle.node_port.specs.Stops.{size}
use Rattle.content_plan.specs.Plan.{PlansContents, puts_in}
use Rattle.plan_drawing.specs.declared.effects.PlanEffects.{PlanEffects}
use Rattle.plan_drawing.specs.Freed.{all_behind}
use Rattle.plan_drawing.specs.Recounts.{left_places, puts_of, recounts}
use Rattle.lays_kept.specs.Stands.{last_map}
use Rattle.plan_pieces.specs.Growth.{growth_of, regions_in}
use Rattle.node_layout.specs.Lookups.{sum_of}

-- ---- what is known before anything has a place

-- What is to be written of nodes, and which numbers of references change.
pub record IsSketch {header : Header} {file : List ℕ} {m : NodeMap} (is : Lays header file m) (counts : ℕ → ℕ) (block : ℕ) (cs : List (Nid × Option NodeRec)) (edits : List (ℕ × Option NodeEntry)) (blocks : List (Bid × List ℕ)) (refs : List RefChange) : Type 0 where
  pub taken : List ℕ
  pub put : List ℕ
  pub contents : PlansContents (found_in file (blocks_in is.blocks)) header.eof block (nodes_in is.nodes) cs edits blocks taken put
  pub changed : AreRefChanges counts taken put refs
  pub rise : Rise block blocks
  pub node_edits : AreEdits node_id 0 (2 ^ 64) edits
  pub few : 2 * (length blocks + puts_in edits) ≤ 3 * size cs

-- ---- places

-- the places of new blocks and of new pages, which were free
pub record ArePlaced (slots : List Bool) (blocks pages : List Place) : Type 0 where
  pub mid : List Bool
  pub now : List Bool
  pub first : Taken slots mid blocks
  pub then_pages : Taken mid now pages
  pub least_blocks : Takes IsBlockPlace slots blocks mid
  pub least_pages : Takes IsPagePlace mid pages now

-- ---- one tree

-- New pages of a tree, those that it frees, and its new root, planned for a file, with the pages as they are written from an id on.
pub record IsTreeDrawn {E : Type 0} (rule : ℕ → ℕ) (size : ℕ) (entry_of : List ℕ → E) (key : E → ℕ) (file : List ℕ) (eof kind : ℕ) (root : Bref) (ds : List (ℕ × Option E)) (pages : List (PlanPage E)) (freed : List Bref) (top : Child) (first : ℕ) (places : List Place) (pieces : List Piece) : Type 0 where
  pub plans : PlansIn rule size entry_of key file eof kind root ds pages freed top
  pub count : length places ≡ length pages
  pub written : AreWritten rule size entry_of kind (named first places) 0 pages pieces
  pub placed : map piece_place pieces ≡ places

-- ---- the whole

-- All that a plan of a commit comes to.
pub record IsDrawn {header : Header} {file : List ℕ} {m : NodeMap} (is : Lays header file m) (slots : List Bool) (counts : ℕ → ℕ) (pages block page : ℕ) (cs : List (Nid × Option NodeRec)) (pieces : List Piece) (sealed : List ℕ) (next : Header) (e : PlanEffects) : Type 0 where
  pub edits : List (ℕ × Option NodeEntry)
  pub blocks : List (Bid × List ℕ)
  pub sketch : IsSketch is counts block cs edits blocks e.refs.items
  -- blocks
  pub block_places : List Place
  pub entries : List BlockEntry
  pub block_pieces : List Piece
  pub sealed_blocks : AreSealed blocks entries block_pieces
  pub at_blocks : map piece_place block_pieces ≡ block_places
  pub of_entries : map place_of entries ≡ block_places
  -- trees
  pub block_pages : List (PlanPage BlockEntry)
  pub block_freed : List Bref
  pub block_top : Child
  pub first_places : List Place
  pub first_pieces : List Piece
  pub block_tree : IsTreeDrawn key_of 24 block_of entry_key file header.eof 0x80 header.bbt (recounts (blocks_in is.blocks) block e.refs.items ++ puts_of entries) block_pages block_freed block_top page first_places first_pieces
  pub node_pages : List (PlanPage NodeEntry)
  pub node_freed : List Bref
  pub node_top : Child
  pub last_places : List Place
  pub last_pieces : List Piece
  pub node_tree : IsTreeDrawn node_key 32 node_of node_id file header.eof 0x81 header.nbt edits node_pages node_freed node_top (page + length block_pages) last_places last_pieces
  -- where all that stands
  pub placed : ArePlaced slots block_places (first_places ++ last_places)
  pub growth : List Piece
  pub growth_is : growth ≡ growth_of header.eof next.eof
  pub grows : AllGrow header.eof growth
  pub ends : header.eof < next.eof → EndsAt next.eof growth
  pub growth_few : sum_of (λ (p : Piece). length p.bytes) growth ≤ 1537 * (regions_in next.eof - regions_in header.eof)
  pub end : IsEndFor header.eof ((first_places ++ last_places) ++ block_places) next.eof
  pub few : next.eof ≤ region_end 8192
  pub pieces_are : pieces ≡ growth ++ ((first_pieces ++ last_pieces) ++ block_pieces)
  -- the header
  pub size : length sealed ≡ 564
  pub read : reading sealed ≡ Ok next
  pub unmapped : next.maps ≡ 0
  pub map_page : next.amap_last ≡ last_map next.eof
  pub unique : next.unique ≡ (header.unique + 1) % 2 ^ 32
  pub kept : next.kept ≡ header.kept
  pub bbt : next.bbt ≡ resolve (named page first_places) block_top
  pub nbt : next.nbt ≡ resolve (named (page + length block_pages) last_places) node_top
  pub next_block : next.next_block ≡ block + 4 * length blocks
  pub next_page : next.next_page ≡ page + (length block_pages + length node_pages)
  pub block_high : next.next_block < 2 ^ 62
  pub page_high : next.next_page < 2 ^ 62
  -- what is known after it
  pub taken : e.taken.items ≡ (first_places ++ last_places) ++ block_places
  pub freed : e.freed.items ≡ all_behind (left_places (blocks_in is.blocks) block e.refs.items ++ map page_place (block_freed ++ node_freed))
  pub pages_after : e.pages ≡ (pages + (length block_pages + length node_pages)) - (length block_freed + length node_freed)
  pub block_after : e.next_block ≡ next.next_block
  pub page_after : e.next_page ≡ next.next_page

-- the trees of a plan
abbrev pub blocks_drawn : {header : Header} {file : List ℕ} {m : NodeMap} {is : Lays header file m} {slots : List Bool} {counts : ℕ → ℕ} {pages block page : ℕ} {cs : List (Nid × Option NodeRec)} {pieces : List Piece} {sealed : List ℕ} {next : Header} {e : PlanEffects}
    → IsDrawn is slots counts pages block page cs pieces sealed next e → TreePlan BlockEntry
blocks_drawn {header} {file} {m} {is} {slots} {counts} {pages} {block} {page} {cs} {pieces} {sealed} {next} {e} d = record {
  edits = recounts (blocks_in is.blocks) block e.refs.items ++ puts_of d.entries;
  pages = d.block_pages;
  freed = d.block_freed;
  top = d.block_top;
  name = named page d.first_places;
}

abbrev pub nodes_drawn : {header : Header} {file : List ℕ} {m : NodeMap} {is : Lays header file m} {slots : List Bool} {counts : ℕ → ℕ} {pages block page : ℕ} {cs : List (Nid × Option NodeRec)} {pieces : List Piece} {sealed : List ℕ} {next : Header} {e : PlanEffects}
    → IsDrawn is slots counts pages block page cs pieces sealed next e → TreePlan NodeEntry
nodes_drawn {header} {file} {m} {is} {slots} {counts} {pages} {block} {page} {cs} {pieces} {sealed} {next} {e} d = record {
  edits = d.edits;
  pages = d.node_pages;
  freed = d.node_freed;
  top = d.node_top;
  name = named (page + length d.block_pages) d.last_places;
}
