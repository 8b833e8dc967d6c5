-- The parts of a plan as they are put together.
use Rattle.std.specs.Prelude.{◌≡◌, ◌≤◌, ◌<◌, ◌+◌, ◌-◌, ◌*◌, ◌++◌, ℕ, Bool, List, map, length, Option}
use Rattle.pst_base.specs.declared.ids.Bref.{Bref}
use Rattle.pst_base.specs.declared.ids.Nid.{Nid}
use Rattle.pst_base.specs.declared.places.Place.{Place}
use Rattle.pst_base.specs.Ids.{key_of}
use Rattle.pst_header.specs.declared.header.Header.{Header}
use Rattle.alloc_map.specs.Ends.{IsEndFor, region_end}
use Rattle.btree_pages.specs.declared.entry.BlockEntry.{BlockEntry}
use Rattle.btree_pages.specs.Entries.{block_of, node_of, node_key}
use Rattle.file_layout.specs.Nodes.{NodeMap, Lays, blocks_in, place_of}
use Rattle.file_layout.specs.Trees.{page_place}
use Rattle.lays_kept.specs.declared.Piece.{Piece}
use Rattle.node_layout.specs.Growth.{AllGrow, EndsAt}
use Rattle.node_layout.specs.Pieces.{piece_place}
use Rattle.node_layout.specs.Sealed.{AreSealed}
use Rattle.node_layout.specs.Written.{AreWritten}
use Rattle.node_port.specs.declared.node.NodeRec.{NodeRec}
use Rattle.tree_edit.specs.Plans.{resolve}
use Rattle.plan_pieces.specs.Growth.{growth_of, regions_in}
use Rattle.plan_pieces.specs.Names.{named}
use Rattle.node_layout.specs.Lookups.{sum_of}
use Rattle.ref_counts.specs.declared.table.RefChange.{RefChange}
use Rattle.plan_drawing.specs.declared.draw.Sketch.{Sketch}
use Rattle.plan_drawing.specs.declared.effects.PlanEffects.{PlanEffects}
use Rattle.plan_drawing.specs.declared.trees.Trees.{Trees}
use Rattle.plan_drawing.specs.Drawn.{ArePlaced, IsSketch}
use Rattle.plan_drawing.specs.Freed.{all_behind}
use Rattle.plan_drawing.specs.Recounts.{left_places, puts_of, recounts}
use Rattle.plan_drawing.specs.Trees.{ArePlanned}

-- What is to be written of nodes is right for a file, with blocks and pages at their places, and both trees planned.
pub record IsGathered {header : Header} {file : List ℕ} {m : NodeMap} (is : Lays header file m) (slots : List Bool) (counts : ℕ → ℕ) (block : ℕ) (cs : List (Nid × Option NodeRec)) (sketch : Sketch) (block_pieces : List Piece) (blocks pages : List Place) (trees : Trees) : Type 0 where
  pub contents : IsSketch is counts block cs sketch.nodes.items sketch.blocks.items sketch.refs.items
  pub left : sketch.left.items ≡ left_places (blocks_in is.blocks) block sketch.refs.items
  pub entries : List BlockEntry
  pub sealed : AreSealed sketch.blocks.items entries block_pieces
  pub of_entries : map place_of entries ≡ blocks
  pub planned : ArePlanned header file (recounts (blocks_in is.blocks) block sketch.refs.items ++ puts_of entries) sketch.nodes.items trees
  pub placed : ArePlaced slots blocks pages

-- all pieces of a plan, where its file ends, and both roots
pub record AreWrittenOut (eof page : ℕ) (trees : Trees) (pages blocks : List Place) (block_pieces pieces : List Piece) (end : ℕ) (bbt nbt : Bref) : Type 0 where
  pub first_places : List Place
  pub last_places : List Place
  pub split : pages ≡ first_places ++ last_places
  pub first_pieces : List Piece
  pub last_pieces : List Piece
  pub first_count : length first_places ≡ length trees.blocks.pages.items
  pub first_written : AreWritten key_of 24 block_of 0x80 (named page first_places) 0 trees.blocks.pages.items first_pieces
  pub first_placed : map piece_place first_pieces ≡ first_places
  pub last_count : length last_places ≡ length trees.nodes.pages.items
  pub last_written : AreWritten node_key 32 node_of 0x81 (named (page + length trees.blocks.pages.items) last_places) 0 trees.nodes.pages.items last_pieces
  pub last_placed : map piece_place last_pieces ≡ last_places
  pub growth : List Piece
  pub growth_is : growth ≡ growth_of eof end
  pub grows : AllGrow eof growth
  pub ends : eof < end → EndsAt end growth
  pub growth_few : sum_of (λ (p : Piece). length p.bytes) growth ≤ 1537 * (regions_in end - regions_in eof)
  pub end_for : IsEndFor eof (pages ++ blocks) end
  pub few : end ≤ region_end 8192
  pub are : pieces ≡ growth ++ ((first_pieces ++ last_pieces) ++ block_pieces)
  pub bbt_is : bbt ≡ resolve (named page first_places) trees.blocks.root
  pub nbt_is : nbt ≡ resolve (named (page + length trees.blocks.pages.items) last_places) trees.nodes.root

-- what is known after a plan, by its parts
pub record AreEffects (many block page : ℕ) (trees : Trees) (left pages blocks : List Place) (refs : List RefChange) (e : PlanEffects) : Type 0 where
  pub taken : e.taken.items ≡ pages ++ blocks
  pub freed : e.freed.items ≡ all_behind (left ++ map page_place (trees.blocks.freed.items ++ trees.nodes.freed.items))
  pub refs_are : e.refs.items ≡ refs
  pub pages_are : e.pages ≡ (many + length pages) - (length trees.blocks.freed.items + length trees.nodes.freed.items)
  pub block_is : e.next_block ≡ block
  pub page_is : e.next_page ≡ page
