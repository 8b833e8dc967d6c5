-- What is to be written, what is built of it, and when a plan of it can be drawn.
use Rattle.std.specs.Prelude.{◌≡◌, ◌≤◌, ◌<◌, ◌+◌, ◌*◌, ◌/◌, ◌^◌, ◌++◌, ℕ, Bool, List, map, length, Option}
use Rattle.pst_base.specs.declared.ids.Nid.{Nid}
use Rattle.pst_base.specs.declared.places.Place.{Place}
use Rattle.pst_outside.specs.World.{World}
use Rattle.pst_header.specs.declared.header.Header.{Header}
use Rattle.btree_pages.specs.declared.entry.BlockEntry.{BlockEntry}
use Rattle.file_layout.specs.Nodes.{NodeMap, Lays, blocks_in, place_of}
use Rattle.lays_kept.specs.declared.Piece.{Piece}
use Rattle.node_layout.specs.Sealed.{AreSealed}
use Rattle.node_port.specs.declared.node.NodeRec.{NodeRec}
use Rattle.node_store.specs.declared.node.PageCaches.{PageCaches}
use Rattle.node_store.specs.Told.{TellsNodes}
use Rattle.plan_drawing.specs.content_plan.Plan.{puts_in}
use Rattle.plan_drawing.specs.declared.draw.Numbers.{Numbers}
use Rattle.plan_drawing.specs.declared.draw.Sketch.{Sketch}
use Rattle.plan_drawing.specs.declared.trees.Trees.{Trees}
use Rattle.plan_drawing.specs.Drawn.{IsSketch}
use Rattle.plan_drawing.specs.Recounts.{left_places, puts_of, recounts}
use Rattle.plan_drawing.specs.Trees.{ArePlanned}
use Rattle.plan_placing.specs.Known.{IsKnown}

-- What is to be written of nodes is right for a file, and so are the edits of old blocks.
pub record IsSketched {header : Header} {file : List ℕ} {m : NodeMap} (is : Lays header file m) (counts : ℕ → ℕ) (block : ℕ) (cs : List (Nid × Option NodeRec)) (sketch : Sketch) (edits : List (ℕ × Option BlockEntry)) : Type 0 where
  pub contents : IsSketch is counts block cs sketch.nodes.items sketch.blocks.items sketch.refs.items
  pub recounted : edits ≡ recounts (blocks_in is.blocks) block sketch.refs.items
  pub left : sketch.left.items ≡ left_places (blocks_in is.blocks) block sketch.refs.items

-- New blocks are sealed for these places, and both trees are planned with their entries.
pub record IsBuilt (header : Header) (file : List ℕ) (sketch : Sketch) (edits : List (ℕ × Option BlockEntry)) (places : List Place) (trees : Trees) (pieces : List Piece) : Type 0 where
  pub entries : List BlockEntry
  pub sealed : AreSealed sketch.blocks.items entries pieces
  pub of_entries : map place_of entries ≡ places
  pub planned : ArePlanned header file (edits ++ puts_of entries) sketch.nodes.items trees

-- A world tells a file for which this is to be written, its numbers are known, and so many free cells are enough for it.
pub record CanDraw (world : World) (header : Header) (caches : PageCaches) (numbers : Numbers) (sketch : Sketch) (edits : List (ℕ × Option BlockEntry)) (free : ℕ) : Type 0 where
  pub m : NodeMap
  pub tells : TellsNodes world header caches m
  pub used : List Bool
  pub counts : ℕ → ℕ
  pub known : IsKnown tells.lays used counts numbers.pages numbers.block numbers.page
  pub low : numbers.block < 2 ^ 61
  pub cs : List (Nid × Option NodeRec)
  pub sketched : IsSketched tells.lays counts numbers.block cs sketch edits
  -- how many data blocks, nodes and subnodes are new
  pub size : ℕ
  pub few : 2 * (length sketch.blocks.items + puts_in sketch.nodes.items) ≤ 3 * size
  pub enough : numbers.pages / 16 + 3 * size + 16 ≤ free
  pub bound : length sketch.blocks.items ≤ 2 ^ 40
