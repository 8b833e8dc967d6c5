-- What a keeper of a file's nodes holds, and what a plan of it comes to.
use Rattle.std.specs.Prelude.{◌≡◌, ℕ, ◌+◌, ◌*◌, ◌≤◌, Bool, List, ◌++◌, length, take, drop, Option, Ok}
use Rattle.pst_base.specs.declared.ids.Nid.{Nid}
use Rattle.pst_outside.specs.World.{Image, World}
use Rattle.pst_outside.specs.Calls.{Untouched}
use Rattle.pst_header.specs.declared.header.Header.{Header}
use Rattle.pst_header.specs.Format.{reading}
use Rattle.alloc_map.specs.Cells.{free_cells_of}
use Rattle.alloc_map.specs.Standing.{occupied, IsCovered}
use Rattle.gate_file.specs.Gate.{IsShut}
use Rattle.file_blocks.specs.Blocks.{file_of}
use Rattle.file_layout.specs.Trees.{Found}
use Rattle.file_layout.specs.Nodes.{NodeMap, Lays, places_of, regions_to}
use Rattle.file_layout.specs.Numbers.{is_spent}
use Rattle.node_port.specs.declared.node.NodeRec.{NodeRec}
use Rattle.node_port.specs.Nodes.{Nodes, changed}
use Rattle.node_port.specs.Pins.{Pins}
use Rattle.node_port.specs.Stops.{Room}
use Rattle.lays_kept.specs.declared.Piece.{Piece}
use Rattle.lays_kept.specs.Kept.{HoldsEach, Scattered}
use Rattle.lays_kept.specs.Saved.{region_end, SameTrees, HasMaps}
use Rattle.lays_kept.specs.Stands.{AreThose, IsPlan, Stands}
use Rattle.pst_commit.specs.declared.store.Pin.{Pin}
use Rattle.pst_commit.specs.Commit.{bytes_in}
use Rattle.pst_commit.specs.Held.{IsWithHeld, KeepsEach, StandsAt, held_at, opened_of}

-- ---- what is held

-- The two files of an image stand for nodes under this header, and what is known of files with a header holds of theirs. Nothing is said of the gate.
pub record Keeps (knows : Header → List ℕ → Type 0) (found : List ℕ) (header : Header) (image : Image) (N : Nodes) : Type 0 where
  pub stands : Stands found image N header.indexes
  pub own : (stands.file).header ≡ header
  pub known : knows header (file_of image)

-- the same of a world that tells
abbrev pub Holds : (Header → List ℕ → Type 0) → List ℕ → Header → World → Nodes → Type 0
Holds knows found header world N = world.tells × Keeps knows found header world.here N

-- a pin that is kept tells nodes: its trees stand in the file of a world that tells
abbrev pub Pinned : List (Pin × List Bool) → Header → World → ℕ → Nodes → Type 0
Pinned held header world p N = world.tells × StandsAt header (file_of world.here) (held_at p held) N

-- the pins as a keeper tells them
abbrev pub pins_of : ℕ → List (Pin × List Bool) → Pins
pins_of given held = record { given = given; opened = opened_of held }

-- ---- what room there is

-- Just the slots of these trees' pages, of their blocks and of all fixed pages are used, among those of the most regions that a file may have. So many cells are free beside these and what pins hold, so many pages the trees have, and so it is whether a next number is used up.
pub record IsMeasured (header : Header) (blocks nodes : Found) (used : List Bool) (opened : List (ℕ × List Bool)) (cells : ℕ × ℕ × Bool) : Type 0 where
  pub size : length used ≡ 3968 * 8192
  pub covered : IsCovered (occupied (places_of blocks nodes) 8192) used
  pub all : List Bool
  pub with_held : IsWithHeld used opened all
  pub free : cells.0 ≡ free_cells_of all
  pub pages : cells.1 ≡ length blocks.pages + length nodes.pages
  pub spent : cells.2 ≡ is_spent header blocks nodes

-- the file of an image has this room
pub record HasRoom (image : Image) (room : Room) : Type 0 where
  pub header : Header
  pub read : reading (take 564 (file_of image)) ≡ Ok header
  pub m : NodeMap
  pub lays : Lays header (file_of image) m
  pub used : List Bool
  pub measured : IsMeasured header lays.blocks lays.nodes used room.pins.opened (room.free, room.pages, room.spent)

-- what room there is, in a file that had this header when it was opened, beside these pins
abbrev pub room_with : ℕ × ℕ × Bool → List ℕ → Pins → Room
room_with cells found pins = record { free = cells.0; pages = cells.1; spent = cells.2; found = found; pins = pins }

-- What is known of files with a header is right: it has the used slots and the room of each that lays nodes.
pub record IsKnowledge (knows : Header → List ℕ → Type 0) (used : List Bool) (opened : List (ℕ × List Bool)) (cells : ℕ × ℕ × Bool) : Type 0 where
  pub measured : (header : Header) (file : List ℕ) (m : NodeMap) (is : Lays header file m) → knows header file → IsMeasured header is.blocks is.nodes used opened cells

-- A world tells a file that lays nodes under this header, of which something is known under a header that ends it at the same byte: this one, or this one with other roots.
pub record ReadsAs (knows : Header → List ℕ → Type 0) (header : Header) (world : World) (N : Nodes) : Type 0 where
  pub told : world.tells
  pub present : Header
  pub known : knows present (file_of world.here)
  pub end : header.eof ≡ present.eof
  pub m : NodeMap
  pub lays : Lays header (file_of world.here) m
  pub those : AreThose m N

-- A call that only looks under this header: where it lays nodes, what was known of the file under any that ends it at the same byte is known still; the used slots, what is held and the room are the same, and the world is untouched.
pub record LooksOn (knows knows' : Header → List ℕ → Type 0) (header : Header) (used used' : List Bool) (held held' : List (Pin × List Bool)) (cells cells' : ℕ × ℕ × Bool) (old new : World) : Type 0 where
  pub known : (m : NodeMap) → old.tells → Lays header (file_of old.here) m → (present : Header) → header.eof ≡ present.eof → knows present (file_of old.here) → knows' present (file_of old.here)
  pub slots : used' ≡ used
  pub pins : held' ≡ held
  pub room : cells' ≡ cells
  pub world : Untouched old new

-- ---- a plan

-- A plan for a file of these nodes: it can be committed, its header is this one, it comes to the changed nodes and the header's counters, it makes of the file what is said of plans, the trees of each pin stay, and its pieces have as many bytes as is said of both files.
pub record Comes (knows : Header → List ℕ → Type 0) (becomes : List ℕ → List ℕ → Type 0) (costs : List ℕ → List ℕ → List (Nid × Option NodeRec) → ℕ → Type 0) (held : List (Pin × List Bool)) (found : List ℕ) (old : Header) (bytes : List ℕ) (pieces : List Piece) (sealed : List ℕ) (header : Header) (cs : List (Nid × Option NodeRec)) (N : Nodes) : Type 0 where
  pub plan : IsPlan found bytes pieces sealed N old.indexes (changed N cs) header.indexes
  pub read : reading sealed ≡ Ok header
  pub known : (mid : List ℕ) → Scattered pieces bytes mid → HoldsEach mid pieces → knows header (sealed ++ drop 564 mid)
  pub made : (mid : List ℕ) → Scattered pieces bytes mid → HoldsEach mid pieces → becomes bytes (sealed ++ drop 564 mid)
  pub keeps : (mid : List ℕ) → Scattered pieces bytes mid → HoldsEach mid pieces → KeepsEach old header bytes (sealed ++ drop 564 mid) held
  pub cost : (mid : List ℕ) → Scattered pieces bytes mid → HoldsEach mid pieces → costs bytes (sealed ++ drop 564 mid) cs (bytes_in pieces)

-- whatever nodes a world's file stands for under the old header, the plan is one for it; `before` is known of the file, and `after` will be
abbrev pub PlansFor : (before after : Header → List ℕ → Type 0) → (List ℕ → List ℕ → Type 0) → (List ℕ → List ℕ → List (Nid × Option NodeRec) → ℕ → Type 0) → List (Pin × List Bool) → List ℕ → Header → World → List Piece → List ℕ → Header → List (Nid × Option NodeRec) → Type 0
PlansFor before after becomes costs held found old world pieces sealed header cs = (N : Nodes) → Holds before found old world N → Comes after becomes costs held found old (file_of world.here) pieces sealed header cs N

-- ---- a commit

-- A commit of these changes has made of the file what is said of plans. It has written the pieces, which have as many bytes as is said of both files, and the header, twice, with the gate's two bytes and its syncs.
pub record IsCommitted (becomes : List (ℕ × List Bool) → List ℕ → List ℕ → Type 0) (costs : List ℕ → List ℕ → List (Nid × Option NodeRec) → ℕ → Type 0) (opened : List (ℕ × List Bool)) (cs : List (Nid × Option NodeRec)) (bytes : ℕ) (old new : Image) : Type 0 where
  pub made : becomes opened (file_of old) (file_of new)
  pub in_pieces : ℕ
  pub cost : costs (file_of old) (file_of new) cs in_pieces
  pub few : bytes ≤ in_pieces + 1145

-- ---- a save

-- The gate is shut, and the two files of an image stand for nodes under this header.
pub record Rests (found : List ℕ) (header : Header) (image : Image) (N : Nodes) : Type 0 where
  pub shut : IsShut image.side
  pub stands : Stands found image N header.indexes
  pub own : (stands.file).header ≡ header

-- A save can go on from here, in a file that is to end there, with its last region.
pub record CanSave (found : List ℕ) (header : Header) (end : ℕ) (world : World) (N : Nodes) : Type 0 where
  pub rests : world.tells → Rests found header world.here N
  pub regions : end ≡ region_end (regions_to header.eof)

-- A save has left the trees and numbers as they were, and the header's bytes that no field has, under a header that vouches for the maps, which are right. It has written few bytes beside the map pages of all regions.
pub record IsSaved (bytes : ℕ) (old new : Image) : Type 0 where
  pub before : Header
  pub was : reading (take 564 (file_of old)) ≡ Ok before
  pub after : Header
  pub is : reading (take 564 (file_of new)) ≡ Ok after
  pub trees : SameTrees before after
  pub kept : after.kept ≡ before.kept
  pub maps : HasMaps after (file_of new)
  pub few : bytes ≤ 512 * regions_to before.eof + 4096
