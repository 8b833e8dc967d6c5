-- The nodes that an image of the disk stands for.
use Rattle.std.specs.Prelude.{◌≡◌, ◌==◌, ◌⊎◌, ◌≤◌, ◌<◌, ℕ, ◌-◌, ◌*◌, ◌/◌, if◌then◌else◌, Bool, not, count_by, List, [], ◌∷◌, ◌++◌, length, take, drop, Option, None, Some, Ok}
use Rattle.pst_base.specs.declared.places.Place.{Place}
use Rattle.pst_outside.specs.World.{Image}
use Rattle.pst_header.specs.declared.header.Header.{Header}
use Rattle.pst_header.specs.Format.{reading}
use Rattle.alloc_map.specs.Slots.{start_of}
use Rattle.alloc_map.specs.Standing.{standing, occupied, IsCovered}
use Rattle.alloc_map.specs.Maps.{IsMapPage}
use Rattle.file_blocks.specs.Blocks.{file_of}
use Rattle.node_port.specs.declared.node.NodeRec.{NodeRec}
use Rattle.node_port.specs.Nodes.{Nodes, node_at}
use Rattle.file_layout.specs.Nodes.{Node, NodeMap, Lays, places_of, regions_to}
use Rattle.lays_kept.specs.declared.Piece.{Piece}
use Rattle.lays_kept.specs.Kept.{Each, IsClear, HoldsEach, Scattered}

-- ---- the nodes of a keeper

-- a node of a file as a keeper gives it
abbrev pub rec_of : Node → NodeRec
rec_of n = record { parent = record { bits = n.parent }; blocks = n.blocks; subs = n.subs }

-- the node with an id
abbrev pub node_with : ℕ → List Node → Option NodeRec
node_with nid [] = None
node_with nid (n ∷ ns) = if n.nid == nid then Some (rec_of n) else node_with nid ns

-- a node map has just these nodes
abbrev pub AreThose : NodeMap → Nodes → Type 0
AreThose m N = (q : ℕ) → node_at N q ≡ node_with q m.nodes

-- ---- the maps

-- where the map page of the last region of a file stands
abbrev pub last_map : ℕ → ℕ
last_map eof = start_of (3968 * (regions_to eof - 1))

-- The maps are those of the places that stand in the file: each region's page has a bit for each slot, set where a page or a block stands, and the header counts the bytes that are free and names the last of these pages.
pub record Maps (header : Header) (file : List ℕ) (places : List Place) : Type 0 where
  pub used : List Bool
  pub size : length used ≡ 3968 * regions_to header.eof
  pub exact : IsCovered (occupied places (regions_to header.eof)) used
  pub pages : (r : ℕ) → r < regions_to header.eof → IsMapPage used r (take 512 (drop (start_of (3968 * r)) file))
  pub free : header.amap_free ≡ 64 * count_by not (take ((header.eof - 0x4400) / 64) used)
  pub last : header.amap_last ≡ last_map header.eof

-- the header doesn't vouch for the maps, or they are right, or the header is the one that was found at the opening
abbrev pub MapsOk : List ℕ → Header → List ℕ → List Place → Type 0
MapsOk found header file places = (header.maps ≡ 0) ⊎ ((header.maps ≡ 2) × Maps header file places) ⊎ (take 564 file ≡ found)

-- ---- a file, and an image

-- the file's header is right, and it lays the nodes and counters; `found` is the header that was found at the opening
pub record FileStands (found bytes : List ℕ) (N : Nodes) (last : List ℕ) : Type 0 where
  pub header : Header
  pub long : 564 ≤ length bytes
  pub read : reading (take 564 bytes) ≡ Ok header
  pub m : NodeMap
  pub lays : Lays header bytes m
  pub those : AreThose m N
  pub counters : header.indexes ≡ last
  pub maps : MapsOk found header bytes (places_of lays.blocks lays.nodes)

-- the two files of an image stand for nodes and counters
pub record Stands (found : List ℕ) (image : Image) (N : Nodes) (last : List ℕ) : Type 0 where
  pub main : 564 ≤ length image.main
  pub side : length image.side ≤ 580
  pub file : FileStands found (file_of image) N last

-- ---- a commit

-- While Main is written, which may leave any bytes that have `during`, the file stands for the old nodes; once they have `after` too, it stands under the new header for the new nodes.
pub record Commits (found : List ℕ) (during after : List ℕ → Type 0) (header : List ℕ) (N : Nodes) (last : List ℕ) (M : Nodes) (next : List ℕ) : Type 0 where
  pub keeps : (new : List ℕ) → during new → FileStands found new N last
  pub makes : (new : List ℕ) → during new → after new → FileStands found (header ++ drop 564 new) M next

-- What a plan of a commit gives: the pieces meet no header, page, block or AMap page of the file, and wherever they stand beside these, the file stands under the new header for the new nodes.
pub record IsPlan (found bytes : List ℕ) (pieces : List Piece) (header : List ℕ) (N : Nodes) (last : List ℕ) (M : Nodes) (next : List ℕ) : Type 0 where
  pub stands : FileStands found bytes N last
  pub front : IsClear pieces 0 564
  pub beside : Each (λ p. IsClear pieces p.ib p.len) (standing (places_of stands.lays.blocks stands.lays.nodes) (regions_to stands.header.eof))
  pub makes : (new : List ℕ) → Scattered pieces bytes new → HoldsEach new pieces → FileStands found (header ++ drop 564 new) M next
