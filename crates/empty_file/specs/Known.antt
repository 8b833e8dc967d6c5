-- What is found of a file without nodes.
use Rattle.std.specs.Prelude.{◌≡◌, ℕ, ◌*◌, [], length}
use Rattle.pst_outside.specs.World.{Image}
use Rattle.alloc_map.specs.Standing.{occupied, IsCovered}
use Rattle.file_layout.specs.Nodes.{places_of}
use Rattle.file_scan.specs.declared.scan.FoundFile.{FoundFile}
use Rattle.file_scan.specs.Found.{IsFound}
use Rattle.ref_counts.specs.Tables.{refs_in}
use Rattle.empty_file.specs.Empty.{IsFirst, alone, block_root, node_root}

-- what is known of it before it is laid: its header, two pages, their slots and those of the fixed pages, numbers behind the pages', and no references
pub record IsKnown (found : FoundFile) : Type 0 where
  pub first : IsFirst found.header
  pub size : length found.slots ≡ 3968 * 8192
  pub used : IsCovered (occupied (places_of (alone block_root) (alone node_root)) 8192) found.slots
  pub pages : found.pages ≡ 2
  pub next_block : found.next_block ≡ 4
  pub next_page : found.next_page ≡ 4
  pub refs : (key : ℕ) → refs_in found.refs key ≡ 0

-- this is found of the two files, and they lay no node
pub record IsFoundEmpty (image : Image) (found : FoundFile) : Type 0 where
  pub is : IsFound image found
  pub none : (is.nodes).nodes ≡ []
