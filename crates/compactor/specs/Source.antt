-- The file of which a copy is made.
use Rattle.std.specs.Prelude.{◌≡◌, ◌<◌, ◌^◌, ◌++◌, Ok}
use Rattle.pst_outside.specs.World.{Image}
use Rattle.file_layout.specs.Nodes.{Lays, NodeMap, blocks_in}
use Rattle.file_layout.specs.Numbers.{next_block, next_page}
use Rattle.file_layout.specs.Opening.{opening}
use Rattle.file_layout.specs.Trees.{file_of}
use Rattle.compactor.specs.declared.source.Source.{Source}

-- The files open with this header and lay a node map; these are their next numbers, which are not used up.
pub record IsSource (image : Image) (source : Source) : Type 0 where
  pub opened : opening image.main image.side ≡ Ok source.header
  pub m : NodeMap
  pub lays : Lays source.header (file_of image) m
  pub block_number : source.next_block ≡ next_block source.header (blocks_in lays.blocks)
  pub page_number : source.next_page ≡ next_page source.header (lays.blocks.pages ++ lays.nodes.pages)
  pub blocks_left : source.next_block < 2 ^ 61
  pub pages_left : source.next_page < 2 ^ 61
