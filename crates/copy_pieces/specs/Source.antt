-- The trees of the file that is copied.
use Rattle.std.specs.Prelude.{◌≡◌, ◌≤◌, length}
use Rattle.pst_outside.specs.World.{Image}
use Rattle.pst_header.specs.declared.header.Header.{Header}
use Rattle.file_layout.specs.Nodes.{block_tree, blocks_in, node_tree, nodes_in}
use Rattle.file_layout.specs.Trees.{Found, IsWhole, file_of}
use Rattle.copy_pieces.specs.declared.source.Entries.{Entries}

-- the file reaches to its end, and both its trees are whole
pub record HasTrees (header : Header) (image : Image) : Type 0 where
  pub whole : header.eof ≤ length image.main
  pub blocks : Found
  pub block_pages : IsWhole (block_tree (file_of image) header.eof) header.bbt blocks
  pub nodes : Found
  pub node_pages : IsWhole (node_tree (file_of image) header.eof) header.nbt nodes

-- these are the entries of both, whichever way they are read
pub record HasEntries (header : Header) (image : Image) (entries : Entries) : Type 0 where
  pub blocks : (found : Found) → IsWhole (block_tree (file_of image) header.eof) header.bbt found → entries.blocks.items ≡ blocks_in found
  pub nodes : (found : Found) → IsWhole (node_tree (file_of image) header.eof) header.nbt found → entries.nodes.items ≡ nodes_in found
