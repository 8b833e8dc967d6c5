-- What edits of both trees of a file come to.
use Rattle.std.specs.Prelude.{ℕ, List, Option}
use Rattle.pst_base.specs.Ids.{key_of}
use Rattle.pst_header.specs.declared.header.Header.{Header}
use Rattle.btree_pages.specs.declared.entry.BlockEntry.{BlockEntry}
use Rattle.btree_pages.specs.declared.entry.NodeEntry.{NodeEntry}
use Rattle.btree_pages.specs.Entries.{block_of, node_of, node_key}
use Rattle.file_blocks.specs.Blocks.{entry_key}
use Rattle.file_pages.specs.Told.{PlansIn}
use Rattle.node_layout.specs.Joined.{node_id}
use Rattle.plan_drawing.specs.declared.trees.Trees.{Trees}

-- both are planned right for the trees of a file with this header
pub record ArePlanned (header : Header) (file : List ℕ) (blocks : List (ℕ × Option BlockEntry)) (nodes : List (ℕ × Option NodeEntry)) (trees : Trees) : Type 0 where
  pub of_blocks : PlansIn key_of 24 block_of entry_key file header.eof 0x80 header.bbt blocks trees.blocks.pages.items trees.blocks.freed.items trees.blocks.root
  pub of_nodes : PlansIn node_key 32 node_of node_id file header.eof 0x81 header.nbt nodes trees.nodes.pages.items trees.nodes.freed.items trees.nodes.root
