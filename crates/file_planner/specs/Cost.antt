-- How many bytes a commit writes, by what it changes of a file.
use Rattle.std.specs.Prelude.{◌≡◌, ◌⊎◌, ◌<◌, ◌≤◌, ◌+◌, ◌-◌, ◌*◌, ◌^◌, ◌++◌, ℕ, List, length, take, Option, Ok}
use Rattle.pst_base.specs.declared.ids.Bref.{Bref}
use Rattle.pst_base.specs.declared.ids.Nid.{Nid}
use Rattle.pst_header.specs.declared.header.Header.{Header}
use Rattle.pst_header.specs.Format.{reading}
use Rattle.btree_pages.specs.Entries.{block_of, node_of}
use Rattle.file_blocks.specs.Blocks.{entry_key, found_in}
use Rattle.file_layout.specs.Nodes.{NodeMap, Lays, block_tree, blocks_in, node_tree, nodes_in}
use Rattle.file_layout.specs.Numbers.{next_block, next_page}
use Rattle.file_pages.specs.InFile.{IsShapedRoot}
use Rattle.node_layout.specs.Joined.{node_id}
use Rattle.node_layout.specs.Lookups.{Each}
use Rattle.node_port.specs.declared.node.NodeRec.{NodeRec}
use Rattle.node_port.specs.Stops.{size}
use Rattle.plan_pieces.specs.Growth.{regions_in}
use Rattle.tree_edit.specs.Shapes.{RiseIn}
use Rattle.file_planner.specs.Follows.{references}
use Rattle.file_planner.specs.New.{entries_from}

-- so many keys of a tree whose root has this level change that it may pass level 7
abbrev pub MayPass : ℕ → ℕ → Type 0
MayPass level keys = 20 ^ (7 - (level - 1)) < 20 + keys

-- A tree that may pass level 7 was written anew: each of its pages has a number from a limit on, and they are so many.
pub record IsRewritten (level keys limit : ℕ) (now : List Bref) (pages : ℕ) : Type 0 where
  pub many : MayPass level keys
  pub new : Each (λ (at : Bref). limit ≤ (at.bid).bits) now
  pub count : pages ≡ length now

-- so many pages of a tree are new: at most two for each key that changes at each level and at two more, unless the tree was written anew
abbrev pub AreFewPages : ℕ → ℕ → ℕ → List Bref → ℕ → Type 0
AreFewPages level keys limit now pages = (pages ≤ (2 * (level + 2)) * keys) ⊎ IsRewritten level keys limit now pages

-- What a commit of changes of nodes writes, but for the header and the gate: its new blocks, which are at most one and a half times the data blocks, nodes and subnodes of the changes; the new pages of both trees; and what makes the file longer, region by region. The keys of the block tree that change are those of the new blocks and of the old ones whose numbers of references change; those of the node tree, which are at most as many as the changes.
pub record IsWithin (old new : List ℕ) (cs : List (Nid × Option NodeRec)) (bytes : ℕ) : Type 0 where
  pub before : Header
  pub was : reading (take 564 old) ≡ Ok before
  pub m : NodeMap
  pub lays : Lays before old m
  pub after : Header
  pub is : reading (take 564 new) ≡ Ok after
  pub n : NodeMap
  pub now_lays : Lays after new n
  -- both trees before, by levels
  pub of_blocks : IsShapedRoot block_of entry_key (block_tree old before.eof) before.bbt lays.blocks
  pub of_nodes : IsShapedRoot node_of node_id (node_tree old before.eof) before.nbt lays.nodes
  -- the old blocks whose numbers of references change
  pub recounted : List ℕ
  pub ascend : RiseIn 0 (2 ^ 64) recounted
  pub differ : Each (λ (k : ℕ). references (found_in old (blocks_in lays.blocks)) (nodes_in lays.nodes) k ≡ references (found_in new (blocks_in now_lays.blocks)) (nodes_in now_lays.nodes) k → ⊥) recounted
  -- the new blocks
  pub blocks : ℕ
  pub blocks_are : blocks ≡ length (entries_from (next_block before (blocks_in lays.blocks)) (blocks_in now_lays.blocks))
  pub few : 2 * blocks ≤ 3 * size cs
  -- the new pages of each tree
  pub block_pages : ℕ
  pub few_blocks : AreFewPages of_blocks.level (length recounted + blocks) (next_page before (lays.blocks.pages ++ lays.nodes.pages)) now_lays.blocks.pages block_pages
  pub node_pages : ℕ
  pub few_nodes : AreFewPages of_nodes.level (length cs) (next_page before (lays.blocks.pages ++ lays.nodes.pages)) now_lays.nodes.pages node_pages
  pub pages_are : after.next_page ≡ next_page before (lays.blocks.pages ++ lays.nodes.pages) + (block_pages + node_pages)
  pub within : bytes ≤ 8192 * blocks + 512 * (block_pages + node_pages) + 1537 * (regions_in after.eof - regions_in before.eof)
