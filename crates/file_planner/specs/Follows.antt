-- What of a file's nodes and blocks stays after a commit, and what goes.
use Rattle.std.specs.Prelude.{◌≡◌, ◌⊎◌, ◌+◌, min, ℕ, List, Option, Some}
use Rattle.pst_header.specs.declared.header.Header.{Header}
use Rattle.btree_pages.specs.declared.entry.BlockEntry.{BlockEntry}
use Rattle.btree_pages.specs.declared.entry.NodeEntry.{NodeEntry}
use Rattle.file_blocks.specs.Blocks.{entry_key, found_in}
use Rattle.file_layout.specs.Nodes.{NodeMap, Lays, blocks_in, nodes_in}
use Rattle.file_layout.specs.Numbers.{next_block}
use Rattle.lays_kept.specs.Renewed.{LeadsTo}
use Rattle.node_port.specs.declared.node.NodeRec.{NodeRec}
use Rattle.node_layout.specs.Joined.{node_id}
use Rattle.node_layout.specs.Lookups.{sum_of}
use Rattle.node_layout.specs.Counts.{NoneUnused, uses}
use Rattle.tree_edit.specs.Edits.{entry_with}
use Rattle.content_plan.specs.Plan.{NamesOver}
use Rattle.content_plan.specs.Told.{content_at}

-- an entry leads to a node whose blocks are named over those of the entry that was there, if there was one: of its data and of its subnodes' just the blocks stay whose bytes and position do, and all others have new numbers, from a limit on
abbrev pub IsPutOver : (find after : ℕ → Option (List ℕ)) → (eof more limit : ℕ) → Option NodeEntry → NodeEntry → Type 0
IsPutOver find after eof more limit old e = (node : NodeRec) × LeadsTo after more (Some e) (Some node) × NamesOver after limit (content_at find eof old) e node

-- how many references the nodes of these entries have to a block
abbrev pub references : (ℕ → Option (List ℕ)) → List NodeEntry → ℕ → ℕ
references find es key = sum_of (uses find key) es

-- What a file lays under one header, and what it lays under the next.
pub record Follows {before after : Header} {old new : List ℕ} {m n : NodeMap} (was : Lays before old m) (is : Lays after new n) : Type 0 where
  -- each node has the entry that it had, or is put over what was there
  pub nodes : (k : ℕ) (e : NodeEntry) → entry_with node_id k (nodes_in is.nodes) ≡ Some e
      → (entry_with node_id k (nodes_in was.nodes) ≡ Some e)
      ⊎ IsPutOver (found_in old (blocks_in was.blocks)) (found_in new (blocks_in is.blocks)) before.eof after.eof (next_block before (blocks_in was.blocks)) (entry_with node_id k (nodes_in was.nodes)) e
  -- a block that stays has its place and its size
  pub stay : (k : ℕ) (b e : BlockEntry) → entry_with entry_key k (blocks_in was.blocks) ≡ Some b → entry_with entry_key k (blocks_in is.blocks) ≡ Some e → (e.at ≡ b.at) × (e.cb ≡ b.cb)
  -- and the count that it had, or where its number of references changes that number with one more, up to the greatest of 16 bits
  pub counted : (k : ℕ) (b e : BlockEntry) → entry_with entry_key k (blocks_in was.blocks) ≡ Some b → entry_with entry_key k (blocks_in is.blocks) ≡ Some e
      → ((references (found_in old (blocks_in was.blocks)) (nodes_in was.nodes) k ≡ references (found_in new (blocks_in is.blocks)) (nodes_in is.nodes) k) × (e.refs ≡ b.refs))
      ⊎ (e.refs ≡ min (references (found_in new (blocks_in is.blocks)) (nodes_in is.nodes) k + 1) 0xffff)
  -- a block that no node reaches is there only where it was there, and no node reached it
  pub freed : NoneUnused (blocks_in was.blocks) (blocks_in is.blocks) (references (found_in old (blocks_in was.blocks)) (nodes_in was.nodes)) (references (found_in new (blocks_in is.blocks)) (nodes_in is.nodes))
