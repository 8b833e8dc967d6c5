-- What a file must have under a new header, so that it lays changed nodes: the facts that a planner gives.
use Rattle.std.specs.Prelude.{◌≡◌, ◌==◌, ◌≤◌, ℕ, if◌then◌else◌, List, [], ◌∷◌, length, take, Option, None, Some, Ok}
use Rattle.pst_header.specs.declared.header.Header.{Header}
use Rattle.pst_header.specs.Format.{reading}
use Rattle.alloc_map.specs.Standing.{standing, IsMeeting}
use Rattle.btree_pages.specs.declared.entry.NodeEntry.{NodeEntry}
use Rattle.file_blocks.specs.Blocks.{AllStand, found_in}
use Rattle.file_layout.specs.Trees.{Found, IsWhole}
use Rattle.file_layout.specs.Nodes.{Node, node_at, block_tree, node_tree, blocks_in, nodes_in, places_of, regions_to, LARGEST}
use Rattle.node_port.specs.declared.node.NodeRec.{NodeRec}
use Rattle.node_port.specs.Nodes as port
use Rattle.lays_kept.specs.Stands.{rec_of}

-- the entry of a node
abbrev pub entry_for : ℕ → List NodeEntry → Option NodeEntry
entry_for q [] = None
entry_for q (e ∷ es) = if (e.nid).bits == q then Some e else entry_for q es

-- each entry leads to a node
abbrev pub EachLeads : (ℕ → Option (List ℕ)) → ℕ → List NodeEntry → Type 0
EachLeads find eof [] = Unit {0}
EachLeads find eof (e ∷ es) = ((n : Node) × (node_at find eof e ≡ Ok n)) × EachLeads find eof es

-- what an entry, if there is one, leads to
abbrev pub LeadsTo : (ℕ → Option (List ℕ)) → ℕ → Option NodeEntry → Option NodeRec → Type 0
LeadsTo find eof None node = node ≡ None
LeadsTo find eof (Some e) node = (n : Node) × (node_at find eof e ≡ Ok n) × (node ≡ Some (rec_of n))

-- The file has whole trees under the header, whose entries lead to the nodes, id by id; no two places meet.
pub record Renews (header : Header) (bytes : List ℕ) (N : port.Nodes) : Type 0 where
  pub long : 564 ≤ length bytes
  pub read : reading (take 564 bytes) ≡ Ok header
  pub unmapped : header.maps ≡ 0
  pub long_enough : header.eof ≤ length bytes
  pub small_enough : header.eof ≤ LARGEST
  pub blocks : Found
  pub block_pages : IsWhole (block_tree bytes header.eof) header.bbt blocks
  pub stand : AllStand bytes header.eof (blocks_in blocks)
  pub nodes : Found
  pub node_pages : IsWhole (node_tree bytes header.eof) header.nbt nodes
  pub lead : EachLeads (found_in bytes (blocks_in blocks)) header.eof (nodes_in nodes)
  pub to : (q : ℕ) → LeadsTo (found_in bytes (blocks_in blocks)) header.eof (entry_for q (nodes_in nodes)) (port.node_at N q)
  pub apart : (slot : ℕ) → IsMeeting (standing (places_of blocks nodes) (regions_to header.eof)) slot → ⊥
