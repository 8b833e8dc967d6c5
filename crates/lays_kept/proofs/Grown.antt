-- A node reads the same where more blocks are found and the file is longer.
use Rattle.std.proofs.Common.{ℕ, ◌≤◌, List, [], ◌∷◌, Option, Ok}
use Rattle.btree_pages.specs.declared.entry.NodeEntry.{NodeEntry}
use Rattle.data_tree.specs.Grown.{FindsAll, Gives}
use Rattle.data_tree.specs.Tree.{blocks_of}
use Rattle.data_tree.proofs.GrownLaws.{and_then_gives, blocks_gives, same_gives}
use Rattle.subnode_tree.specs.Subnodes.{subs_of}
use Rattle.subnode_tree.proofs.GrownLaws.{subs_gives}
use Rattle.file_layout.specs.Nodes.{Node, node_at, AreNodes}

module _ (find found : ℕ → Option (List ℕ)) (more : FindsAll find found) where
  pub node_gives : (eof longer : ℕ) → eof ≤ longer → (e : NodeEntry) → Gives (node_at find eof e) (node_at found longer e)
  unfolding node_at
  node_gives eof longer grows e =
      and_then_gives (blocks_of find eof e.content) (blocks_of found longer e.content) _ _ (blocks_gives find found more eof longer grows e.content)
      (λ blocks. and_then_gives (subs_of find eof e.subnodes) (subs_of found longer e.subnodes) _ _ (subs_gives find found more eof longer grows e.subnodes)
      (λ subs. same_gives (Ok (record { nid = (e.nid).bits; parent = (e.parent).bits; blocks = blocks; subs = subs }))))

  pub nodes_give : (eof longer : ℕ) → eof ≤ longer → (es : List NodeEntry) (nodes : List Node) → AreNodes find eof es nodes → AreNodes found longer es nodes
  nodes_give eof longer grows [] nodes are = are
  nodes_give eof longer grows (e ∷ es) nodes are = (are.0, are.1, are.2, node_gives eof longer grows e are.0 are.3, nodes_give eof longer grows es are.1 are.4)
