-- A node whose data was planned is read from the new file.
use Rattle.std.proofs.Common.{◌≡◌, ◌∙◌, ℕ, List, take, drop, Option, Some, Result, Ok, sym, ap}
use Rattle.std.specs.List.{All}
use Rattle.pst_base.specs.declared.ids.Bid.{Bid}
use Rattle.pst_base.specs.declared.ids.Nid.{Nid}
use Rattle.pst_base.specs.Flat.{Flat}
use Rattle.pst_base.specs.Ids.{key_of}
use Rattle.btree_pages.specs.declared.entry.BlockEntry.{BlockEntry}
use Rattle.btree_pages.specs.declared.entry.NodeEntry.{NodeEntry}
use Rattle.data_tree.specs.declared.source.TreeStop.{TreeStop}
use Rattle.data_tree.specs.Tree.{and_then, blocks_of}
use Rattle.data_tree.specs.Plan.{IsFound}
use Rattle.subnode_tree.specs.Subnodes.{subs_of}
use Rattle.file_blocks.specs.Blocks.{entry_key, data_of}
use Rattle.file_layout.specs.Nodes.{Node, node_at}
use Rattle.node_port.specs.declared.node.NodeRec.{NodeRec}
use Rattle.lays_kept.specs.Renewed.{LeadsTo}
use Rattle.tree_edit.specs.Edits.{entry_with}
use Rattle.node_layout.specs.Lookups.{or_old}
use Rattle.node_layout.specs.Joined.{found_after, IsHere}

-- a new block is found
pub here-found : (bytes : List ℕ) (old : List BlockEntry) (ds : List (ℕ × Option BlockEntry)) (block : Bid × List ℕ) → IsHere bytes ds block → IsFound (found_after bytes old ds) block
here-found bytes old ds block is =
    ap (λ (o : Option (Option BlockEntry)). data_of bytes (or_old o (entry_with entry_key (key_of (block.0).bits) old))) is.edit
    ∙ ap Some (ap (λ (n : ℕ). take n (drop ((is.entry).at).ib bytes)) is.size ∙ is.stands)

-- an entry whose data and subnodes read so leads to the node
pub node-leads : (find : ℕ → Option (List ℕ)) (eof : ℕ) (e : NodeEntry) (r : NodeRec) → blocks_of find eof e.content ≡ Ok r.blocks → subs_of find eof e.subnodes ≡ Ok r.subs → e.parent ≡ r.parent → LeadsTo find eof (Some e) (Some r)
unfolding node_at
node-leads find eof e r data_reads subs_read parent =
    let n : Node = record { nid = (e.nid).bits; parent = (e.parent).bits; blocks = r.blocks; subs = r.subs } in (
      n,
      ap (λ (o : Result (List (List ℕ)) TreeStop). and_then o (λ blocks. and_then (subs_of find eof e.subnodes) (λ subs. Ok (record { nid = (e.nid).bits; parent = (e.parent).bits; blocks = blocks; subs = subs })))) data_reads
          ∙ ap (λ (o : Result (List Flat) TreeStop). and_then o (λ subs. Ok (record { nid = (e.nid).bits; parent = (e.parent).bits; blocks = r.blocks; subs = subs }))) subs_read,
      ap (λ (p : Nid). Some (record { parent = p; blocks = r.blocks; subs = r.subs })) (sym parent),
    )

-- all of them
pub all-here : (bytes : List ℕ) (old : List BlockEntry) (ds : List (ℕ × Option BlockEntry)) (blocks : List (Bid × List ℕ)) → All (IsHere bytes ds) blocks → All (IsFound (found_after bytes old ds)) blocks
all-here bytes old ds blocks all = λ k d lt. here-found bytes old ds _ (all k d lt)
