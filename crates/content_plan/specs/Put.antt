-- What one node that is put comes to.
use Rattle.std.specs.Prelude.{◌≡◌, ◌≤◌, ◌⊎◌, ◌+◌, ◌*◌, ◌++◌, ℕ, List, [], ◌∷◌, length, Option, Some, IsSome, Ok}
use Rattle.std.specs.List.{All}
use Rattle.pst_base.specs.declared.ids.Bid.{Bid}
use Rattle.pst_base.specs.declared.ids.Nid.{Nid}
use Rattle.pst_base.specs.Flat.{Flat}
use Rattle.btree_pages.specs.declared.entry.NodeEntry.{NodeEntry}
use Rattle.data_tree.specs.Keys.{AreSame, count_of, keys_of}
use Rattle.data_tree.specs.Plan.{AreFound, AreSmall, IsFound, Rise, bids_in, placed}
use Rattle.data_tree.specs.Tree.{bids_of}
use Rattle.lays_kept.specs.Renewed.{LeadsTo}
use Rattle.node_layout.specs.Joined.{kept_keys, node_id}
use Rattle.node_port.specs.declared.node.NodeRec.{NodeRec}
use Rattle.node_port.specs.Stops.{size}
use Rattle.node_reach.specs.Reach.{node_keys}
use Rattle.subnode_tree.specs.Plan.{SubsFound}
use Rattle.content_plan.specs.Keep.{all_kept_keys, kept_list, kept_subs}
use Rattle.content_plan.specs.Plan.{Bounds, HoldsSubs, StayFound}
use Rattle.content_plan.specs.Told.{Content, IsOld}

-- the last of a node's new blocks hold its subnodes
pub record EndsInSubs (next : ℕ) (keep : List (List (Option Bid))) (flats : List Flat) (bid : Bid) (blocks : List (Bid × List ℕ)) : Type 0 where
  pub front : List (Bid × List ℕ)
  pub back : List (Bid × List ℕ)
  pub parts : blocks ≡ front ++ back
  pub holds : HoldsSubs (next + 4 * length front) keep flats bid back

-- The entry and the new blocks of a node of which some blocks stay, and the keys that it will reach: wherever the new blocks are found, and those that stay, the entry leads to the node.
pub record PutsNode (next : ℕ) (nid : Nid) (node : NodeRec) (keep : List (Option Bid)) (sub_keep : List (List (Option Bid))) (entry : NodeEntry) (blocks : List (Bid × List ℕ)) (keys : List ℕ) : Type 0 where
  pub own : node_id entry ≡ nid.bits
  pub rise : Rise next blocks
  pub small : AreSmall blocks
  pub most : 2 * (length blocks + 1) ≤ 3 * size ((nid, Some node) ∷ [])
  pub counted : (key : ℕ) → count_of key keys ≡ count_of key (kept_keys keep) + (count_of key (all_kept_keys sub_keep) + count_of key (keys_of (bids_in blocks)))
  pub leads : (after : ℕ → Option (List ℕ)) (eof : ℕ) → All (IsFound after) blocks → AreFound after keep node.blocks → SubsFound after sub_keep node.subs → Bounds after eof → LeadsTo after eof (Some entry) (Some node)
  pub reaches : (after : ℕ → Option (List ℕ)) → All (IsFound after) blocks → AreSame (node_keys after entry) keys
  pub names : (after : ℕ → Option (List ℕ)) → All (IsFound after) blocks → bids_of after entry.content ≡ Ok (bids_in (placed next keep node.blocks))
  pub subs : EndsInSubs next sub_keep node.subs entry.subnodes blocks

-- The same over what was there, of which blocks with ids below a limit stay where their bytes do at their positions.
pub record PutsOver (limit next : ℕ) (nid : Nid) (node : NodeRec) (old : Content) (entry : NodeEntry) (blocks : List (Bid × List ℕ)) (keys : List ℕ) : Type 0 where
  pub own : node_id entry ≡ nid.bits
  pub rise : Rise next blocks
  pub small : AreSmall blocks
  pub most : 2 * (length blocks + 1) ≤ 3 * size ((nid, Some node) ∷ [])
  pub known : (find : ℕ → Option (List ℕ)) → IsOld find old → (key : ℕ) → 1 ≤ count_of key keys → IsSome (find key) ⊎ (1 ≤ count_of key (keys_of (bids_in blocks)))
  pub fresh : (key : ℕ) → 1 ≤ count_of key (keys_of (bids_in blocks)) → 1 ≤ count_of key keys
  pub leads : (find after : ℕ → Option (List ℕ)) (eof : ℕ) → IsOld find old → All (IsFound after) blocks → StayFound find after keys → Bounds after eof → LeadsTo after eof (Some entry) (Some node)
  pub reaches : (after : ℕ → Option (List ℕ)) → All (IsFound after) blocks → AreSame (node_keys after entry) keys
  pub names : (after : ℕ → Option (List ℕ)) → All (IsFound after) blocks → bids_of after entry.content ≡ Ok (bids_in (placed next (kept_list limit old.ids old.blocks node.blocks) node.blocks))
  pub subs : (find : ℕ → Option (List ℕ)) → IsOld find old → EndsInSubs next (kept_subs limit old.sub_ids old.subs node.subs) node.subs entry.subnodes blocks
