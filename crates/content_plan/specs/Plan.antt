-- What changes of nodes come to.
use Rattle.std.specs.Prelude.{◌≡◌, ◌≤◌, ◌⊎◌, ◌+◌, ◌*◌, ◌++◌, ℕ, List, [], ◌∷◌, length, Option, None, Some, IsSome, Ok}
use Rattle.std.specs.List.{All}
use Rattle.pst_base.specs.declared.ids.Bid.{Bid}
use Rattle.pst_base.specs.declared.ids.Nid.{Nid}
use Rattle.pst_base.specs.Flat.{Flat}
use Rattle.pst_header.specs.declared.header.Header.{Header}
use Rattle.btree_pages.specs.declared.entry.NodeEntry.{NodeEntry}
use Rattle.data_tree.specs.Keys.{AreSame, count_of, keys_of}
use Rattle.data_tree.specs.Plan.{AreSmall, IsFound, Rise, bids_in, bytes_in, contents, placed}
use Rattle.data_tree.specs.Tree.{bids_of}
use Rattle.file_blocks.specs.Blocks.{found_in}
use Rattle.file_layout.specs.Nodes.{NodeMap, Lays, blocks_in, nodes_in}
use Rattle.node_layout.specs.Joined.{AreChanged, node_id}
use Rattle.node_port.specs.declared.node.NodeRec.{NodeRec}
use Rattle.node_port.specs.Stops.{size}
use Rattle.node_layout.specs.Counts as refs
use Rattle.subnode_tree.specs.Keys.{sub_keys}
use Rattle.subnode_tree.specs.Plan.{AreAmong, SubsNameKept, SubsReadKept}
use Rattle.tree_edit.specs.Edits.{AreEdits, entry_with}
use Rattle.content_plan.specs.declared.plan.ContentPlan.{ContentPlan}
use Rattle.content_plan.specs.Keep.{all_kept_keys, kept_list, kept_subs}
use Rattle.content_plan.specs.Told.{Content, content_at}

-- data of blocks that are found under different keys is no longer than the file
abbrev pub Bounds : (ℕ → Option (List ℕ)) → ℕ → Type 0
Bounds after eof = (blocks : List (Bid × List ℕ)) → All (IsFound after) blocks → ((key : ℕ) → count_of key (keys_of (bids_in blocks)) ≤ 1) → bytes_in (contents blocks) ≤ eof

-- under each key that is put and that was there stand the bytes from before
abbrev pub StayFound : (ℕ → Option (List ℕ)) → (ℕ → Option (List ℕ)) → List ℕ → Type 0
StayFound find after keys = (key : ℕ) (b : List ℕ) → 1 ≤ count_of key keys → find key ≡ Some b → after key ≡ Some b

-- New blocks with ids from a number on hold subnodes of which data blocks stay: all other data of each lies among them in order, the data of each has just the ids of those that stay at their positions and of its new ones, they read as the subnodes where those that stay have the bytes there, and the subnodes reach just them and those that stay.
pub record HoldsSubs (next : ℕ) (keep : List (List (Option Bid))) (flats : List Flat) (bid : Bid) (blocks : List (Bid × List ℕ)) : Type 0 where
  pub rise : Rise next blocks
  pub laid : AreAmong next blocks keep flats
  pub ids : SubsNameKept next blocks keep bid flats
  pub reads : SubsReadKept blocks keep bid flats
  pub reaches : (after : ℕ → Option (List ℕ)) → All (IsFound after) blocks → AreSame (sub_keys after bid) (all_kept_keys keep ++ keys_of (bids_in blocks))

-- The blocks of a node that is put over what was there: of its data, and of each subnode's over that of the subnode with the same path, those that stay have their ids, each at its position. All others have new ones, from a number on.
pub record NamesOver (after : ℕ → Option (List ℕ)) (limit : ℕ) (old : Content) (e : NodeEntry) (node : NodeRec) : Type 0 where
  pub next : ℕ
  pub behind : limit ≤ next
  pub own : bids_of after e.content ≡ Ok (bids_in (placed next (kept_list limit old.ids old.blocks node.blocks) node.blocks))
  pub sub_next : ℕ
  pub sub_behind : limit ≤ sub_next
  pub new : List (Bid × List ℕ)
  pub found : All (IsFound after) new
  pub subs : HoldsSubs sub_next (kept_subs limit old.sub_ids old.subs node.subs) node.subs e.subnodes new

-- the same of a change that puts a node
abbrev pub IsNamed : (find after : ℕ → Option (List ℕ)) → (eof limit : ℕ) → Option NodeEntry → Option NodeEntry → Option NodeRec → Type 0
IsNamed find after eof limit old None _ = Unit {0}
IsNamed find after eof limit old (Some e) None = Unit {0}
IsNamed find after eof limit old (Some e) (Some node) = NamesOver after limit (content_at find eof old) e node

-- the same of each change that has an edit
abbrev pub AreNamed : (find after : ℕ → Option (List ℕ)) → (eof limit : ℕ) → List NodeEntry → List (ℕ × Option NodeEntry) → List (Nid × Option NodeRec) → Type 0
AreNamed find after eof limit es ds [] = ds ≡ []
AreNamed find after eof limit es ds (c ∷ cs) =
    ((d : ℕ × Option NodeEntry) × (rest : List (ℕ × Option NodeEntry)) × (ds ≡ d ∷ rest) × (d.0 ≡ (c.0).bits) × IsNamed find after eof limit (entry_with node_id (c.0).bits es) d.1 c.1 × AreNamed find after eof limit es rest cs)
    ⊎ ((c.1 ≡ None) × AreNamed find after eof limit es ds cs)

-- Edits and blocks for changes of nodes, with new ids from a limit on, where blocks are found in a file of eof bytes as find gives them, and these are the entries of the nodes; and the keys that those with an edit reach, and will reach.
pub record PlansContents (find : ℕ → Option (List ℕ)) (eof limit : ℕ) (es : List NodeEntry) (cs : List (Nid × Option NodeRec)) (edits : List (ℕ × Option NodeEntry)) (blocks : List (Bid × List ℕ)) (taken put : List ℕ) : Type 0 where
  pub taken_are : (key : ℕ) → count_of key taken ≡ refs.taken find es edits key
  -- each key that will be reached is that of a block found now, or of a new one
  pub known : (key : ℕ) → 1 ≤ count_of key put → IsSome (find key) ⊎ (1 ≤ count_of key (keys_of (bids_in blocks)))
  -- and that of each new block is
  pub fresh : (key : ℕ) → 1 ≤ count_of key (keys_of (bids_in blocks)) → 1 ≤ count_of key put
  -- In each file that has the new blocks, and where those that stay have the bytes from before, the entries lead to the nodes put, and reach just these keys.
  pub shows : (after : ℕ → Option (List ℕ)) (more : ℕ) → All (IsFound after) blocks → StayFound find after put → Bounds after more
      → AreChanged after more es edits cs × ((key : ℕ) → count_of key put ≡ refs.put after edits key)
  -- and just the data blocks that stay have their ids, each at its position
  pub names : (after : ℕ → Option (List ℕ)) → All (IsFound after) blocks → AreNamed find after eof limit es edits cs

-- what a plan says of a file that lays nodes
abbrev pub IsContentPlan : {header : Header} {file : List ℕ} {m : NodeMap} → Lays header file m → ℕ → List (Nid × Option NodeRec) → ContentPlan → Type 0
IsContentPlan {header} {file} is next cs plan = PlansContents (found_in file (blocks_in is.blocks)) header.eof next (nodes_in is.nodes) cs plan.edits.items plan.blocks.items plan.taken.items plan.put.items

-- how many entries edits put
abbrev pub puts_in : List (ℕ × Option NodeEntry) → ℕ
puts_in edits = refs.sum_put (λ e. 1) edits

-- What holds of a plan whatever the file is: new blocks have ids from a number on, the edits ascend between two ids, and there are few of both.
pub record IsCounted (next low high : ℕ) (cs : List (Nid × Option NodeRec)) (edits : List (ℕ × Option NodeEntry)) (blocks : List (Bid × List ℕ)) : Type 0 where
  pub rise : Rise next blocks
  pub small : AreSmall blocks
  pub most : 2 * (length blocks + puts_in edits) ≤ 3 * size cs
  pub edits_rise : AreEdits node_id low high edits
