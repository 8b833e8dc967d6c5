-- What is planned for a file that lays nodes, and what it must have in the new file.
use Rattle.std.specs.Prelude.{◌≡◌, ◌≤◌, ◌⊎◌, ◌^◌, ◌++◌, ℕ, Bool, true, List, [], ◌∷◌, length, map, take, drop, Option, None, Some, Ok}
use Rattle.pst_base.specs.declared.ids.Bid.{Bid}
use Rattle.pst_base.specs.declared.ids.Bref.{Bref}
use Rattle.pst_base.specs.declared.ids.Nid.{Nid}
use Rattle.pst_base.specs.declared.places.Place.{Place}
use Rattle.pst_base.specs.Ids.{key_of}
use Rattle.pst_header.specs.declared.header.Header.{Header}
use Rattle.pst_header.specs.Format.{reading}
use Rattle.alloc_map.specs.Standing.{standing}
use Rattle.btree_pages.specs.declared.entry.BlockEntry.{BlockEntry}
use Rattle.btree_pages.specs.declared.entry.NodeEntry.{NodeEntry}
use Rattle.btree_pages.specs.Entries.{block_of, node_of}
use Rattle.file_blocks.specs.Blocks.{Stands, data_of, entry_key, found_in}
use Rattle.file_layout.specs.Trees.{page_place}
use Rattle.file_layout.specs.Nodes.{NodeMap, Lays, block_tree, node_tree, blocks_in, nodes_in, place_of, places_of, regions_to, LARGEST}
use Rattle.lays_kept.specs.Kept.{Each as EachPlace, SameAt}
use Rattle.lays_kept.specs.Grown.{NeedsOnly}
use Rattle.alloc_map.specs.Covered.{Once}
use Rattle.alloc_map.specs.Tally.{one_at, tally as slot_tally}
use Rattle.node_port.specs.declared.node.NodeRec.{NodeRec}
use Rattle.lays_kept.specs.Renewed.{LeadsTo}
use Rattle.tree_edit.specs.declared.plan.Child.{Child}
use Rattle.tree_edit.specs.declared.plan.PlanPage.{PlanPage}
use Rattle.tree_edit.specs.Shapes.{IsWhole}
use Rattle.tree_edit.specs.Edits.{edited, AreEdits, entry_with, extra}
use Rattle.tree_edit.specs.Plans.{names, resolve, AreShown, IsPlan}
use Rattle.file_pages.specs.InFile.{shapes_in}
use Rattle.node_layout.specs.Lookups.{edit_at, or_old, Each, EachPut}

-- the key of a node's entry
abbrev pub node_id : NodeEntry → ℕ
node_id e = (e.nid).bits

-- ---- one tree

-- edits of a tree, and the pages that they come to
pub record TreePlan (E : Type 0) : Type 0 where
  pub edits : List (ℕ × Option E)
  pub pages : List (PlanPage E)
  pub freed : List Bref
  pub top : Child
  -- the id and the place of each new page
  pub name : ℕ → Bref

-- where its new pages stand
abbrev pub places_in : {E : Type 0} → TreePlan E → List Place
places_in p = map page_place (names p.name 0 p.pages)

-- ---- blocks and nodes

-- what is found under a key where edits have changed the entries of blocks
abbrev pub found_after : List ℕ → List BlockEntry → List (ℕ × Option BlockEntry) → ℕ → Option (List ℕ)
found_after file old ds key = data_of file (or_old (edit_at key ds) (entry_with entry_key key old))

-- an entry that may be put in the place of another: only the number of references changes
abbrev pub Recounts : BlockEntry → Option BlockEntry → Type 0
Recounts old None = ⊥
Recounts old (Some e) = (e.at ≡ old.at) × (e.cb ≡ old.cb)

-- the edits leave the blocks of these keys as they are
abbrev pub AreLeft : List BlockEntry → List (ℕ × Option BlockEntry) → (ℕ → Bool) → Type 0
AreLeft old ds some = (key : ℕ) (e : BlockEntry) → some key ≡ true → entry_with entry_key key old ≡ Some e → Recounts e (or_old (edit_at key ds) (Some e))

-- each node that the edits leave needs only the blocks of some keys
abbrev pub AllNeedOnly : (ℕ → Option (List ℕ)) → ℕ → List NodeEntry → List (ℕ × Option NodeEntry) → (ℕ → Bool) → Type 0
AllNeedOnly find eof old ds some = Each (λ e. edit_at (node_id e) ds ≡ None → NeedsOnly find eof e some) old

-- Each change of a node has an edit of its entry, which leads to the node put; a node that is removed and isn't there has none.
abbrev pub AreChanged : (ℕ → Option (List ℕ)) → ℕ → List NodeEntry → List (ℕ × Option NodeEntry) → List (Nid × Option NodeRec) → Type 0
AreChanged find eof old ds [] = ds ≡ []
AreChanged find eof old ds (c ∷ cs) =
    ((d : ℕ × Option NodeEntry) × (rest : List (ℕ × Option NodeEntry)) × (ds ≡ d ∷ rest) × (d.0 ≡ (c.0).bits) × LeadsTo find eof d.1 c.1 × AreChanged find eof old rest cs)
    ⊎ ((c.1 ≡ None) × (entry_with node_id (c.0).bits old ≡ None) × AreChanged find eof old ds cs)

-- ---- the whole

-- The edits and pages are right for the trees of a file that lays nodes, whatever is written beside them.
pub record IsPlanned {header : Header} {file : List ℕ} {m : NodeMap} (is : Lays header file m) (blocks : TreePlan BlockEntry) (nodes : TreePlan NodeEntry) : Type 0 where
  pub block_edits : AreEdits entry_key 0 (2 ^ 64) blocks.edits
  pub block_plan : (es : List BlockEntry) (ps : List Bref) → IsWhole (shapes_in block_of (block_tree file header.eof)) entry_key header.bbt es ps
      → IsPlan (shapes_in block_of (block_tree file header.eof)) entry_key blocks.pages blocks.freed blocks.top (edited entry_key es blocks.edits) ps
  pub node_edits : AreEdits node_id 0 (2 ^ 64) nodes.edits
  pub node_plan : (es : List NodeEntry) (ps : List Bref) → IsWhole (shapes_in node_of (node_tree file header.eof)) node_id header.nbt es ps
      → IsPlan (shapes_in node_of (node_tree file header.eof)) node_id nodes.pages nodes.freed nodes.top (edited node_id es nodes.edits) ps
  -- the blocks that are left suffice for the nodes that are left
  pub some : ℕ → Bool
  pub left : AreLeft (blocks_in is.blocks) blocks.edits some
  pub needs : AllNeedOnly (found_in file (blocks_in is.blocks)) header.eof (nodes_in is.nodes) nodes.edits some
  -- the places of the new blocks
  pub block_places : List Place
  pub counted : (slot : ℕ) → extra entry_key (λ e. one_at slot (place_of e)) (blocks_in is.blocks) blocks.edits ≤ slot_tally slot block_places

-- The new file has the plan's pages and blocks, and all that stood in the old one.
pub record HasPlanned {header : Header} {file : List ℕ} {m : NodeMap} (is : Lays header file m) (blocks : TreePlan BlockEntry) (nodes : TreePlan NodeEntry) (new : Header) (bytes : List ℕ) (block_places : List Place) (cs : List (Nid × Option NodeRec)) : Type 0 where
  pub long : 564 ≤ length bytes
  pub read : reading (take 564 bytes) ≡ Ok new
  pub unmapped : new.maps ≡ 0
  pub long_enough : new.eof ≤ length bytes
  pub small_enough : new.eof ≤ LARGEST
  pub longer : header.eof ≤ new.eof
  pub bbt : new.bbt ≡ resolve blocks.name blocks.top
  pub nbt : new.nbt ≡ resolve nodes.name nodes.top
  pub kept : EachPlace (SameAt file bytes) (places_of is.blocks is.nodes)
  pub block_pages : AreShown (shapes_in block_of (block_tree bytes new.eof)) blocks.name 0 blocks.pages
  pub node_pages : AreShown (shapes_in node_of (node_tree bytes new.eof)) nodes.name 0 nodes.pages
  pub stand : EachPut (Stands bytes new.eof) blocks.edits
  pub changes : AreChanged (found_after bytes (blocks_in is.blocks) blocks.edits) new.eof (nodes_in is.nodes) nodes.edits cs
  pub once : Once ((places_in blocks ++ (places_in nodes ++ block_places)) ++ standing (places_of is.blocks is.nodes) (regions_to new.eof))

-- a new block has an entry, and its bytes stand where the entry says
pub record IsHere (bytes : List ℕ) (ds : List (ℕ × Option BlockEntry)) (block : Bid × List ℕ) : Type 0 where
  pub entry : BlockEntry
  pub edit : edit_at (key_of (block.0).bits) ds ≡ Some (Some entry)
  pub size : entry.cb ≡ length block.1
  pub stands : take (length block.1) (drop (entry.at).ib bytes) ≡ block.1

-- the keys of the blocks that are kept
abbrev pub kept_keys : List (Option Bid) → List ℕ
kept_keys [] = []
kept_keys (None ∷ keep) = kept_keys keep
kept_keys (Some bid ∷ keep) = key_of bid.bits ∷ kept_keys keep
