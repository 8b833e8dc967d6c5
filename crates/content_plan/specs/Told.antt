-- What a world tells of a file's blocks and entries, and what is read of a node that is there.
use Rattle.std.specs.Prelude.{◌≡◌, ℕ, true, List, [], map, ◌++◌, Option, None, Some, Result, Ok, Err}
use Rattle.pst_base.specs.declared.ids.Bid.{Bid}
use Rattle.pst_base.specs.Flat.{Flat}
use Rattle.pst_outside.specs.World.{World}
use Rattle.pst_header.specs.declared.header.Header.{Header}
use Rattle.btree_pages.specs.declared.entry.NodeEntry.{NodeEntry}
use Rattle.btree_pages.specs.Entries.{node_of, node_key}
use Rattle.data_tree.specs.declared.source.TreeStop.{TreeStop}
use Rattle.data_tree.specs.Keys.{data_keys_read}
use Rattle.data_tree.specs.Plan.{AreFound}
use Rattle.data_tree.specs.Tree.{and_then, bids_of, blocks_of}
use Rattle.subnode_tree.specs.Bids.{sub_bids_of}
use Rattle.subnode_tree.specs.KeyReads.{sub_keys_read}
use Rattle.subnode_tree.specs.Plan.{SubsFound}
use Rattle.subnode_tree.specs.Subnodes.{subs_of}
use Rattle.file_blocks.specs.Blocks.{file_of}
use Rattle.file_pages.specs.declared.search.FileTree.{FileTree}
use Rattle.file_pages.specs.Told.{Caches, HasTree}
use Rattle.lays_kept.specs.Renewed.{EachLeads}
use Rattle.node_layout.specs.Joined.{node_id}
use Rattle.tree_edit.specs.Edits.{entry_with}
use Rattle.node_reach.specs.Reach.{node_keys}
use Rattle.node_store.specs.declared.node.PageCaches.{PageCaches}
use Rattle.node_store.specs.Told.{TellsBlocks}
use Rattle.content_plan.specs.declared.content.Old.{Old}
use Rattle.content_plan.specs.Keep.{subs_ascend}

-- the block tree of a file
abbrev pub blocks_tree : Header → FileTree
blocks_tree header = record { kind = 0x80; root = header.bbt; eof = header.eof }

-- The world tells a file with these blocks and entries of nodes, which lead to nodes, and the caches have no other pages than the file's.
pub record TellsParts (world : World) (header : Header) (caches : PageCaches) (find : ℕ → Option (List ℕ)) (es : List NodeEntry) : Type 0 where
  pub blocks : TellsBlocks world (blocks_tree header) caches.blocks find
  pub nodes : Caches world header.eof 0x81 caches.nodes
  pub has_tree : HasTree node_key 32 node_of node_id (file_of world.here) header.eof 0x81 header.nbt es
  pub lead : EachLeads find header.eof es

-- what a world tells of them it tells still, through other caches
abbrev pub KeepsParts : World → World → Header → PageCaches → PageCaches → Type 0
KeepsParts old new header caches now = (find : ℕ → Option (List ℕ)) (es : List NodeEntry) → TellsParts old header caches find es → TellsParts new header now find es

-- the world tells such a file
abbrev pub HasParts : World → Header → PageCaches → Type 0
HasParts world header caches = (find : ℕ → Option (List ℕ)) × (es : List NodeEntry) × TellsParts world header caches find es

-- the same, and this is the entry of a node, if it has one
abbrev pub HasEntry : World → Header → PageCaches → ℕ → Option NodeEntry → Type 0
HasEntry world header caches nid entry = (find : ℕ → Option (List ℕ)) × (es : List NodeEntry) × TellsParts world header caches find es × (entry_with node_id nid es ≡ entry)

-- what the node of an entry reaches, if there is one
abbrev pub keys_at : (ℕ → Option (List ℕ)) → Option NodeEntry → List ℕ
keys_at find None = []
keys_at find (Some e) = node_keys find e

-- ---- what is read of a node

-- the keys of all blocks that the node of an entry reaches
unfoldable pub keys_read : (ℕ → Option (List ℕ)) → ℕ → NodeEntry → Result (List ℕ) TreeStop
keys_read find eof e = and_then (data_keys_read find e.content) (λ content. and_then (sub_keys_read find eof e.subnodes) (λ subs. Ok (content ++ subs)))

-- the ids and the data of a node and of its subnodes
pub record Content : Type 0 where
  pub ids : List (Option Bid)
  pub blocks : List (List ℕ)
  pub sub_ids : List (List (Option Bid))
  pub subs : List Flat

-- the same as code holds them
abbrev pub content_of : Old → Content
content_of old = record { ids = old.ids; blocks = old.blocks; sub_ids = old.sub_ids.items; subs = old.subs }

-- those of an entry
unfoldable pub content_read : (ℕ → Option (List ℕ)) → ℕ → NodeEntry → Result Content TreeStop
content_read find eof e =
    and_then (bids_of find e.content) (λ ids. and_then (blocks_of find eof e.content) (λ blocks.
    and_then (sub_bids_of find eof e.subnodes) (λ sub_ids. and_then (subs_of find eof e.subnodes) (λ subs. Ok (record { ids = map Some ids; blocks = blocks; sub_ids = sub_ids; subs = subs })))))

abbrev pub no_content : Content
no_content = record { ids = []; blocks = []; sub_ids = []; subs = [] }

-- what was read, or nothing
abbrev pub or_none : Result Content TreeStop → Content
or_none (Ok content) = content
or_none (Err stop) = no_content

-- the content of a node that may be there
abbrev pub content_at : (ℕ → Option (List ℕ)) → ℕ → Option NodeEntry → Content
content_at find eof None = no_content
content_at find eof (Some e) = or_none (content_read find eof e)

-- under each id stand the bytes at its position, and subnodes beside each other ascend
pub record IsOld (find : ℕ → Option (List ℕ)) (old : Content) : Type 0 where
  pub data_found : AreFound find old.ids old.blocks
  pub subs_found : SubsFound find old.sub_ids old.subs
  pub subs_rise : subs_ascend old.subs ≡ true
