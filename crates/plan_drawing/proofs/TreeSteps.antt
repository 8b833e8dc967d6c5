-- Both trees of a file, read and planned one after the other.
use Rattle.std.proofs.Common.{◌≡◌, ℕ, List, Option, sym, subst}
use Rattle.pst_base.specs.declared.ids.Bref.{Bref}
use Rattle.pst_base.specs.declared.stops.MemOr.{MemOr}
use Rattle.pst_base.specs.declared.stops.SourceStop.{SourceStop}
use Rattle.pst_base.specs.Ids.{key_of}
use Rattle.pst_outside.specs.World.{Image, World}
use Rattle.pst_outside.specs.Calls.{Untouched}
use Rattle.pst_header.specs.declared.header.Header.{Header}
use Rattle.btree_pages.specs.declared.entry.BlockEntry.{BlockEntry}
use Rattle.btree_pages.specs.declared.entry.NodeEntry.{NodeEntry}
use Rattle.btree_pages.specs.Entries.{block_of, node_of, node_key}
use Rattle.file_blocks.specs.Blocks.{entry_key, file_of}
use Rattle.file_layout.proofs.Underway.{untouched_then}
use Rattle.file_layout.specs.Nodes.{NodeMap, blocks_in, nodes_in}
use Rattle.file_pages.proofs.SourceLaws.{caches-still}
use Rattle.file_pages.specs.declared.search.FileTree.{FileTree}
use Rattle.file_pages.specs.Told.{Caches, HasTree, PlansIn, StopsUnless}
use Rattle.node_layout.specs.Joined.{node_id}
use Rattle.node_store.specs.declared.node.PageCaches.{PageCaches}
use Rattle.node_store.specs.Told.{CachesBoth, KeepsTelling, StopsKeeping, TellsNodes, keep_stop}
use Rattle.node_store.proofs.BlockLaws.{keep-stops}
use Rattle.node_store.proofs.NodeLaws.{has-blocks, has-nodes, nodes-on}
use Rattle.page_cache.specs.declared.cache.Cached.{Cached}
use Rattle.tree_edit.specs.declared.plan.Plan.{Plan}
use Rattle.plan_drawing.specs.Trees.{ArePlanned}
use Rattle.plan_drawing.proofs.StopLaws.{unless-later}

-- a tree by its parts
pub tree-is : (t : FileTree) (kind : ℕ) (root : Bref) (eof : ℕ) → t.kind ≡ kind → t.root ≡ root → t.eof ≡ eof → t ≡ record { kind = kind; root = root; eof = eof }
tree-is t kind root eof k r e = λ i. record { kind = k i; root = r i; eof = e i }

abbrev pub block_tree_of : Header → FileTree
block_tree_of header = record { kind = 0x80; root = header.bbt; eof = header.eof }

abbrev pub node_tree_of : Header → FileTree
node_tree_of header = record { kind = 0x81; root = header.nbt; eof = header.eof }

-- what is planned of a tree where the caches are right
abbrev pub BlocksPlanned : World → PageCaches → List (ℕ × Option BlockEntry) → Plan BlockEntry → FileTree → Type 0
BlocksPlanned world caches ds plan t = Caches world t.eof t.kind caches.blocks → PlansIn key_of 24 block_of entry_key (file_of world.here) t.eof t.kind t.root ds plan.pages.items plan.freed.items plan.root

abbrev pub NodesPlanned : World → PageCaches → List (ℕ × Option NodeEntry) → Plan NodeEntry → FileTree → Type 0
NodesPlanned world caches ds plan t = Caches world t.eof t.kind caches.nodes → PlansIn node_key 32 node_of node_id (file_of world.here) t.eof t.kind t.root ds plan.pages.items plan.freed.items plan.root

pub planned-trees : (old mid : World) (header : Header) (caches : PageCaches) (blocks : List (ℕ × Option BlockEntry)) (nodes : List (ℕ × Option NodeEntry)) (bp : Plan BlockEntry) (np : Plan NodeEntry) (t u : FileTree) → t ≡ block_tree_of header → u ≡ node_tree_of header → Untouched old mid
    → BlocksPlanned old caches blocks bp t → NodesPlanned mid caches nodes np u → CachesBoth old header caches → ArePlanned header (file_of old.here) blocks nodes (record { blocks = bp; nodes = np })
planned-trees old mid header caches blocks nodes bp np t u is_t is_u same first second both =
    let there : Caches mid header.eof 0x81 caches.nodes = caches-still same both.nodes in
    let one : BlocksPlanned old caches blocks bp (block_tree_of header) = subst (BlocksPlanned old caches blocks bp) is_t first in
    let two : NodesPlanned mid caches nodes np (node_tree_of header) = subst (NodesPlanned mid caches nodes np) is_u second in
    record {
      of_blocks = one both.blocks;
      of_nodes = subst (λ (i : Image). PlansIn node_key 32 node_of node_id (file_of i) header.eof 0x81 header.nbt nodes np.pages.items np.freed.items np.root) (same.stays.here there.told.tells) (two there);
    }

-- a tree's pages are in the cache still
abbrev pub Keeping : World → World → List (ℕ × Cached) → List (ℕ × Cached) → FileTree → Type 0
Keeping old new cached now t = Caches old t.eof t.kind cached → Caches new t.eof t.kind now

pub keeps-trees : (old mid new : World) (header : Header) (caches : PageCaches) (b n : List (ℕ × Cached)) (t u : FileTree) → t ≡ block_tree_of header → u ≡ node_tree_of header → Untouched old mid → Untouched mid new
    → Keeping old mid caches.blocks b t → Keeping mid new caches.nodes n u → KeepsTelling old new header caches (record { blocks = b; nodes = n })
keeps-trees old mid new header caches b n t u is_t is_u first second on_blocks on_nodes =
    let one : Keeping old mid caches.blocks b (block_tree_of header) = subst (Keeping old mid caches.blocks b) is_t on_blocks in
    let two : Keeping mid new caches.nodes n (node_tree_of header) = subst (Keeping mid new caches.nodes n) is_u on_nodes in
    nodes-on (untouched_then first second) (λ both. record { blocks = caches-still second (one both.blocks); nodes = two (caches-still first both.nodes) })

-- after the block tree alone
pub keeps-blocks : (old new : World) (header : Header) (caches : PageCaches) (b : List (ℕ × Cached)) (t : FileTree) → t ≡ block_tree_of header → Untouched old new → Keeping old new caches.blocks b t → KeepsTelling old new header caches (record { blocks = b; nodes = caches.nodes })
keeps-blocks old new header caches b t is_t same on_blocks =
    let one : Keeping old new caches.blocks b (block_tree_of header) = subst (Keeping old new caches.blocks b) is_t on_blocks in
    nodes-on same (λ both. record { blocks = one both.blocks; nodes = caches-still same both.nodes })

-- why each stops
abbrev pub BlocksTold : World → PageCaches → FileTree → Type 0
BlocksTold world caches t = Caches world t.eof t.kind caches.blocks × ((es : List BlockEntry) × HasTree key_of 24 block_of entry_key (file_of world.here) t.eof t.kind t.root es)

abbrev pub NodesTold : World → PageCaches → FileTree → Type 0
NodesTold world caches t = Caches world t.eof t.kind caches.nodes × ((es : List NodeEntry) × HasTree node_key 32 node_of node_id (file_of world.here) t.eof t.kind t.root es)

pub block-stops : (old new : World) (header : Header) (caches : PageCaches) (t : FileTree) → t ≡ block_tree_of header → (Whole : Type 0) → (Whole → (m : NodeMap) × TellsNodes old header caches m) → (stop : MemOr SourceStop) → StopsUnless old new (BlocksTold old caches t) stop
    → StopsKeeping old new Whole (keep_stop stop)
block-stops old new header caches t is_t Whole tells stop stops =
    keep-stops old new (BlocksTold old caches (block_tree_of header)) Whole (λ whole. let is = tells whole in (is.1.cached.blocks, (blocks_in is.1.lays.blocks, has-blocks is.1.lays))) stop
    (subst (λ (u : FileTree). StopsUnless old new (BlocksTold old caches u) stop) is_t stops)

pub node-stops : (old mid new : World) (header : Header) (caches : PageCaches) (u : FileTree) → u ≡ node_tree_of header → Untouched old mid → (Whole : Type 0) → (Whole → (m : NodeMap) × TellsNodes old header caches m) → (stop : MemOr SourceStop) → StopsUnless mid new (NodesTold mid caches u) stop
    → StopsKeeping old new Whole (keep_stop stop)
node-stops old mid new header caches u is_u same Whole tells stop stops =
    keep-stops old new (NodesTold old caches (node_tree_of header)) Whole (λ whole. let is = tells whole in (is.1.cached.nodes, (nodes_in is.1.lays.nodes, has-nodes is.1.lays))) stop
    (unless-later old mid new (NodesTold old caches (node_tree_of header)) (NodesTold mid caches (node_tree_of header)) same
    (λ told.
    let there : Caches mid header.eof 0x81 caches.nodes = caches-still same told.0 in
    (there, (told.1.0, subst (λ (i : Image). HasTree node_key 32 node_of node_id (file_of i) header.eof 0x81 header.nbt told.1.0) (sym (same.stays.here there.told.tells)) told.1.1)))
    stop (subst (λ (x : FileTree). StopsUnless mid new (NodesTold mid caches x) stop) is_u stops))
