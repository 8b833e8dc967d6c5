-- What a world tells of a file's blocks and entries, call by call.
use Rattle.std.proofs.Common.{◌≡◌, ℕ, ◌^◌, ◌≤◌, List, [], ◌∷◌, map, Option, sym, subst, arith}
use Rattle.pst_outside.specs.World.{Image, World}
use Rattle.pst_outside.specs.Calls.{Untouched}
use Rattle.pst_header.specs.declared.header.Header.{Header}
use Rattle.btree_pages.specs.declared.entry.NodeEntry.{NodeEntry}
use Rattle.btree_pages.specs.Entries.{node_of, node_key}
use Rattle.file_blocks.specs.Blocks.{file_of, found_in}
use Rattle.file_layout.specs.Nodes.{AreNodes, Node, NodeMap, blocks_in, nodes_in}
use Rattle.file_pages.specs.Told.{Caches, HasTree}
use Rattle.file_pages.proofs.SourceLaws.{caches-still}
use Rattle.lays_kept.specs.Renewed.{EachLeads}
use Rattle.node_layout.specs.Joined.{node_id}
use Rattle.page_cache.specs.declared.cache.Cached.{Cached}
use Rattle.node_port.specs.declared.keeper.KeepStop.{KeepStop}
use Rattle.node_port.specs.declared.keeper.KeepStop.TheVariants as keep
use Rattle.node_store.specs.declared.node.PageCaches.{PageCaches}
use Rattle.node_store.specs.Told.{AsksBlocks, KeepsTelling, StopsKeeping, TellsNodes}
use Rattle.node_store.proofs.BlockLaws.{tells-on}
use Rattle.node_store.proofs.NextLaws.{whole-rise}
use Rattle.node_store.proofs.NodeLaws.{blocks-told, has-nodes, nodes-on}
use Rattle.tree_edit.specs.Shapes.{RiseIn}
use Rattle.content_plan.specs.Told.{KeepsParts, TellsParts, blocks_tree}

each-leads : (find : ℕ → Option (List ℕ)) (eof : ℕ) (es : List NodeEntry) (nodes : List Node) → AreNodes find eof es nodes → EachLeads find eof es
each-leads find eof [] nodes are = tt
each-leads find eof (e ∷ es) nodes are = ((are.0, are.3), each-leads find eof es are.1 are.4)

-- what a world that lays nodes tells
pub parts-told : {world : World} {header : Header} {caches : PageCaches} {m : NodeMap} (is : TellsNodes world header caches m) → TellsParts world header caches (found_in (file_of world.here) (blocks_in is.lays.blocks)) (nodes_in is.lays.nodes)
parts-told {world} {header} {caches} {m} is = record {
  blocks = blocks-told is;
  nodes = is.cached.nodes;
  has_tree = has-nodes is.lays;
  lead = each-leads (found_in (file_of world.here) (blocks_in is.lays.blocks)) header.eof (nodes_in is.lays.nodes) m.nodes is.lays.are;
}

-- the entries ascend
pub parts-rise : {world : World} {header : Header} {caches : PageCaches} {find : ℕ → Option (List ℕ)} {es : List NodeEntry} → TellsParts world header caches find es → RiseIn 0 (2 ^ 64) (map node_id es)
parts-rise {world} {header} {caches} {find} {es} is = whole-rise _ node_id header.nbt es (is.has_tree).0 (is.has_tree).1

has-on : {old new : World} (header : Header) {cached : List (ℕ × Cached)} {es : List NodeEntry} → Untouched old new → Caches old header.eof 0x81 cached
    → HasTree node_key 32 node_of node_id (file_of old.here) header.eof 0x81 header.nbt es → HasTree node_key 32 node_of node_id (file_of new.here) header.eof 0x81 header.nbt es
has-on {old} {new} header {cached} {es} same kept tree =
    let still = caches-still same kept in
    subst (λ (i : Image). HasTree node_key 32 node_of node_id (file_of i) header.eof 0x81 header.nbt es) (sym (same.stays.here still.told.tells)) tree

-- pages of the node tree were read
pub keeps-nodes : {old new : World} {header : Header} {caches now : PageCaches} → Untouched old new → (Caches old header.eof 0x81 caches.nodes → Caches new header.eof 0x81 now.nodes) → now.blocks ≡ caches.blocks → KeepsParts old new header caches now
keeps-nodes {old} {new} {header} {caches} {now} same pages blocks find es is = record {
  blocks = tells-on same (λ c. subst (λ (l : List (ℕ × Cached)). Caches new header.eof 0x80 l) (sym blocks) (caches-still same c)) find is.blocks;
  nodes = pages is.nodes;
  has_tree = has-on header same is.nodes is.has_tree;
  lead = is.lead;
}

-- blocks were read
pub keeps-blocks : {old new : World} {header : Header} {caches now : PageCaches} → AsksBlocks old new (blocks_tree header) (blocks_tree header) caches.blocks now.blocks → now.nodes ≡ caches.nodes → KeepsParts old new header caches now
keeps-blocks {old} {new} {header} {caches} {now} asks nodes find es is = record {
  blocks = asks.told find is.blocks;
  nodes = subst (λ (l : List (ℕ × Cached)). Caches new header.eof 0x81 l) (sym nodes) (caches-still asks.same is.nodes);
  has_tree = has-on header asks.same is.nodes is.has_tree;
  lead = is.lead;
}

-- so a world tells nodes on
pub keeps-telling : {old new : World} {header : Header} {caches now : PageCaches} → Untouched old new → KeepsParts old new header caches now → KeepsTelling old new header caches now
keeps-telling {old} {new} {header} {caches} {now} same on m told =
    let parts = on (found_in (file_of old.here) (blocks_in told.lays.blocks)) (nodes_in told.lays.nodes) (parts-told told) in
    nodes-on same (λ both. record { blocks = parts.blocks.caches; nodes = parts.nodes }) m told

-- a stop of a call behind others
pub stops-then : (old mid new : World) (Part Whole : Type 0) → old.disk_faults ≤ mid.disk_faults → (Whole → Part) → (stop : KeepStop) → StopsKeeping mid new Part stop → StopsKeeping old new Whole stop
stops-then old mid new Part Whole le part keep.Fault stops = omega (arith, le, stops)
stops-then old mid new Part Whole le part (keep.Changed ib stored computed) stops = λ is. stops (part is)
stops-then old mid new Part Whole le part keep.Memory stops = tt
