-- The nodes of a file by the entries of its trees.
use Rattle.std.proofs.Common.{Bool, true, false, ◌≡◌, ℕ, ◌≤◌, eqb, if◌then◌else◌, length, slice_get, List, [], ◌∷◌, map, refl, sym, ap, subst, ◌∙◌, arith, Option, Some, None, IsSome, Result, Ok, Err}
use Rattle.pst_base.specs.declared.ids.Nid.{Nid}
use Rattle.pst_base.specs.Flat.{Flat}
use Rattle.pst_base.specs.Ids.{key_of}
use Rattle.pst_outside.specs.World.{Image, World}
use Rattle.pst_outside.specs.Calls.{Untouched}
use Rattle.pst_header.specs.declared.header.Header.{Header}
use Rattle.btree_pages.specs.declared.entry.NodeEntry.{NodeEntry}
use Rattle.btree_pages.specs.Entries.{block_of, node_of, node_key}
use Rattle.btree_pages.specs.EntryLaws.{key-block_of, key-node_of}
use Rattle.data_tree.specs.declared.source.TreeStop.{TreeStop}
use Rattle.data_tree.specs.Single.{single_of}
use Rattle.data_tree.specs.Tree.{and_then, blocks_of}
use Rattle.data_tree.proofs.SingleLaws.{single-is}
use Rattle.subnode_tree.specs.Subnodes.{subs_of}
use Rattle.file_blocks.specs.Blocks.{entry_key, file_of, found_in}
use Rattle.file_layout.specs.Nodes.{AreNodes, Lays, Node, NodeMap, block_tree, blocks_in, node_at, node_tree, nodes_in}
use Rattle.tree_edit.specs.Edits.{entry_with}
use Rattle.tree_edit.specs.Shapes.{RiseIn}
use Rattle.tree_search.specs.Search.{first_from}
use Rattle.file_pages.specs.Told.{Caches, HasTree}
use Rattle.file_pages.proofs.Bridge.{shaped-root}
use Rattle.lays_kept.specs.Stands.{AreThose, node_with, rec_of}
use Rattle.node_port.specs.declared.node.NodeRec.{NodeRec}
use Rattle.node_port.specs.Nodes as port
use Rattle.node_store.specs.declared.node.PageCaches.{PageCaches}
use Rattle.file_layout.proofs.Underway.{untouched_then}
use Rattle.file_pages.proofs.SourceLaws.{caches-still}
use Rattle.node_store.proofs.BlockLaws.{tells-on}
use Rattle.node_store.proofs.NextLaws.{first-some, first-none}
use Rattle.node_store.specs.Told.{AsksBlocks, Begins, CachesBoth, KeepsTelling, IsNodeOf, TellsBlocks, TellsNodes, part_of, reached}
use Rattle.node_store.specs.declared.node.Reach.{Reach}
use Rattle.node_store.specs.declared.node.Reach.TheVariants.{Whole, Data}

abbrev pub node_id : NodeEntry → ℕ
node_id e = (e.nid).bits

-- ---- the trees

pub has-nodes : {header : Header} {file : List ℕ} {m : NodeMap} (is : Lays header file m) → HasTree node_key 32 node_of node_id file header.eof 0x81 header.nbt (nodes_in is.nodes)
has-nodes {header} {file} is = (is.nodes.pages, shaped-root node_of node_id (node_tree file header.eof) key-node_of header.nbt is.nodes is.node_pages)

pub has-blocks : {header : Header} {file : List ℕ} {m : NodeMap} (is : Lays header file m) → HasTree key_of 24 block_of entry_key file header.eof 0x80 header.bbt (blocks_in is.blocks)
has-blocks {header} {file} is = (is.blocks.pages, shaped-root block_of entry_key (block_tree file header.eof) key-block_of header.bbt is.blocks is.block_pages)

-- what a world that lays nodes tells of its blocks
pub blocks-told : {world : World} {header : Header} {caches : PageCaches} {m : NodeMap} (is : TellsNodes world header caches m) → TellsBlocks world (record { kind = 0x80; root = header.bbt; eof = header.eof }) caches.blocks (found_in (file_of world.here) (blocks_in is.lays.blocks))
blocks-told is = record { caches = is.cached.blocks; entries = blocks_in is.lays.blocks; has_tree = has-blocks is.lays; stand = is.lays.stand; found = λ key. refl }

-- ---- a node of an entry

ok-same : {Y : Type 0} (x y : Y) → ◌≡◌ {A = Result Y TreeStop} (Ok x) (Ok y) → x ≡ y
ok-same x y h = cc

node-id : (find : ℕ → Option (List ℕ)) (eof : ℕ) (e : NodeEntry) (n : Node) → node_at find eof e ≡ Ok n → n.nid ≡ node_id e
unfolding node_at
node-id find eof e n is = by_blocks (blocks_of find eof e.content) is
  where
    by_subs : (blocks : List (List ℕ)) (r : Result (List Flat) TreeStop) → and_then r (λ subs. Ok (record { nid = (e.nid).bits; parent = (e.parent).bits; blocks = blocks; subs = subs })) ≡ Ok n → n.nid ≡ node_id e
    by_subs blocks (Ok subs) is = sym (ap (λ (n : Node). n.nid) (ok-same _ _ is))
    by_subs blocks (Err fault) is = absurd (cc)

    by_blocks : (r : Result (List (List ℕ)) TreeStop) → and_then r (λ blocks. and_then (subs_of find eof e.subnodes) (λ subs. Ok (record { nid = (e.nid).bits; parent = (e.parent).bits; blocks = blocks; subs = subs }))) ≡ Ok n → n.nid ≡ node_id e
    by_blocks (Ok blocks) is = by_subs blocks (subs_of find eof e.subnodes) is
    by_blocks (Err fault) is = absurd (cc)

-- the node of its data and its subnodes
pub node-made : (find : ℕ → Option (List ℕ)) (eof : ℕ) (e : NodeEntry) (blocks : List (List ℕ)) (subs : List Flat) → blocks_of find eof e.content ≡ Ok blocks → subs_of find eof e.subnodes ≡ Ok subs
    → node_at find eof e ≡ Ok (record { nid = (e.nid).bits; parent = (e.parent).bits; blocks = blocks; subs = subs })
unfolding node_at
node-made find eof e blocks subs one two = rw (one, two) refl

pub data-fault : (find : ℕ → Option (List ℕ)) (eof : ℕ) (e : NodeEntry) (fault : TreeStop) → blocks_of find eof e.content ≡ Err fault → node_at find eof e ≡ Err fault
unfolding node_at
data-fault find eof e fault one = rw one refl

pub subs-fault : (find : ℕ → Option (List ℕ)) (eof : ℕ) (e : NodeEntry) (blocks : List (List ℕ)) (fault : TreeStop) → blocks_of find eof e.content ≡ Ok blocks → subs_of find eof e.subnodes ≡ Err fault → node_at find eof e ≡ Err fault
unfolding node_at
subs-fault find eof e blocks fault one two = rw (one, two) refl

-- ---- the nodes by their ids

pub node-none : (find : ℕ → Option (List ℕ)) (eof k : ℕ) (es : List NodeEntry) (nodes : List Node) → AreNodes find eof es nodes → entry_with node_id k es ≡ None → node_with k nodes ≡ None
node-none find eof k [] nodes are none = ap (node_with k) are
node-none find eof k (e ∷ es) nodes are none = ap (node_with k) are.2 ∙ by_key (eqb (node_id e) k) refl (λ n. node-none find eof k es are.1 are.4 n) none
  where
    by_key : (b : Bool) → eqb (node_id e) k ≡ b → (entry_with node_id k es ≡ None → node_with k are.1 ≡ None) → (if b then Some e else entry_with node_id k es) ≡ None → node_with k (are.0 ∷ are.1) ≡ None
    by_key true is rest none = absurd (cc)
    by_key false is rest none = rw (ap (λ (n : ℕ). eqb n k) (node-id find eof e are.0 are.3) ∙ is) (rest none)

pub node-some : (find : ℕ → Option (List ℕ)) (eof k : ℕ) (es : List NodeEntry) (nodes : List Node) (found : NodeEntry) → AreNodes find eof es nodes → entry_with node_id k es ≡ Some found
    → (n : Node) × (node_at find eof found ≡ Ok n) × (node_with k nodes ≡ Some (rec_of n))
node-some find eof k [] nodes found are some = absurd (cc)
node-some find eof k (e ∷ es) nodes found are some = by_key (eqb (node_id e) k) refl (λ h. node-some find eof k es are.1 found are.4 h) some
  where
    by_key : (b : Bool) → eqb (node_id e) k ≡ b → (entry_with node_id k es ≡ Some found → (n : Node) × (node_at find eof found ≡ Ok n) × (node_with k are.1 ≡ Some (rec_of n))) → (if b then Some e else entry_with node_id k es) ≡ Some found → (n : Node) × (node_at find eof found ≡ Ok n) × (node_with k nodes ≡ Some (rec_of n))
    by_key true is rest some =
        let same : e ≡ found = cc in
        (are.0, subst (λ (x : NodeEntry). node_at find eof x ≡ Ok are.0) same are.3, ap (node_with k) are.2 ∙ rw (ap (λ (n : ℕ). eqb n k) (node-id find eof e are.0 are.3) ∙ is) refl)
    by_key false is rest some =
        let more = rest some in
        (more.0, more.1, ap (node_with k) are.2 ∙ rw (ap (λ (n : ℕ). eqb n k) (node-id find eof e are.0 are.3) ∙ is) more.2)

-- what an entry's node reads as has the data that the entry leads to
data-read : (find : ℕ → Option (List ℕ)) (eof : ℕ) (e : NodeEntry) (n : Node) → node_at find eof e ≡ Ok n → (blocks_of find eof e.content ≡ Ok n.blocks) × ((e.nid).bits ≡ n.nid) × ((e.parent).bits ≡ n.parent)
unfolding node_at
data-read find eof e n is = by_blocks (blocks_of find eof e.content) refl is
  where
    by_subs : (blocks : List (List ℕ)) (r : Result (List Flat) TreeStop) → and_then r (λ subs. Ok (record { nid = (e.nid).bits; parent = (e.parent).bits; blocks = blocks; subs = subs })) ≡ Ok n
        → (blocks ≡ n.blocks) × ((e.nid).bits ≡ n.nid) × ((e.parent).bits ≡ n.parent)
    by_subs blocks (Ok subs) is = let same = ok-same _ _ is in (ap (λ (n : Node). n.blocks) same, ap (λ (n : Node). n.nid) same, ap (λ (n : Node). n.parent) same)
    by_subs blocks (Err fault) is = absurd (cc)

    by_blocks : (r : Result (List (List ℕ)) TreeStop) → blocks_of find eof e.content ≡ r → and_then r (λ blocks. and_then (subs_of find eof e.subnodes) (λ subs. Ok (record { nid = (e.nid).bits; parent = (e.parent).bits; blocks = blocks; subs = subs }))) ≡ Ok n
        → (blocks_of find eof e.content ≡ Ok n.blocks) × ((e.nid).bits ≡ n.nid) × ((e.parent).bits ≡ n.parent)
    by_blocks (Ok blocks) here is = let p = by_subs blocks (subs_of find eof e.subnodes) is in (here ∙ ap Ok p.0, p.1, p.2)
    by_blocks (Err fault) here is = absurd (cc)

no-subs : (find : ℕ → Option (List ℕ)) (eof : ℕ) → subs_of find eof (record { bits = 0 }) ≡ Ok []
unfolding subs_of
no-subs find eof = refl

-- a node of a file as far as it is read
abbrev node-part : Reach → Node → Node
node-part Whole n = n
node-part Data n = record n { subs = [] }

part-rec : (reach : Reach) (n : Node) → Some (rec_of (node-part reach n)) ≡ part_of reach (Some (rec_of n))
part-rec Whole n = refl
part-rec Data n = refl

-- an entry's node reads so far as it is read
part-read : (find : ℕ → Option (List ℕ)) (eof : ℕ) (e : NodeEntry) (n : Node) (reach : Reach) → node_at find eof e ≡ Ok n → node_at find eof (reached reach e) ≡ Ok (node-part reach n)
part-read find eof e n Whole is = is
part-read find eof e n Data is =
    let d = data-read find eof e n is in
    node-made find eof (reached Data e) n.blocks [] d.0 (no-subs find eof) ∙ ap Ok (rw (d.1, d.2) refl)

-- a keeper's node, so far as it is read, is that of an entry
pub part-kept : (N : port.Nodes) (m : NodeMap) (find : ℕ → Option (List ℕ)) (eof k : ℕ) (es : List NodeEntry) (e : NodeEntry) (rec : NodeRec) (reach : Reach) → AreThose m N → AreNodes find eof es m.nodes → Some e ≡ entry_with node_id k es
    → IsNodeOf find eof (reached reach e) rec → Some rec ≡ part_of reach (port.node_at N k)
part-kept N m find eof k es e rec reach those are here is =
    let n = node-some find eof k es m.nodes e are (sym here) in
    let same : is.node ≡ node-part reach n.0 = ok-same is.node (node-part reach n.0) (sym is.reads ∙ part-read find eof e n.0 reach n.1) in
    ap Some (is.is ∙ ap rec_of same) ∙ part-rec reach n.0 ∙ sym (ap (part_of reach) (those k ∙ n.2))

part-of-none : (reach : Reach) → None ≡ part_of reach None
part-of-none Whole = refl
part-of-none Data = refl

pub part-none : (N : port.Nodes) (m : NodeMap) (find : ℕ → Option (List ℕ)) (eof k : ℕ) (es : List NodeEntry) (reach : Reach) → AreThose m N → AreNodes find eof es m.nodes → None ≡ entry_with node_id k es → None ≡ part_of reach (port.node_at N k)
part-none N m find eof k es reach those are here = part-of-none reach ∙ sym (ap (part_of reach) (those k ∙ node-none find eof k es m.nodes are (sym here)))

-- ---- worlds

pub nodes-on : {old new : World} {header : Header} {caches now : PageCaches} → Untouched old new → (CachesBoth old header caches → CachesBoth new header now) → (m : NodeMap) → TellsNodes old header caches m → TellsNodes new header now m
nodes-on {old} {new} {header} {caches} {now} same on m told =
    let both = on told.cached in
    record { cached = both; lays = subst (λ (i : Image). Lays header (file_of i) m) (sym (same.stays.here both.nodes.told.tells)) told.lays }

-- what a world tells of nodes it tells on, where pages of the node tree were read, and then blocks
pub nodes-then : {old mid new : World} {header : Header} {caches now : PageCaches} → Untouched old mid → (Caches old header.eof 0x81 caches.nodes → Caches mid header.eof 0x81 now.nodes)
    → AsksBlocks mid new (record { kind = 0x80; root = header.bbt; eof = header.eof }) (record { kind = 0x80; root = header.bbt; eof = header.eof }) caches.blocks now.blocks → KeepsTelling old new header caches now
nodes-then {old} {mid} {new} {header} {caches} {now} first pages asks m told =
    let blocks = asks.told (found_in (file_of old.here) (blocks_in told.lays.blocks)) (tells-on first (λ c. caches-still first c) (found_in (file_of old.here) (blocks_in told.lays.blocks)) (blocks-told told)) in
    nodes-on (untouched_then first asks.same) (λ both. record { blocks = blocks.caches; nodes = caches-still asks.same (pages both.nodes) }) m told

-- the blocks of a world that lays nodes, after the pages of the node tree were read
pub blocks-then : {old mid : World} {header : Header} {caches : PageCaches} {m : NodeMap} → Untouched old mid → (told : TellsNodes old header caches m)
    → TellsBlocks mid (record { kind = 0x80; root = header.bbt; eof = header.eof }) caches.blocks (found_in (file_of old.here) (blocks_in told.lays.blocks))
blocks-then {old} {mid} {header} {caches} {m} first told = tells-on first (λ c. caches-still first c) (found_in (file_of old.here) (blocks_in told.lays.blocks)) (blocks-told told)

-- the node of an entry that is there reads, so far as it is read
pub part-reads : {header : Header} {file : List ℕ} {m : NodeMap} (is : Lays header file m) (k : ℕ) (e : NodeEntry) (reach : Reach) (fault : TreeStop) → Some e ≡ entry_with node_id k (nodes_in is.nodes)
    → node_at (found_in file (blocks_in is.blocks)) header.eof (reached reach e) ≡ Err fault → ⊥
part-reads {header} {file} {m} is k e reach fault here bad =
    let find = found_in file (blocks_in is.blocks) in
    let n = node-some find header.eof k (nodes_in is.nodes) m.nodes e is.are (sym here) in
    let both_are : ◌≡◌ {A = Result Node TreeStop} (Ok (node-part reach n.0)) (Err fault) = sym (part-read find header.eof e n.0 reach n.1) ∙ bad in
    cc

-- ---- one data block of a node

block-read : (find : ℕ → Option (List ℕ)) (eof position : ℕ) (e : NodeEntry) (n : Node) → node_at find eof e ≡ Ok n → single_of find position e.content ≡ Ok (length n.blocks, slice_get n.blocks position)
block-read find eof position e n is = single-is find eof e.content position n.blocks (data-read find eof e n is).0

-- the block that was read is that of the keeper's node
pub block-kept : (N : port.Nodes) (m : NodeMap) (find : ℕ → Option (List ℕ)) (eof k position : ℕ) (es : List NodeEntry) (e : NodeEntry) (single : ℕ × Option (List ℕ)) → AreThose m N → AreNodes find eof es m.nodes
    → Some e ≡ entry_with node_id k es → single_of find position e.content ≡ Ok single → Some (record { count = single.0; block = single.1 }) ≡ port.block_in position (port.node_at N k)
block-kept N m find eof k position es e single those are here is =
    let n = node-some find eof k es m.nodes e are (sym here) in
    let same : single ≡ (length (n.0).blocks, slice_get (n.0).blocks position) = ok-same single _ (sym is ∙ block-read find eof position e n.0 n.1) in
    ap (λ (s : ℕ × Option (List ℕ)). Some (record { count = s.0; block = s.1 })) same ∙ sym (ap (port.block_in position) (those k ∙ n.2))

pub block-none : (N : port.Nodes) (m : NodeMap) (find : ℕ → Option (List ℕ)) (eof k position : ℕ) (es : List NodeEntry) → AreThose m N → AreNodes find eof es m.nodes → None ≡ entry_with node_id k es
    → None ≡ port.block_in position (port.node_at N k)
block-none N m find eof k position es those are here = sym (ap (port.block_in position) (those k ∙ node-none find eof k es m.nodes are (sym here)))

-- a block of the node of an entry that is there reads
pub block-reads : {header : Header} {file : List ℕ} {m : NodeMap} (is : Lays header file m) (k position : ℕ) (e : NodeEntry) (fault : TreeStop) → Some e ≡ entry_with node_id k (nodes_in is.nodes)
    → single_of (found_in file (blocks_in is.blocks)) position e.content ≡ Err fault → ⊥
block-reads {header} {file} {m} is k position e fault here bad =
    let find = found_in file (blocks_in is.blocks) in
    let n = node-some find header.eof k (nodes_in is.nodes) m.nodes e is.are (sym here) in
    let both_are : ◌≡◌ {A = Result (ℕ × Option (List ℕ)) TreeStop} (Ok (length (n.0).blocks, slice_get (n.0).blocks position)) (Err fault) = sym (block-read find header.eof position e n.0 n.1) ∙ bad in
    cc

-- ---- the next node

is-after : (after : Option Nid) (low q : ℕ) → Begins after low → port.IsAfter after q → low ≤ q
is-after None low q begins h = let b = begins in omega (arith, b)
is-after (Some nid) low q begins h = let b = begins in omega (arith, b, h)

after-is : (after : Option Nid) (low q : ℕ) → Begins after low → low ≤ q → port.IsAfter after q
after-is None low q begins le = tt
after-is (Some nid) low q begins le = let b = begins in omega (arith, b, le)

some-is : {A : Type 0} (o : Option A) (a : A) → o ≡ Some a → IsSome o
some-is {A} o a e = subst (λ (x : Option A). IsSome x) (sym e) refl

-- the first entry from a key on is the next node
pub next-some : (N : port.Nodes) (m : NodeMap) (find : ℕ → Option (List ℕ)) (eof : ℕ) (es : List NodeEntry) (after : Option Nid) (low hi : ℕ) (e : NodeEntry) → Begins after low → AreThose m N → AreNodes find eof es m.nodes → RiseIn 0 hi (map node_id es)
    → Some e ≡ first_from node_id low es → port.IsNext N after (Some e.nid)
next-some N m find eof es after low hi e begins those are rises is =
    let first = first-some node_id low 0 hi es e rises (sym is) in
    let there = node-some find eof (node_id e) es m.nodes e are first.there in (
      after-is after low (node_id e) begins first.reached,
      some-is (port.node_at N (node_id e)) (rec_of there.0) (those (node_id e) ∙ there.2),
      λ q behind less. those q ∙ node-none find eof q es m.nodes are (first.least q (is-after after low q begins behind) less),
    )

pub next-none : (N : port.Nodes) (m : NodeMap) (find : ℕ → Option (List ℕ)) (eof : ℕ) (es : List NodeEntry) (after : Option Nid) (low : ℕ) → Begins after low → AreThose m N → AreNodes find eof es m.nodes
    → None ≡ first_from node_id low es → port.IsNext N after None
next-none N m find eof es after low begins those are is = λ q behind. those q ∙ node-none find eof q es m.nodes are (first-none node_id low es (sym is) q (is-after after low q begins behind))
