-- A file that a planner made lays the changed nodes.
use Rattle.std.proofs.Common.{Bool, true, false, ◌≡◌, ◌∙◌, inl, ℕ, eqb, List, [], ◌∷◌, Option, None, Some, Result, Ok, Err, refl, sym, ap, subst, if◌then◌else◌}
use Rattle.data_tree.specs.declared.source.TreeStop.{TreeStop}
use Rattle.data_tree.specs.Tree.{and_then, blocks_of}
use Rattle.subnode_tree.specs.Subnodes.{subs_of}
use Rattle.pst_base.specs.Flat.{Flat}
use Rattle.pst_header.specs.declared.header.Header.{Header}
use Rattle.btree_pages.specs.declared.entry.NodeEntry.{NodeEntry}
use Rattle.file_blocks.specs.Blocks.{found_in}
use Rattle.file_layout.specs.Nodes.{Node, NodeMap, node_at, AreNodes, blocks_in, nodes_in}
use Rattle.node_port.specs.declared.node.NodeRec.{NodeRec}
use Rattle.node_port.specs.Nodes as port
use Rattle.lays_kept.specs.Stands.{rec_of, node_with, AreThose, FileStands}
use Rattle.lays_kept.specs.Renewed.{entry_for, EachLeads, LeadsTo, Renews}

ok_node : (x y : Node) → ◌≡◌ {A = Result Node TreeStop} (Ok x) (Ok y) → x ≡ y
ok_node x y h = ap (λ r. or x r) h
  where
    or : Node → Result Node TreeStop → Node
    or d (Ok n) = n
    or d (Err e) = d

-- a node has the id of its entry
with_id : (nid parent : ℕ) (r : Result (List (List ℕ)) TreeStop) (s : Result (List Flat) TreeStop) (n : Node)
    → and_then r (λ blocks. and_then s (λ subs. Ok (record { nid = nid; parent = parent; blocks = blocks; subs = subs }))) ≡ Ok n → n.nid ≡ nid
with_id nid parent (Ok b) (Ok s) n h = sym (ap (λ (m : Node). m.nid) (ok_node (record { nid = nid; parent = parent; blocks = b; subs = s }) n h))
with_id nid parent (Ok b) (Err e) n h = absurd (cc)
with_id nid parent (Err e) s n h = absurd (cc)

node-id : (find : ℕ → Option (List ℕ)) (eof : ℕ) (e : NodeEntry) (n : Node) → node_at find eof e ≡ Ok n → n.nid ≡ (e.nid).bits
unfolding node_at
node-id find eof e n h = with_id (e.nid).bits (e.parent).bits (blocks_of find eof e.content) (subs_of find eof e.subnodes) n h

-- the nodes that entries lead to
pub led : (find : ℕ → Option (List ℕ)) (eof : ℕ) (es : List NodeEntry) → EachLeads find eof es → (nodes : List Node) × AreNodes find eof es nodes
led find eof [] lead = ([], refl)
led find eof (e ∷ es) lead =
    let rest = led find eof es lead.1 in
    (lead.0.0 ∷ rest.0, (lead.0.0, rest.0, refl, lead.0.1, rest.1))

-- each id has the node that its entry leads to
pub led_to : (find : ℕ → Option (List ℕ)) (eof : ℕ) (es : List NodeEntry) (nodes : List Node) → AreNodes find eof es nodes → (q : ℕ) → LeadsTo find eof (entry_for q es) (node_with q nodes)
led_to find eof [] nodes are q = ap (node_with q) are
led_to find eof (e ∷ es) nodes are q =
    let n : Node = are.0 in
    let id : n.nid ≡ (e.nid).bits = node-id find eof e n are.3 in
    let rest = led_to find eof es are.1 are.4 q in
    subst (λ l. LeadsTo find eof (entry_for q (e ∷ es)) (node_with q l)) (sym are.2)
    (subst (λ k. LeadsTo find eof (if eqb (e.nid).bits q then Some e else entry_for q es) (if eqb k q then Some (rec_of n) else node_with q are.1)) (sym id)
    (by n are.3 (node_with q are.1) rest (eqb (e.nid).bits q)))
  where
    by : (n : Node) → node_at find eof e ≡ Ok n → (r : Option NodeRec) → LeadsTo find eof (entry_for q es) r → (b : Bool) → LeadsTo find eof (if b then Some e else entry_for q es) (if b then Some (rec_of n) else r)
    by n is r rest true = (n, is, refl)
    by n is r rest false = rest

-- one entry leads to one node
one_node : (find : ℕ → Option (List ℕ)) (eof : ℕ) (o : Option NodeEntry) (r s : Option NodeRec) → LeadsTo find eof o r → LeadsTo find eof o s → r ≡ s
one_node find eof None r s one two = one ∙ sym two
one_node find eof (Some e) r s one two = one.2 ∙ ap (λ (n : Node). Some (rec_of n)) (ok_node one.0 two.0 (sym one.1 ∙ two.1)) ∙ sym two.2

pub are_those : (find : ℕ → Option (List ℕ)) (eof : ℕ) (es : List NodeEntry) (m : NodeMap) (N : port.Nodes) → AreNodes find eof es m.nodes
    → ((q : ℕ) → LeadsTo find eof (entry_for q es) (port.node_at N q)) → AreThose m N
are_those find eof es m N are to q = one_node find eof (entry_for q es) (port.node_at N q) (node_with q m.nodes) (to q) (led_to find eof es m.nodes are q)

-- the other way round: what is known of the nodes before
pub those_lead : (find : ℕ → Option (List ℕ)) (eof : ℕ) (es : List NodeEntry) (m : NodeMap) (N : port.Nodes) → AreNodes find eof es m.nodes → AreThose m N
    → (q : ℕ) → LeadsTo find eof (entry_for q es) (port.node_at N q)
those_lead find eof es m N are those q = subst (LeadsTo find eof (entry_for q es)) (sym (those q)) (led_to find eof es m.nodes are q)

pub renewed : {header : Header} {bytes : List ℕ} {N : port.Nodes} (found : List ℕ) (is : Renews header bytes N) → FileStands found bytes N header.indexes
renewed {header} {bytes} {N} found is =
    let find = found_in bytes (blocks_in is.blocks) in
    let all = led find header.eof (nodes_in is.nodes) is.lead in
    let m : NodeMap = record { counters = header.indexes; nodes = all.0 } in
    record {
      header = header;
      long = is.long;
      read = is.read;
      m = m;
      lays = record {
        long_enough = is.long_enough;
        small_enough = is.small_enough;
        blocks = is.blocks;
        block_pages = is.block_pages;
        stand = is.stand;
        nodes = is.nodes;
        node_pages = is.node_pages;
        are = all.1;
        apart = is.apart;
        counters = refl;
      };
      those = are_those find header.eof (nodes_in is.nodes) m N all.1 is.to;
      counters = refl;
      maps = inl is.unmapped;
    }
