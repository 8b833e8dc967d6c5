-- A file that has what was planned lays the changed nodes.
use Rattle.std.proofs.Common.{true, ◌≡◌, ◌∙◌, ℕ, ◌+◌, ◌^◌, List, [], ◌∷◌, ◌++◌, map, Option, Some, None, Ok, refl, sym, ap, subst, arith}
use Rattle.pst_base.specs.declared.ids.Bref.{Bref}
use Rattle.pst_base.specs.declared.ids.Nid.{Nid}
use Rattle.pst_base.specs.declared.places.Place.{Place}
use Rattle.pst_header.specs.declared.header.Header.{Header}
use Rattle.alloc_map.specs.Standing.{standing, amap_places}
use Rattle.btree_pages.specs.declared.entry.BlockEntry.{BlockEntry}
use Rattle.btree_pages.specs.declared.entry.NodeEntry.{NodeEntry}
use Rattle.btree_pages.specs.Entries.{block_of, node_of}
use Rattle.btree_pages.specs.EntryLaws.{key-block_of, key-node_of}
use Rattle.file_blocks.specs.Blocks.{Stands, AllStand, entry_key, found_in}
use Rattle.file_layout.specs.Trees.{Found, IsWhole as IsFileWhole, page_place}
use Rattle.file_layout.specs.Nodes.{Node, NodeMap, Lays, block_tree, node_tree, blocks_in, nodes_in, node_at as read_node, AreNodes, place_of, places_of, regions_to}
use Rattle.lays_kept.specs.Kept.{Each as EachPlace, SameAt}
use Rattle.alloc_map.specs.Tally.{one_at, tally as slot_tally}
use Rattle.lays_kept.proofs.Kept.{each_front, each_back, pages_front, pages_back, all_kept}
use Rattle.lays_kept.proofs.Once.{once_apart}
use Rattle.lays_kept.proofs.Rows.{pages_tally}
use Rattle.alloc_map.proofs.TallyLaws.{tally_append}
use Rattle.lays_kept.proofs.Tally.{once_reordered}
use Rattle.node_port.specs.declared.node.NodeRec.{NodeRec}
use Rattle.node_port.specs.Nodes as port
use Rattle.lays_kept.specs.Stands.{AreThose}
use Rattle.lays_kept.specs.Renewed.{entry_for, EachLeads, LeadsTo, Renews}
use Rattle.lays_kept.proofs.Renewing.{those_lead}
use Rattle.tree_edit.specs.Edits.{edited, entry_with}
use Rattle.node_layout.specs.Lookups.{edit_at, or_old, Each, sum_of}
use Rattle.node_layout.specs.Changed.{IsChangedTree}
use Rattle.node_layout.specs.Changes.{change_at}
use Rattle.node_layout.specs.Joined.{node_id, TreePlan, places_in, found_after, IsPlanned, HasPlanned}
use Rattle.node_layout.proofs.LookupLaws.{each-edited, sum-edited}
use Rattle.node_layout.proofs.TreeLaws.{tree-changed}
use Rattle.node_layout.proofs.NodeLaws.{changed-at, found-edited, same-for, still-found, stay-led, each-led, led-each, put-led, change-led, edited-for}

-- ---- blocks

weaker-all : {E : Type 0} (P : E → Type 0) (key : E → ℕ) (ds : List (ℕ × Option E)) (es : List E) → Each P es → Each (λ e. edit_at (key e) ds ≡ None → P e) es
weaker-all P key ds [] all = tt
weaker-all P key ds (e ∷ es) all = ((λ none. all.0), weaker-all P key ds es all.1)

stand-each : (file : List ℕ) (eof : ℕ) (es : List BlockEntry) → AllStand file eof es → Each (Stands file eof) es
stand-each file eof [] all = tt
stand-each file eof (e ∷ es) all = (all.0, stand-each file eof es all.1)

each-stand : (file : List ℕ) (eof : ℕ) (es : List BlockEntry) → Each (Stands file eof) es → AllStand file eof es
each-stand file eof [] all = tt
each-stand file eof (e ∷ es) all = (all.0, each-stand file eof es all.1)

slots-of : (slot : ℕ) (es : List BlockEntry) → slot_tally slot (map place_of es) ≡ sum_of (λ e. one_at slot (place_of e)) es
slots-of slot [] = refl
slots-of slot (e ∷ es) = ap (λ (n : ℕ). one_at slot (place_of e) + n) (slots-of slot es)

are-led : (find : ℕ → Option (List ℕ)) (eof : ℕ) (es : List NodeEntry) (nodes : List Node) → AreNodes find eof es nodes → EachLeads find eof es
are-led find eof [] nodes are = tt
are-led find eof (e ∷ es) nodes are = ((are.0, are.3), are-led find eof es are.1 are.4)

-- ---- the whole

-- a file with the plan's pages and blocks lays the changed nodes under the new header
pub joined : (header new : Header) (file bytes : List ℕ) (m : NodeMap) (N : port.Nodes) (is : Lays header file m) (blocks : TreePlan BlockEntry) (nodes : TreePlan NodeEntry) (cs : List (Nid × Option NodeRec))
    → AreThose m N → port.ascend 0 cs ≡ true → (planned : IsPlanned is blocks nodes) → HasPlanned is blocks nodes new bytes planned.block_places cs → Renews new bytes (port.changed N cs)
joined header new file bytes m N is blocks nodes cs those up planned has =
    let B : Found = is.blocks in
    let T : Found = is.nodes in
    let old : List BlockEntry = blocks_in B in
    let entries : List NodeEntry = nodes_in T in
    let S : Place → Type 0 = SameAt file bytes in
    let pages : EachPlace S (map page_place (B.pages ++ T.pages)) = each_front S (map page_place (B.pages ++ T.pages)) (map place_of old) has.kept in
    let own : EachPlace S (map place_of old) = each_back S (map page_place (B.pages ++ T.pages)) (map place_of old) has.kept in
    let bs : IsChangedTree block_of entry_key (block_tree file header.eof) bytes new.eof B blocks.pages blocks.freed blocks.top blocks.name blocks.edits =
    tree-changed block_of entry_key (block_tree file header.eof) key-block_of bytes new.eof header.bbt B is.block_pages has.longer has.long_enough (pages_front S B.pages T.pages pages) blocks.pages blocks.freed blocks.top blocks.name blocks.edits planned.block_plan has.block_pages in
    let ns : IsChangedTree node_of node_id (node_tree file header.eof) bytes new.eof T nodes.pages nodes.freed nodes.top nodes.name nodes.edits =
    tree-changed node_of node_id (node_tree file header.eof) key-node_of bytes new.eof header.nbt T is.node_pages has.longer has.long_enough (pages_back S B.pages T.pages pages) nodes.pages nodes.freed nodes.top nodes.name nodes.edits planned.node_plan has.node_pages in
    let find : ℕ → Option (List ℕ) = found_in file old in
    let after : ℕ → Option (List ℕ) = found_after bytes old blocks.edits in
    let found : found_in bytes (blocks_in bs.found) ≡ after = ap (found_in bytes) bs.entries ∙ found-edited bytes old blocks.edits planned.block_edits in
    let still : (key : ℕ) (b : List ℕ) → planned.some key ≡ true → find key ≡ Some b → after key ≡ Some b = still-found file bytes old blocks.edits planned.some own planned.left in
    let stand : Each (Stands bytes new.eof) (edited entry_key old blocks.edits) =
    each-edited (Stands bytes new.eof) entry_key 0 (2 ^ 64) old blocks.edits planned.block_edits (weaker-all (Stands bytes new.eof) entry_key blocks.edits old (stand-each bytes new.eof old (all_kept file bytes header.eof new.eof has.longer old own is.stand))) has.stand in
    let led : Each (λ e. (n : Node) × (read_node after new.eof e ≡ Ok n)) (edited node_id entries nodes.edits) =
    each-edited (λ e. (n : Node) × (read_node after new.eof e ≡ Ok n)) node_id 0 (2 ^ 64) entries nodes.edits planned.node_edits
    (each-led find after header.eof new.eof planned.some nodes.edits entries still has.longer planned.needs (are-led find header.eof entries m.nodes is.are)) (put-led after new.eof entries nodes.edits cs has.changes) in
    record {
      long = has.long;
      read = has.read;
      unmapped = has.unmapped;
      long_enough = has.long_enough;
      small_enough = has.small_enough;
      blocks = bs.found;
      block_pages = subst (λ (r : Bref). IsFileWhole (block_tree bytes new.eof) r bs.found) (sym has.bbt) bs.tree;
      stand = subst (AllStand bytes new.eof) (sym bs.entries) (each-stand bytes new.eof (edited entry_key old blocks.edits) stand);
      nodes = ns.found;
      node_pages = subst (λ (r : Bref). IsFileWhole (node_tree bytes new.eof) r ns.found) (sym has.nbt) ns.tree;
      lead = subst (λ (f : ℕ → Option (List ℕ)). EachLeads f new.eof (nodes_in ns.found)) (sym found) (subst (EachLeads after new.eof) (sym ns.entries) (led-each after new.eof (edited node_id entries nodes.edits) led));
      to = λ q.
          let before : LeadsTo find header.eof (entry_with node_id q entries) (port.node_at N q) = subst (λ (o : Option NodeEntry). LeadsTo find header.eof o (port.node_at N q)) (same-for q entries) (those_lead find header.eof entries m N is.are those q) in
          let here : LeadsTo after new.eof (or_old (edit_at q nodes.edits) (entry_with node_id q entries)) (or_old (change_at q cs) (port.node_at N q)) =
          change-led after new.eof entries 0 q (port.node_at N q) nodes.edits cs up has.changes
          (λ none. stay-led find after header.eof new.eof planned.some nodes.edits entries still has.longer planned.needs q (port.node_at N q) none before) in
          let entry : entry_for q (nodes_in ns.found) ≡ or_old (edit_at q nodes.edits) (entry_with node_id q entries) = ap (entry_for q) ns.entries ∙ edited-for q entries nodes.edits planned.node_edits in
          subst (λ (f : ℕ → Option (List ℕ)). LeadsTo f new.eof (entry_for q (nodes_in ns.found)) (port.node_at (port.changed N cs) q)) (sym found)
          (subst (λ (o : Option NodeEntry). LeadsTo after new.eof o (port.node_at (port.changed N cs) q)) (sym entry)
          (subst (LeadsTo after new.eof (or_old (edit_at q nodes.edits) (entry_with node_id q entries))) (sym (changed-at N 0 q cs up)) here));
      apart = once_apart (standing (places_of bs.found ns.found) (regions_to new.eof))
          (once_reordered ((places_in blocks ++ (places_in nodes ++ planned.block_places)) ++ standing (places_of B T) (regions_to new.eof)) (standing (places_of bs.found ns.found) (regions_to new.eof))
          (λ slot.
          let amaps : List Place = amap_places (regions_to new.eof) in
          let a1 = tally_append slot (places_in blocks ++ (places_in nodes ++ planned.block_places)) (standing (places_of B T) (regions_to new.eof)) in
          let a2 = tally_append slot (places_in blocks) (places_in nodes ++ planned.block_places) in
          let a3 = tally_append slot (places_in nodes) planned.block_places in
          let a4 = tally_append slot (places_of B T) amaps in
          let a5 = tally_append slot (map page_place (B.pages ++ T.pages)) (map place_of old) in
          let a6 = pages_tally slot B.pages T.pages in
          let b4 = tally_append slot (places_of bs.found ns.found) amaps in
          let b5 = tally_append slot (map page_place ((bs.found).pages ++ (ns.found).pages)) (map place_of (blocks_in bs.found)) in
          let b6 = pages_tally slot (bs.found).pages (ns.found).pages in
          let c1 = bs.places slot in
          let c2 = ns.places slot in
          let c3 = planned.counted slot in
          let c4 = sum-edited entry_key (λ e. one_at slot (place_of e)) 0 (2 ^ 64) old blocks.edits planned.block_edits in
          let c5 : slot_tally slot (map place_of (blocks_in bs.found)) ≡ sum_of (λ e. one_at slot (place_of e)) (edited entry_key old blocks.edits) =
          ap (λ (es : List BlockEntry). slot_tally slot (map place_of es)) bs.entries ∙ slots-of slot (edited entry_key old blocks.edits) in
          let c6 = slots-of slot old in
          omega (arith, a1, a2, a3, a4, a5, a6, b4, b5, b6, c1, c2, c3, c4, c5, c6))
          has.once);
    }
