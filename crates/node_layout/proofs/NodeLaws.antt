-- What edits of both trees make of the nodes.
use Rattle.std.proofs.Common.{Bool, true, false, cond, ◌≡◌, ◌∙◌, ◌⊎◌, inl, inr, ℕ, ◌+◌, ◌^◌, ◌<◌, ◌≤◌, eqb, leb, List, [], ◌∷◌, map, Option, Some, None, Ok, refl, sym, ap, subst, arith, if◌then◌else◌, Ordering, Less, Equal, Greater}
use Rattle.std.proofs.lemmas.Bool.{and_parts, cases_eq, eq-eqb, ne_eqb, leb-true}
use Rattle.std.specs.Ordering.{nat_cmp, eq_by_cmp, is_eq}
use Rattle.std.specs.Cmp.{nat_cmp_total, eq_by_cmp_equiv, ranked}
use Rattle.pst_base.specs.declared.ids.Nid.{Nid}
use Rattle.btree_pages.specs.declared.entry.BlockEntry.{BlockEntry}
use Rattle.btree_pages.specs.declared.entry.NodeEntry.{NodeEntry}
use Rattle.file_blocks.specs.Blocks.{entry_key, entry_with as block_with, data_of, found_in}
use Rattle.file_layout.specs.Nodes.{Node, node_at as read_node, place_of}
use Rattle.lays_kept.specs.Kept.{Each as EachPlace, SameAt}
use Rattle.lays_kept.specs.Grown.{NeedsOnly}
use Rattle.lays_kept.proofs.Kept.{found_kept}
use Rattle.lays_kept.proofs.Renewed.{node_kept}
use Rattle.node_port.specs.declared.node.NodeRec.{NodeRec}
use Rattle.node_port.specs.Nodes.{Nodes, node_at, set_at, changed, ascend, get-set_at}
use Rattle.lays_kept.specs.Renewed.{entry_for, EachLeads, LeadsTo}
use Rattle.tree_edit.specs.Edits.{edited, AreEdits, entry_with}
use Rattle.node_layout.specs.Lookups.{edit_at, or_old, Each, IsPut, EachPut}
use Rattle.node_layout.specs.Changes.{change_at}
use Rattle.node_layout.specs.Joined.{node_id, found_after, Recounts, AreLeft, AreChanged}
use Rattle.node_layout.proofs.LookupLaws.{with-edited}

-- ---- changes of nodes

equal-is : (r : Ordering) → is_eq r ≡ true → r ≡ Equal
equal-is Less h = cc
equal-is Equal h = refl
equal-is Greater h = cc

compared : (q k : ℕ) → eq_by_cmp nat_cmp q k ≡ eqb k q
compared q k = elim (cases_eq k q) [
  | inl same ↦ subst (λ (n : ℕ). eq_by_cmp nat_cmp n k ≡ eqb k n) same ((eq_by_cmp_equiv nat_cmp_total).refl k ∙ sym (eq-eqb k k refl))
  | inr other ↦ by (eq_by_cmp nat_cmp q k) refl other ∙ sym (ne_eqb k q other)
]
  where
    by : (b : Bool) → eq_by_cmp nat_cmp q k ≡ b → (k ≡ q → ⊥) → b ≡ false
    by false e other = refl
    by true e other = absurd (other (sym (ranked q k Equal (sym (equal-is (nat_cmp q k) e)))))

no-change : (low q : ℕ) (cs : List (Nid × Option NodeRec)) → q < low → ascend low cs ≡ true → change_at q cs ≡ None
no-change low q [] lt up = refl
no-change low q (c ∷ cs) lt up =
    let parts : (leb low (c.0).bits ≡ true) × (ascend ((c.0).bits + 1) cs ≡ true) = and_parts _ _ up in
    let le = leb-true low (c.0).bits parts.0 in
    rw (ne_eqb (c.0).bits q (λ s. absurd (omega (arith, s, le, lt)))) (no-change ((c.0).bits + 1) q cs (omega (arith, le, lt)) parts.1)

-- the node of an id after changes is that of its change, or the old one
pub changed-at : (N : Nodes) (low q : ℕ) (cs : List (Nid × Option NodeRec)) → ascend low cs ≡ true → node_at (changed N cs) q ≡ or_old (change_at q cs) (node_at N q)
changed-at N low q [] up = refl
changed-at N low q (c ∷ cs) up =
    let parts : (leb low (c.0).bits ≡ true) × (ascend ((c.0).bits + 1) cs ≡ true) = and_parts _ _ up in
    let rest = changed-at (set_at N (c.0).bits c.1) ((c.0).bits + 1) q cs parts.1 in
    let here : node_at (set_at N (c.0).bits c.1) q ≡ (if eqb (c.0).bits q then c.1 else node_at N q) =
    get-set_at N (c.0).bits c.1 q ∙ ap (λ (b : Bool). cond b c.1 (node_at N q)) (compared q (c.0).bits) in
    elim (cases_eq (c.0).bits q) [
      | inl same ↦
          let none : change_at q cs ≡ None = no-change ((c.0).bits + 1) q cs (omega (arith, same)) parts.1 in
          rest ∙ ap (λ (o : Option (Option NodeRec)). or_old o (node_at (set_at N (c.0).bits c.1) q)) none ∙ here
          ∙ ap (λ (b : Bool). if b then c.1 else node_at N q) (eq-eqb (c.0).bits q same)
          ∙ ap (λ (b : Bool). or_old (if b then Some c.1 else change_at q cs) (node_at N q)) (sym (eq-eqb (c.0).bits q same))
      | inr other ↦
          rest ∙ ap (or_old (change_at q cs)) (here ∙ ap (λ (b : Bool). if b then c.1 else node_at N q) (ne_eqb (c.0).bits q other))
          ∙ ap (λ (b : Bool). or_old (if b then Some c.1 else change_at q cs) (node_at N q)) (sym (ne_eqb (c.0).bits q other))
    ]

-- ---- the finder

same-with : (key : ℕ) (es : List BlockEntry) → block_with key es ≡ entry_with entry_key key es
same-with key [] = refl
same-with key (e ∷ es) = ap (λ (o : Option BlockEntry). if eqb (entry_key e) key then Some e else o) (same-with key es)

pub same-for : (q : ℕ) (es : List NodeEntry) → entry_for q es ≡ entry_with node_id q es
same-for q [] = refl
same-for q (e ∷ es) = ap (λ (o : Option NodeEntry). if eqb (node_id e) q then Some e else o) (same-for q es)

-- the blocks of the edited entries
pub found-edited : (file : List ℕ) (old : List BlockEntry) (ds : List (ℕ × Option BlockEntry)) → AreEdits entry_key 0 (2 ^ 64) ds → found_in file (edited entry_key old ds) ≡ found_after file old ds
found-edited file old ds d = λ i key. ap (data_of file) (same-with key (edited entry_key old ds) ∙ with-edited entry_key 0 (2 ^ 64) key old ds d) i

-- a block that the edits leave is found still
pub still-found : (file new : List ℕ) (old : List BlockEntry) (ds : List (ℕ × Option BlockEntry)) (some : ℕ → Bool) → EachPlace (SameAt file new) (map place_of old) → AreLeft old ds some
    → (key : ℕ) (b : List ℕ) → some key ≡ true → found_in file old key ≡ Some b → found_after new old ds key ≡ Some b
still-found file new old ds some same left key b is_some found = by (entry_with entry_key key old) refl
  where
    at_new : data_of new (entry_with entry_key key old) ≡ Some b
    at_new = ap (data_of new) (sym (same-with key old)) ∙ found_kept file new old same key ∙ found

    recounted : (e : BlockEntry) (o : Option BlockEntry) → Recounts e o → data_of new o ≡ data_of new (Some e)
    recounted e None r = absurd r
    recounted e (Some f) r = rw (r.0, r.1) refl

    by : (o : Option BlockEntry) → entry_with entry_key key old ≡ o → data_of new (or_old (edit_at key ds) (entry_with entry_key key old)) ≡ Some b
    by None is = let clash : ◌≡◌ {A = Option (List ℕ)} None (Some b) = sym (ap (data_of new) is) ∙ at_new in cc
    by (Some e) is =
        ap (λ (o : Option BlockEntry). data_of new (or_old (edit_at key ds) o)) is
        ∙ recounted e (or_old (edit_at key ds) (Some e)) (left key e is_some is)
        ∙ sym (ap (data_of new) is) ∙ at_new

-- ---- nodes that stay

-- each old node that no edit takes reads as before
pub stay-led : (find found : ℕ → Option (List ℕ)) (eof longer : ℕ) (some : ℕ → Bool) (ds : List (ℕ × Option NodeEntry)) (es : List NodeEntry) → ((key : ℕ) (b : List ℕ) → some key ≡ true → find key ≡ Some b → found key ≡ Some b) → eof ≤ longer
    → Each (λ e. edit_at (node_id e) ds ≡ None → NeedsOnly find eof e some) es → (q : ℕ) (old : Option NodeRec) → edit_at q ds ≡ None → LeadsTo find eof (entry_with node_id q es) old
    → LeadsTo found longer (entry_with node_id q es) old
stay-led find found eof longer some ds [] still grows needs q old none leads = leads
stay-led find found eof longer some ds (e ∷ es) still grows needs q old none leads =
    by (stay-led find found eof longer some ds es still grows needs.1 q old none) (cases_eq (node_id e) q)
  where
    Goal : Bool → Type 0
    Goal b = LeadsTo find eof (if b then Some e else entry_with node_id q es) old → LeadsTo found longer (if b then Some e else entry_with node_id q es) old

    by : (LeadsTo find eof (entry_with node_id q es) old → LeadsTo found longer (entry_with node_id q es) old) → ((node_id e ≡ q) ⊎ (node_id e ≡ q → ⊥)) → LeadsTo found longer (if eqb (node_id e) q then Some e else entry_with node_id q es) old
    by rest (inl same) =
        subst Goal (sym (eq-eqb (node_id e) q same))
        (λ (l : LeadsTo find eof (Some e) old). (l.0, node_kept find found eof longer e some l.0 (needs.0 (ap (λ (k : ℕ). edit_at k ds) same ∙ none)) still grows l.1, l.2)) leads
    by rest (inr other) = subst Goal (sym (ne_eqb (node_id e) q other)) rest leads

-- all old nodes that no edit takes lead to one
pub each-led : (find found : ℕ → Option (List ℕ)) (eof longer : ℕ) (some : ℕ → Bool) (ds : List (ℕ × Option NodeEntry)) (es : List NodeEntry) → ((key : ℕ) (b : List ℕ) → some key ≡ true → find key ≡ Some b → found key ≡ Some b) → eof ≤ longer
    → Each (λ e. edit_at (node_id e) ds ≡ None → NeedsOnly find eof e some) es → EachLeads find eof es → Each (λ e. edit_at (node_id e) ds ≡ None → (n : Node) × (read_node found longer e ≡ Ok n)) es
each-led find found eof longer some ds [] still grows needs lead = tt
each-led find found eof longer some ds (e ∷ es) still grows needs lead =
    ((λ none. (lead.0.0, node_kept find found eof longer e some lead.0.0 (needs.0 none) still grows lead.0.1)), each-led find found eof longer some ds es still grows needs.1 lead.1)

pub led-each : (find : ℕ → Option (List ℕ)) (eof : ℕ) (es : List NodeEntry) → Each (λ e. (n : Node) × (read_node find eof e ≡ Ok n)) es → EachLeads find eof es
led-each find eof [] all = tt
led-each find eof (e ∷ es) all = (all.0, led-each find eof es all.1)

-- ---- nodes that change

-- those put lead to nodes
pub put-led : (find : ℕ → Option (List ℕ)) (eof : ℕ) (old : List NodeEntry) (ds : List (ℕ × Option NodeEntry)) (cs : List (Nid × Option NodeRec)) → AreChanged find eof old ds cs → EachPut (λ e. (n : Node) × (read_node find eof e ≡ Ok n)) ds
put-led find eof old ds [] are = subst (EachPut (λ e. (n : Node) × (read_node find eof e ≡ Ok n))) (sym are) tt
put-led find eof old ds (c ∷ cs) (inl one) =
    subst (EachPut (λ e. (n : Node) × (read_node find eof e ≡ Ok n))) (sym one.2) (put one.0.1 one.4, put-led find eof old one.1 cs one.5)
  where
    put : (o : Option NodeEntry) → LeadsTo find eof o c.1 → IsPut (λ e. (n : Node) × (read_node find eof e ≡ Ok n)) o
    put None l = tt
    put (Some e) l = (l.0, l.1)
put-led find eof old ds (c ∷ cs) (inr skip) = put-led find eof old ds cs skip.2

-- edits of changes stand at their ids
edits-above : (find : ℕ → Option (List ℕ)) (eof : ℕ) (old : List NodeEntry) (low q : ℕ) (ds : List (ℕ × Option NodeEntry)) (cs : List (Nid × Option NodeRec)) → q < low → ascend low cs ≡ true → AreChanged find eof old ds cs
    → edit_at q ds ≡ None
edits-above find eof old low q ds [] lt up are = ap (edit_at q) are
edits-above find eof old low q ds (c ∷ cs) lt up are =
    let parts : (leb low (c.0).bits ≡ true) × (ascend ((c.0).bits + 1) cs ≡ true) = and_parts _ _ up in
    let le = leb-true low (c.0).bits parts.0 in
    by (λ (rest : List (ℕ × Option NodeEntry)). edits-above find eof old ((c.0).bits + 1) q rest cs (omega (arith, le, lt)) parts.1) (λ s. absurd (omega (arith, s, le, lt))) are
  where
    by : ((rest : List (ℕ × Option NodeEntry)) → AreChanged find eof old rest cs → edit_at q rest ≡ None) → ((c.0).bits ≡ q → ⊥) → AreChanged find eof old ds (c ∷ cs) → edit_at q ds ≡ None
    by later other (inl one) =
        ap (edit_at q) one.2 ∙ ap (λ (b : Bool). if b then Some one.0.1 else edit_at q one.1) (ne_eqb one.0.0 q (λ s. other (sym one.3 ∙ s))) ∙ later one.1 one.5
    by later other (inr skip) = later ds skip.2

-- each id leads to its node after the changes, where those without an edit do
pub change-led : (find : ℕ → Option (List ℕ)) (eof : ℕ) (old : List NodeEntry) (low q : ℕ) (before : Option NodeRec) (ds : List (ℕ × Option NodeEntry)) (cs : List (Nid × Option NodeRec)) → ascend low cs ≡ true → AreChanged find eof old ds cs
    → (edit_at q ds ≡ None → LeadsTo find eof (entry_with node_id q old) before)
    → LeadsTo find eof (or_old (edit_at q ds) (entry_with node_id q old)) (or_old (change_at q cs) before)
change-led find eof old low q before ds [] up are stays =
    let none : edit_at q ds ≡ None = ap (edit_at q) are in
    subst (λ (o : Option (Option NodeEntry)). LeadsTo find eof (or_old o (entry_with node_id q old)) before) (sym none) (stays none)
change-led find eof old low q before ds (c ∷ cs) up are stays =
    let parts : (leb low (c.0).bits ≡ true) × (ascend ((c.0).bits + 1) cs ≡ true) = and_parts _ _ up in
    by (λ (rest : List (ℕ × Option NodeEntry)) (is : AreChanged find eof old rest cs). change-led find eof old ((c.0).bits + 1) q before rest cs parts.1 is)
    (λ (rest : List (ℕ × Option NodeEntry)) (is : AreChanged find eof old rest cs) (same : (c.0).bits ≡ q). edits-above find eof old ((c.0).bits + 1) q rest cs (omega (arith, same)) parts.1 is) are (cases_eq (c.0).bits q)
  where
    End : Option (Option NodeEntry) → Option (Option NodeRec) → Type 0
    End e w = LeadsTo find eof (or_old e (entry_with node_id q old)) (or_old w before)

    by : ((rest : List (ℕ × Option NodeEntry)) → AreChanged find eof old rest cs → (edit_at q rest ≡ None → LeadsTo find eof (entry_with node_id q old) before) → End (edit_at q rest) (change_at q cs))
        → ((rest : List (ℕ × Option NodeEntry)) → AreChanged find eof old rest cs → (c.0).bits ≡ q → edit_at q rest ≡ None)
        → AreChanged find eof old ds (c ∷ cs) → (((c.0).bits ≡ q) ⊎ ((c.0).bits ≡ q → ⊥)) → End (edit_at q ds) (if eqb (c.0).bits q then Some c.1 else change_at q cs)
    by later above (inl one) (inl same) =
        let edit : edit_at q ds ≡ Some one.0.1 = ap (edit_at q) one.2 ∙ ap (λ (b : Bool). if b then Some one.0.1 else edit_at q one.1) (eq-eqb one.0.0 q (one.3 ∙ same)) in
        subst (λ (b : Bool). End (edit_at q ds) (if b then Some c.1 else change_at q cs)) (sym (eq-eqb (c.0).bits q same)) (subst (λ (o : Option (Option NodeEntry)). End o (Some c.1)) (sym edit) one.4)
    by later above (inl one) (inr other) =
        let edit : edit_at q ds ≡ edit_at q one.1 = ap (edit_at q) one.2 ∙ ap (λ (b : Bool). if b then Some one.0.1 else edit_at q one.1) (ne_eqb one.0.0 q (λ s. other (sym one.3 ∙ s))) in
        subst (λ (b : Bool). End (edit_at q ds) (if b then Some c.1 else change_at q cs)) (sym (ne_eqb (c.0).bits q other))
        (subst (λ (o : Option (Option NodeEntry)). End o (change_at q cs)) (sym edit) (later one.1 one.5 (λ none. stays (edit ∙ none))))
    by later above (inr skip) (inl same) =
        let edit : edit_at q ds ≡ None = above ds skip.2 same in
        let gone : entry_with node_id q old ≡ None = subst (λ (k : ℕ). entry_with node_id k old ≡ None) same skip.1 in
        subst (λ (b : Bool). End (edit_at q ds) (if b then Some c.1 else change_at q cs)) (sym (eq-eqb (c.0).bits q same))
        (subst (λ (o : Option (Option NodeEntry)). End o (Some c.1)) (sym edit) (subst (λ (o : Option NodeEntry). LeadsTo find eof o c.1) (sym gone) skip.0))
    by later above (inr skip) (inr other) =
        subst (λ (b : Bool). End (edit_at q ds) (if b then Some c.1 else change_at q cs)) (sym (ne_eqb (c.0).bits q other)) (later ds skip.2 stays)

-- an entry of the edited nodes is that of its edit, or the old one
pub edited-for : (q : ℕ) (old : List NodeEntry) (ds : List (ℕ × Option NodeEntry)) → AreEdits node_id 0 (2 ^ 64) ds → entry_for q (edited node_id old ds) ≡ or_old (edit_at q ds) (entry_with node_id q old)
edited-for q old ds d = same-for q (edited node_id old ds) ∙ with-edited node_id 0 (2 ^ 64) q old ds d
