-- What stays of a file's nodes and blocks, and what goes.
use Rattle.std.proofs.Common.{Bool, true, false, ◌≡◌, ◌∙◌, ◌⊎◌, inl, inr, ℕ, min, ◌+◌, ◌^◌, ◌<◌, ◌≤◌, eqb, leb, List, [], ◌∷◌, ◌++◌, length, drop, Option, Some, None, refl, sym, ap, subst, arith, if◌then◌else◌}
use Rattle.std.proofs.lemmas.Bool.{and_parts, cases_eq, cases_lt, eq-eqb, leb-true, ne_eqb}
use Rattle.pst_base.specs.declared.ids.Bid.{Bid}
use Rattle.pst_base.specs.declared.ids.Nid.{Nid}
use Rattle.pst_base.specs.Ids.{key_of}
use Rattle.pst_header.specs.declared.header.Header.{Header}
use Rattle.btree_pages.specs.declared.entry.BlockEntry.{BlockEntry}
use Rattle.btree_pages.specs.declared.entry.NodeEntry.{NodeEntry}
use Rattle.data_tree.specs.Keys.{count_of, keys_of}
use Rattle.data_tree.specs.Plan.{bids_in}
use Rattle.file_blocks.specs.Blocks.{entry_key, found_in}
use Rattle.file_layout.specs.Nodes.{Lays, NodeMap, blocks_in, nodes_in}
use Rattle.file_layout.specs.Numbers.{next_block}
use Rattle.file_layout.specs.Trees.{Found}
use Rattle.lays_kept.specs.declared.Piece.{Piece}
use Rattle.lays_kept.specs.Kept.{HoldsEach, Scattered}
use Rattle.lays_kept.specs.Renewed.{LeadsTo}
use Rattle.node_port.specs.declared.node.NodeRec.{NodeRec}
use Rattle.node_port.specs.Nodes.{ascend}
use Rattle.node_layout.specs.Joined.{AreChanged, node_id}
use Rattle.node_layout.specs.Lookups.{edit_at, or_old}
use Rattle.node_layout.specs.Sealed.{AreSealed}
use Rattle.node_layout.proofs.LookupLaws.{with-edited}
use Rattle.node_layout.proofs.NodeLaws.{found-edited}
use Rattle.node_layout.specs.Counts.{AreRefs, NoneUnused}
use Rattle.tree_edit.specs.Edits.{AreEdits, edited, entry_with}
use Rattle.ref_counts.specs.declared.table.RefChange.{RefChange}
use Rattle.ref_counts.specs.Changes.{change_of, number_by}
use Rattle.content_plan.specs.Plan.{AreNamed, IsNamed}
use Rattle.plan_drawing.specs.declared.effects.PlanEffects.{PlanEffects}
use Rattle.plan_drawing.specs.Drawn.{IsDrawn}
use Rattle.plan_drawing.specs.Recounts.{puts_of, recounts, with_refs}
use Rattle.plan_drawing.proofs.RecountLaws.{edit-back, edit-front, recount-at, recount_by}
use Rattle.plan_placing.specs.Known.{IsKnown}
use Rattle.file_planner.specs.Follows.{Follows, IsPutOver, references}
use Rattle.file_planner.specs.Holding.{IsOver}
use Rattle.file_planner.proofs.DrawnLaws
use Rattle.file_planner.proofs.KnownLaws

-- ---- lists and options

head-same : {A : Type 0} {x y : A} {xs ys : List A} → x ∷ xs ≡ y ∷ ys → x ≡ y
head-same h = cc

tail-same : {A : Type 0} {x y : A} {xs ys : List A} → x ∷ xs ≡ y ∷ ys → xs ≡ ys
tail-same h = cc

some-same : {A : Type 0} {x y : A} → ◌≡◌ {A = Option A} (Some x) (Some y) → x ≡ y
some-same h = cc

none-some : {A : Type 0} {x : A} → ◌≡◌ {A = Option A} None (Some x) → ⊥
none-some h = cc

not-nil : {A : Type 0} {x : A} {xs : List A} → ◌≡◌ {A = List A} (x ∷ xs) [] → ⊥
not-nil h = cc

-- ---- edits of nodes

abbrev pub Edits : Type 0
Edits = List (ℕ × Option NodeEntry)

abbrev pub Changes : Type 0
Changes = List (Nid × Option NodeRec)

module _ (find after : ℕ → Option (List ℕ)) (eof more limit : ℕ) (es : List NodeEntry) where
  -- an edit that comes first is that of the first change
  first-changed : (x : ℕ × Option NodeEntry) (xs : Edits) (c : Nid × Option NodeRec) (cs : Changes)
      → ((d : ℕ × Option NodeEntry) × (rest : Edits) × (x ∷ xs ≡ d ∷ rest) × (d.0 ≡ (c.0).bits) × LeadsTo after more d.1 c.1 × AreChanged after more es rest cs)
      → (x.0 ≡ (c.0).bits) × LeadsTo after more x.1 c.1 × AreChanged after more es xs cs
  first-changed x xs c cs h =
      let same : x ≡ h.0 = head-same h.2 in
      (ap (λ (d : ℕ × Option NodeEntry). d.0) same ∙ h.3, subst (λ (d : ℕ × Option NodeEntry). LeadsTo after more d.1 c.1) (sym same) h.4, subst (λ (l : Edits). AreChanged after more es l cs) (sym (tail-same h.2)) h.5)

  first-named : (x : ℕ × Option NodeEntry) (xs : Edits) (c : Nid × Option NodeRec) (cs : Changes)
      → ((d : ℕ × Option NodeEntry) × (rest : Edits) × (x ∷ xs ≡ d ∷ rest) × (d.0 ≡ (c.0).bits) × IsNamed find after eof limit (entry_with node_id (c.0).bits es) d.1 c.1 × AreNamed find after eof limit es rest cs)
      → (x.0 ≡ (c.0).bits) × IsNamed find after eof limit (entry_with node_id (c.0).bits es) x.1 c.1 × AreNamed find after eof limit es xs cs
  first-named x xs c cs h =
      let same : x ≡ h.0 = head-same h.2 in
      (ap (λ (d : ℕ × Option NodeEntry). d.0) same ∙ h.3, subst (λ (d : ℕ × Option NodeEntry). IsNamed find after eof limit (entry_with node_id (c.0).bits es) d.1 c.1) (sym same) h.4, subst (λ (l : Edits). AreNamed find after eof limit es l cs) (sym (tail-same h.2)) h.5)

  -- the ids of changes ascend, and so the first edit has the id of one that is still to come
  later-changed : (low : ℕ) (x : ℕ × Option NodeEntry) (xs : Edits) (cs : Changes) → ascend low cs ≡ true → AreChanged after more es (x ∷ xs) cs → low ≤ x.0
  later-changed low x xs [] up h = absurd (not-nil h)
  later-changed low x xs (c ∷ cs) up (inl h) =
      let parts = and_parts (leb low (c.0).bits) (ascend ((c.0).bits + 1) cs) up in
      let a = leb-true low (c.0).bits parts.0 in
      let b = (first-changed x xs c cs h).0 in
      omega (arith, a, b)
  later-changed low x xs (c ∷ cs) up (inr h) =
      let parts = and_parts (leb low (c.0).bits) (ascend ((c.0).bits + 1) cs) up in
      let a = leb-true low (c.0).bits parts.0 in
      let b = later-changed ((c.0).bits + 1) x xs cs parts.1 h.2 in
      omega (arith, a, b)

  later-named : (low : ℕ) (x : ℕ × Option NodeEntry) (xs : Edits) (cs : Changes) → ascend low cs ≡ true → AreNamed find after eof limit es (x ∷ xs) cs → low ≤ x.0
  later-named low x xs [] up h = absurd (not-nil h)
  later-named low x xs (c ∷ cs) up (inl h) =
      let parts = and_parts (leb low (c.0).bits) (ascend ((c.0).bits + 1) cs) up in
      let a = leb-true low (c.0).bits parts.0 in
      let b = (first-named x xs c cs h).0 in
      omega (arith, a, b)
  later-named low x xs (c ∷ cs) up (inr h) =
      let parts = and_parts (leb low (c.0).bits) (ascend ((c.0).bits + 1) cs) up in
      let a = leb-true low (c.0).bits parts.0 in
      let b = later-named ((c.0).bits + 1) x xs cs parts.1 h.1 in
      omega (arith, a, b)

  -- an edit that leads to a node puts it over what was there
  leads-over : (old o : Option NodeEntry) (r : Option NodeRec) (e : NodeEntry) → o ≡ Some e → LeadsTo after more o r → IsNamed find after eof limit old o r → IsPutOver find after eof more limit old e
  leads-over old None r e h leads named = absurd (none-some h)
  leads-over old (Some x) None e h leads named = absurd (none-some leads.2)
  leads-over old (Some x) (Some node) e h leads named =
      subst (λ (y : NodeEntry). IsPutOver find after eof more limit old y) (some-same h) (node, leads, named)

  pub edit-over : (low : ℕ) (ds : Edits) (cs : Changes) (k : ℕ) (e : NodeEntry) → ascend low cs ≡ true → AreChanged after more es ds cs → AreNamed find after eof limit es ds cs → edit_at k ds ≡ Some (Some e)
      → IsPutOver find after eof more limit (entry_with node_id k es) e
  edit-over low [] cs k e up changed named is = absurd (none-some is)
  edit-over low (x ∷ xs) [] k e up changed named is = absurd (not-nil changed)
  edit-over low (x ∷ xs) (c ∷ cs) k e up (inl ch) (inl na) is =
      let parts = and_parts (leb low (c.0).bits) (ascend ((c.0).bits + 1) cs) up in
      let one = first-changed x xs c cs ch in
      let two = first-named x xs c cs na in
      elim (cases_eq x.0 k) [
        | inl same ↦
            let here : x.1 ≡ Some e = some-same (sym (ap (λ (b : Bool). if b then Some x.1 else edit_at k xs) (eq-eqb x.0 k same)) ∙ is) in
            subst (λ (n : ℕ). IsPutOver find after eof more limit (entry_with node_id n es) e) (sym one.0 ∙ same) (leads-over (entry_with node_id (c.0).bits es) x.1 c.1 e here one.1 two.1)
        | inr other ↦ edit-over ((c.0).bits + 1) xs cs k e parts.1 one.2 two.2 (sym (ap (λ (b : Bool). if b then Some x.1 else edit_at k xs) (ne_eqb x.0 k other)) ∙ is)
      ]
  edit-over low (x ∷ xs) (c ∷ cs) k e up (inl ch) (inr na) is =
      let parts = and_parts (leb low (c.0).bits) (ascend ((c.0).bits + 1) cs) up in
      let a = (first-changed x xs c cs ch).0 in
      let b = later-named ((c.0).bits + 1) x xs cs parts.1 na.1 in
      absurd (omega (arith, a, b))
  edit-over low (x ∷ xs) (c ∷ cs) k e up (inr ch) (inl na) is =
      let parts = and_parts (leb low (c.0).bits) (ascend ((c.0).bits + 1) cs) up in
      let a = (first-named x xs c cs na).0 in
      let b = later-changed ((c.0).bits + 1) x xs cs parts.1 ch.2 in
      absurd (omega (arith, a, b))
  edit-over low (x ∷ xs) (c ∷ cs) k e up (inr ch) (inr na) is =
      let parts = and_parts (leb low (c.0).bits) (ascend ((c.0).bits + 1) cs) up in
      edit-over ((c.0).bits + 1) (x ∷ xs) cs k e parts.1 ch.2 na.1 is

-- ---- edits of blocks

-- the edit of a new entry is that of a new block
new-counted : (k : ℕ) (o : Option BlockEntry) (blocks : List (Bid × List ℕ)) (entries : List BlockEntry) (pieces : List Piece) → AreSealed blocks entries pieces → edit_at k (puts_of entries) ≡ Some o → 1 ≤ count_of k (keys_of (bids_in blocks))
new-counted k o [] entries pieces are is = absurd (none-some (sym (ap (λ (es : List BlockEntry). edit_at k (puts_of es)) are.0) ∙ is))
new-counted k o (b ∷ bs) [] pieces are is = absurd are
new-counted k o (b ∷ bs) (e ∷ es) [] are is = absurd are
new-counted k o (b ∷ bs) (e ∷ es) (p ∷ ps) are is =
    let key : entry_key e ≡ key_of (b.0).bits = ap (λ (i : Bid). key_of i.bits) (are.0).bid in
    elim (cases_eq (entry_key e) k) [
      | inl same ↦ let one : ◌≡◌ {A = ℕ} (if eqb (key_of (b.0).bits) k then 1 else 0) 1 = rw (eq-eqb (key_of (b.0).bits) k (sym key ∙ same)) refl in omega (arith, one)
      | inr other ↦ let rest = new-counted k o bs es ps are.1 (sym (ap (λ (x : Bool). if x then Some (Some e) else edit_at k (puts_of es)) (ne_eqb (entry_key e) k other)) ∙ is) in omega (arith, rest)
    ]

-- an old entry that a change of its number leaves has its place and size
recount-stays : (c : Option RefChange) (b e : BlockEntry) → or_old (recount_by c (Some b)) (Some b) ≡ Some e → (e.at ≡ b.at) × (e.cb ≡ b.cb)
recount-stays None b e h = (ap (λ (x : BlockEntry). x.at) (sym (some-same h)), ap (λ (x : BlockEntry). x.cb) (sym (some-same h)))
recount-stays (Some c) b e h = by (eqb c.after 0) h
  where
    by : (none : Bool) → (if none then None else Some (with_refs b c.after)) ≡ Some e → (e.at ≡ b.at) × (e.cb ≡ b.cb)
    by true h = absurd (none-some h)
    by false h = (ap (λ (x : BlockEntry). x.at) (sym (some-same h)), ap (λ (x : BlockEntry). x.cb) (sym (some-same h)))

-- and the count of its number of references, where this changes
recount-counted : (c : Option RefChange) (b e : BlockEntry) (before was now : ℕ) → or_old (recount_by c (Some b)) (Some b) ≡ Some e → before ≡ was → number_by c before ≡ now
    → ((was ≡ now) × (e.refs ≡ b.refs)) ⊎ (e.refs ≡ min (now + 1) 0xffff)
recount-counted None b e before was now h same number = inl (sym same ∙ number, ap (λ (x : BlockEntry). x.refs) (sym (some-same h)))
recount-counted (Some c) b e before was now h same number = by (eqb c.after 0) h
  where
    by : (none : Bool) → (if none then None else Some (with_refs b c.after)) ≡ Some e → ((was ≡ now) × (e.refs ≡ b.refs)) ⊎ (e.refs ≡ min (now + 1) 0xffff)
    by true h = absurd (none-some h)
    by false h = inr (ap (λ (x : BlockEntry). x.refs) (sym (some-same h)) ∙ ap (λ (n : ℕ). min (n + 1) 0xffff) number)

-- an entry that is there after a change of its number to 0 was there, and had no change
recount-unused : (c : Option RefChange) (o : Option BlockEntry) (before : ℕ) (e : BlockEntry) → or_old (recount_by c o) o ≡ Some e → number_by c before ≡ 0 → (before ≡ 0) × ((f : BlockEntry) × (o ≡ Some f))
recount-unused None o before e h none = (none, (e, h))
recount-unused (Some c) None before e h none = absurd (none-some h)
recount-unused (Some c) (Some b) before e h none = absurd (none-some (sym (ap (λ (x : Bool). if x then None else Some (with_refs b c.after)) (eq-eqb c.after 0 none)) ∙ h))

-- ---- the file

module _ {header : Header} {file : List ℕ} {m : NodeMap} (is : Lays header file m) {slots all : List Bool} {counts : ℕ → ℕ} {pages block page : ℕ} {cs : List (Nid × Option NodeRec)} {pieces : List Piece} {sealed : List ℕ} {next : Header} {e : PlanEffects} (known : IsKnown is slots counts pages block page) (over : IsOver slots all) (low : block < 2 ^ 61) (page_low : page < 2 ^ 61) (d : IsDrawn is all counts pages block page cs pieces sealed next e)
    (long : 564 ≤ length file) (mid : List ℕ) (writes : Scattered (d.growth ++ DrawnLaws.drawn_pieces is known over low d) file mid) (holds : HoldsEach mid (d.growth ++ DrawnLaws.drawn_pieces is known over low d)) {n : NodeMap} (now : Lays next (sealed ++ drop 564 mid) n) (up : ascend 0 cs ≡ true) where
  abbrev bytes : List ℕ
  bytes = sealed ++ drop 564 mid

  abbrev old : List BlockEntry
  old = blocks_in is.blocks

  abbrev changes : List RefChange
  changes = e.refs.items

  abbrev edits : List (ℕ × Option BlockEntry)
  edits = DrawnLaws.block_edits is known over low d

  abbrev after : ℕ → Option (List ℕ)
  after = KnownLaws.after is known over low page_low d long mid writes holds

  all-edits : AreEdits entry_key 0 (2 ^ 64) edits
  all-edits = DrawnLaws.all-edits is known over low d

  same-blocks : now.blocks ≡ (KnownLaws.bs is known over low page_low d long mid writes holds).found
  same-blocks = KnownLaws.block-tree-is is known over low page_low d long mid writes holds now

  same-nodes : now.nodes ≡ (KnownLaws.ns is known over low page_low d long mid writes holds).found
  same-nodes = KnownLaws.node-tree-is is known over low page_low d long mid writes holds now

  blocks-now : blocks_in now.blocks ≡ edited entry_key old edits
  blocks-now = ap (λ (f : Found). blocks_in f) same-blocks ∙ (KnownLaws.bs is known over low page_low d long mid writes holds).entries

  nodes-now : nodes_in now.nodes ≡ edited node_id (nodes_in is.nodes) d.edits
  nodes-now = ap (λ (f : Found). nodes_in f) same-nodes ∙ (KnownLaws.ns is known over low page_low d long mid writes holds).entries

  found-now : found_in bytes (blocks_in now.blocks) ≡ after
  found-now = ap (found_in bytes) blocks-now ∙ found-edited bytes old edits all-edits

  nodes : (k : ℕ) (x : NodeEntry) → entry_with node_id k (nodes_in now.nodes) ≡ Some x
      → (entry_with node_id k (nodes_in is.nodes) ≡ Some x)
      ⊎ IsPutOver (found_in file old) (found_in bytes (blocks_in now.blocks)) header.eof next.eof (next_block header old) (entry_with node_id k (nodes_in is.nodes)) x
  nodes k x there = by (edit_at k d.edits) refl
    where
      here : or_old (edit_at k d.edits) (entry_with node_id k (nodes_in is.nodes)) ≡ Some x
      here = sym (with-edited node_id 0 (2 ^ 64) k (nodes_in is.nodes) d.edits (d.sketch).node_edits) ∙ ap (entry_with node_id k) (sym nodes-now) ∙ there

      put-over : edit_at k d.edits ≡ Some (Some x) → IsPutOver (found_in file old) after header.eof next.eof block (entry_with node_id k (nodes_in is.nodes)) x
      put-over edit =
          let has = KnownLaws.has is known over low page_low d long mid writes holds in
          let stood = KnownLaws.stood is known over low page_low d long mid writes holds in
          edit-over (found_in file old) after header.eof next.eof block (nodes_in is.nodes) 0 d.edits cs k x up (DrawnLaws.contents-shown is known over low d bytes has.kept stood).0
          (((d.sketch).contents).names after (DrawnLaws.new-found is known over low d bytes has.kept stood)) edit

      by : (o : Option (Option NodeEntry)) → edit_at k d.edits ≡ o
          → (entry_with node_id k (nodes_in is.nodes) ≡ Some x)
          ⊎ IsPutOver (found_in file old) (found_in bytes (blocks_in now.blocks)) header.eof next.eof (next_block header old) (entry_with node_id k (nodes_in is.nodes)) x
      by None edit = inl (ap (λ (o : Option (Option NodeEntry)). or_old o (entry_with node_id k (nodes_in is.nodes))) (sym edit) ∙ here)
      by (Some o) edit =
          let put : o ≡ Some x = ap (λ (o : Option (Option NodeEntry)). or_old o (entry_with node_id k (nodes_in is.nodes))) (sym edit) ∙ here in
          inr (subst (λ (f : ℕ → Option (List ℕ)). IsPutOver (found_in file old) f header.eof next.eof (next_block header old) (entry_with node_id k (nodes_in is.nodes)) x) (sym found-now)
          (subst (λ (n : ℕ). IsPutOver (found_in file old) after header.eof next.eof n (entry_with node_id k (nodes_in is.nodes)) x) known.next_block (put-over (edit ∙ ap Some put))))

  -- the entry of an old key
  old-after : (k : ℕ) → k < block → entry_with entry_key k (blocks_in now.blocks) ≡ or_old (recount_by (change_of k changes) (entry_with entry_key k old)) (entry_with entry_key k old)
  old-after k lt =
      let front = edit-front entry_key block (2 ^ 64) k (recounts old block changes) (puts_of d.entries) lt (DrawnLaws.new-edits is known over low d) in
      let own = recount-at old block 0 (2 ^ 64) k changes lt ((d.sketch).changed).ascend in
      ap (entry_with entry_key k) blocks-now ∙ with-edited entry_key 0 (2 ^ 64) k old edits all-edits ∙ ap (λ (o : Option (Option BlockEntry)). or_old o (entry_with entry_key k old)) (front ∙ own)

  stay : (k : ℕ) (b x : BlockEntry) → entry_with entry_key k old ≡ Some b → entry_with entry_key k (blocks_in now.blocks) ≡ Some x → (x.at ≡ b.at) × (x.cb ≡ b.cb)
  stay k b x was there =
      let lt = DrawnLaws.old-below is known over low d k b was in
      recount-stays (change_of k changes) b x (ap (λ (o : Option BlockEntry). or_old (recount_by (change_of k changes) o) o) (sym was) ∙ sym (old-after k lt) ∙ there)

  pub refs-now : AreRefs (found_in bytes (blocks_in now.blocks)) (nodes_in now.nodes) (λ k. number_by (change_of k changes) (counts k))
  refs-now =
      subst (λ (f : Found). AreRefs (found_in bytes (blocks_in f)) (nodes_in now.nodes) (λ k. number_by (change_of k changes) (counts k))) (sym same-blocks)
      (subst (λ (f : Found). AreRefs (found_in bytes (blocks_in (KnownLaws.bs is known over low page_low d long mid writes holds).found)) (nodes_in f) (λ k. number_by (change_of k changes) (counts k))) (sym same-nodes)
      (KnownLaws.refs-now is known over low page_low d long mid writes holds))

  counted : (k : ℕ) (b x : BlockEntry) → entry_with entry_key k old ≡ Some b → entry_with entry_key k (blocks_in now.blocks) ≡ Some x
      → ((references (found_in file old) (nodes_in is.nodes) k ≡ references (found_in bytes (blocks_in now.blocks)) (nodes_in now.nodes) k) × (x.refs ≡ b.refs))
      ⊎ (x.refs ≡ min (references (found_in bytes (blocks_in now.blocks)) (nodes_in now.nodes) k + 1) 0xffff)
  counted k b x was there =
      let lt = DrawnLaws.old-below is known over low d k b was in
      recount-counted (change_of k changes) b x (counts k) (references (found_in file old) (nodes_in is.nodes) k) (references (found_in bytes (blocks_in now.blocks)) (nodes_in now.nodes) k)
      (ap (λ (o : Option BlockEntry). or_old (recount_by (change_of k changes) o) o) (sym was) ∙ sym (old-after k lt) ∙ there) (known.refs k) (refs-now k)

  freed : NoneUnused old (blocks_in now.blocks) (references (found_in file old) (nodes_in is.nodes)) (references (found_in bytes (blocks_in now.blocks)) (nodes_in now.nodes))
  freed k x there unused = elim (cases_lt k block) [
    | inl lt ↦
        let found = recount-unused (change_of k changes) (entry_with entry_key k old) (counts k) x (sym (old-after k lt) ∙ there) number in
        (sym (known.refs k) ∙ found.0, found.1)
    | inr le ↦ absurd (by (edit_at k edits) refl (entry_with entry_key k old) refl le)
  ]
    where
      number : number_by (change_of k changes) (counts k) ≡ 0
      number = refs-now k ∙ unused

      here : or_old (edit_at k edits) (entry_with entry_key k old) ≡ Some x
      here = sym (with-edited entry_key 0 (2 ^ 64) k old edits all-edits) ∙ ap (entry_with entry_key k) (sym blocks-now) ∙ there

      -- a new block is referred to
      by : (o : Option (Option BlockEntry)) → edit_at k edits ≡ o → (was : Option BlockEntry) → entry_with entry_key k old ≡ was → block ≤ k → ⊥
      by o edit (Some b) was le = let lt = DrawnLaws.old-below is known over low d k b was in omega (arith, lt, le)
      by None edit None was le = none-some (sym was ∙ ap (λ (o : Option (Option BlockEntry)). or_old o (entry_with entry_key k old)) (sym edit) ∙ here)
      by (Some o) edit None was le =
          let back = edit-back entry_key 0 block k (recounts old block changes) (puts_of d.entries) le (DrawnLaws.old-edits is known over low d) in
          let new = new-counted k o d.blocks d.entries d.block_pieces d.sealed_blocks (sym back ∙ edit) in
          let put = ((d.sketch).contents).fresh k new in
          let after = DrawnLaws.numbers-by counts (d.sketch).taken (d.sketch).put changes (d.sketch).changed k in
          omega (arith, put, after, number)

  pub follows : Follows is now
  follows = record { nodes = nodes; stay = stay; counted = counted; freed = freed }
