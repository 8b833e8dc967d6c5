-- What is known after a plan, of the file that has its pieces.
use Rattle.std.proofs.Common.{Bool, true, false, ◌≡◌, ◌∙◌, inl, inr, ℕ, ◌+◌, ◌-◌, ◌*◌, ◌^◌, ◌<◌, ◌≤◌, eqb, ltb, List, [], ◌∷◌, ◌++◌, length, map, drop, Option, Some, None, refl, sym, ap, subst, arith, if◌then◌else◌}
use Rattle.std.proofs.lemmas.Bool.{cases_eq, cases_lt, eq-eqb, le-ltb, lt-ltb, ne_eqb}
use Rattle.pst_base.specs.declared.ids.Bid.{Bid}
use Rattle.pst_base.specs.declared.ids.Bref.{Bref}
use Rattle.pst_base.specs.declared.ids.Nid.{Nid}
use Rattle.pst_base.specs.declared.places.Place.{Place}
use Rattle.pst_header.specs.declared.header.Header.{Header}
use Rattle.alloc_map.specs.Standing.{IsCovered, occupied, standing}
use Rattle.alloc_map.specs.Taken.{Taken}
use Rattle.btree_pages.specs.declared.entry.BlockEntry.{BlockEntry}
use Rattle.btree_pages.specs.declared.entry.NodeEntry.{NodeEntry}
use Rattle.btree_pages.specs.Entries.{block_of, node_of}
use Rattle.btree_pages.specs.EntryLaws.{key-block_of, key-node_of}
use Rattle.data_tree.specs.Keys.{count_of}
use Rattle.data_tree.specs.Plan.{Rise}
use Rattle.file_blocks.specs.Blocks.{entry_key, found_in}
use Rattle.file_layout.specs.Nodes.{Lays, Node, NodeMap, AreNodes, block_tree, blocks_in, node_tree, nodes_in, place_of, places_of, regions_to}
use Rattle.file_layout.specs.Numbers.{next_block, next_page}
use Rattle.file_layout.specs.Trees.{Found, IsWhole as IsFileWhole, page_place}
use Rattle.file_pages.proofs.Bridge.{shaped-root}
use Rattle.file_pages.specs.InFile.{shapes_in}
use Rattle.file_scan.proofs.ScanLaws.{whole-once}
use Rattle.lays_kept.specs.declared.Piece.{Piece}
use Rattle.lays_kept.specs.Kept.{Each as EachPlace, HoldsEach, SameAt, Scattered}
use Rattle.lays_kept.specs.Renewed.{EachLeads}
use Rattle.alloc_map.specs.Tally.{one_at, tally}
use Rattle.lays_kept.proofs.Kept.{each_front, pages_back, pages_front}
use Rattle.lays_kept.proofs.Rows.{pages_tally}
use Rattle.alloc_map.proofs.TallyLaws.{tally_append}
use Rattle.node_port.specs.declared.node.NodeRec.{NodeRec}
use Rattle.node_layout.specs.Changed.{IsChangedTree}
use Rattle.node_layout.specs.Joined.{HasPlanned, found_after, node_id}
use Rattle.node_layout.specs.Lookups.{Each, EachPut, IsPut, edit_at, sum_of}
use Rattle.node_layout.specs.Pieces.{EachStands}
use Rattle.node_layout.specs.Sealed.{AreSealed}
use Rattle.node_layout.proofs.LookupLaws.{each-edited}
use Rattle.node_layout.proofs.NodeLaws.{found-edited}
use Rattle.node_layout.proofs.PieceLaws.{pieces-apart, pieces-stand, stand-behind}
use Rattle.node_layout.proofs.PlannedLaws.{planned-has}
use Rattle.node_layout.proofs.TreeLaws.{tree-changed}
use Rattle.node_layout.specs.Counts.{AreRefs, put, refs_after, taken as taken_in}
use Rattle.node_layout.proofs.AfterLaws.{refs-kept}
use Rattle.tree_edit.specs.declared.plan.PlanPage.{PlanPage}
use Rattle.tree_edit.specs.Edits.{edited, entry_with}
use Rattle.tree_edit.specs.Plans.{IsPlan, names, tally as times}
use Rattle.tree_edit.specs.Shapes.{RiseIn}
use Rattle.tree_edit.proofs.PlanLaws.{tally-join}
use Rattle.ref_counts.specs.Changes.{change_of, number_after, number_by}
use Rattle.plan_pieces.specs.Names.{named}
use Rattle.plan_pieces.proofs.PageLaws.{named-within}
use Rattle.plan_drawing.specs.declared.effects.PlanEffects.{PlanEffects}
use Rattle.plan_drawing.specs.Drawn.{IsDrawn, blocks_drawn, nodes_drawn}
use Rattle.plan_drawing.specs.Recounts.{edit_of, left_places, puts_of, recounts, with_refs}
use Rattle.plan_placing.specs.Known.{IsKnown, IsKnownBy}
use Rattle.file_planner.specs.Holding.{IsOver}
use Rattle.ref_counts.specs.declared.table.RefChange.{RefChange}
use Rattle.plan_drawing.proofs.NewLaws.{next-is, next-known, sum-exact}
use Rattle.plan_drawing.proofs.RecountLaws.{each-with, put-sum-append, puts-append, sum-places}
use Rattle.file_planner.proofs.AfterLaws.{slots-after, tame-standing}
use Rattle.file_planner.proofs.DrawnLaws
use Rattle.file_planner.specs.New.{AreNewBlocks, AreRenewed, entries_from, new_pages}
use Rattle.file_planner.proofs.NewLaws.{both-renewed, changed-renewed, edited-from, keys-below, names-new, pages-append, sealed-new}
use Rattle.file_planner.proofs.FreedLaws.{left-tame, olds-append, puts-olds, puts-sum, recounts-sum, tame-back, tame-both, tame-front, whole-rise}
use Rattle.file_planner.proofs.PageLaws.{RefBelow, changed-below, page-is, page-known, pages-count}
use Rattle.file_planner.proofs.PlacedLaws.{laid-places, standing-once}
use Rattle.file_planner.proofs.SlotLaws.{AllTame, IsTame}

-- ---- lists

each-both : {E : Type 0} (P : E → Type 0) (xs ys : List E) → Each P xs → Each P ys → Each P (xs ++ ys)
each-both P [] ys a b = b
each-both P (x ∷ xs) ys a b = (a.0, each-both P xs ys a.1 b)

each-left : {E : Type 0} (P : E → Type 0) (xs ys : List E) → Each P (xs ++ ys) → Each P xs
each-left P [] ys a = tt
each-left P (x ∷ xs) ys a = (a.0, each-left P xs ys a.1)

each-right : {E : Type 0} (P : E → Type 0) (xs ys : List E) → Each P (xs ++ ys) → Each P ys
each-right P [] ys a = a
each-right P (x ∷ xs) ys a = each-right P xs ys a.1

are-led : (find : ℕ → Option (List ℕ)) (eof : ℕ) (es : List NodeEntry) (nodes : List Node) → AreNodes find eof es nodes → EachLeads find eof es
are-led find eof [] nodes are = tt
are-led find eof (e ∷ es) nodes are = ((are.0, are.3), are-led find eof es are.1 are.4)

-- ---- ids of blocks

-- an id is so far below a number
abbrev pub BidBelow : ℕ → BlockEntry → Type 0
BidBelow limit e = ((e.at).bid).bits + 4 ≤ limit

below-more : (m n : ℕ) (es : List BlockEntry) → m ≤ n → Each (BidBelow m) es → Each (BidBelow n) es
below-more m n [] le all = tt
below-more m n (e ∷ es) le all = (let a = all.0 in omega (arith, a, le), below-more m n es le all.1)

below-unless : (limit : ℕ) (ds : List (ℕ × Option BlockEntry)) (es : List BlockEntry) → Each (BidBelow limit) es → Each (λ e. edit_at (entry_key e) ds ≡ None → BidBelow limit e) es
below-unless limit ds [] all = tt
below-unless limit ds (e ∷ es) all = ((λ none. all.0), below-unless limit ds es all.1)

edit-of-below : (limit : ℕ) (es : List BlockEntry) (c : RefChange) (o : Option BlockEntry) → entry_with entry_key c.key es ≡ o → Each (BidBelow limit) es → EachPut (BidBelow limit) (edit_of o c)
edit-of-below limit es c None is all = tt
edit-of-below limit es c (Some e) is all = (by (eqb c.after 0), tt)
  where
    own : BidBelow limit e
    own = each-with (BidBelow limit) entry_key c.key es e all is

    by : (b : Bool) → IsPut (BidBelow limit) (if b then None else Some (with_refs e c.after))
    by true = tt
    by false = own

recounts-below : (limit : ℕ) (es : List BlockEntry) (next : ℕ) (cs : List RefChange) → Each (BidBelow limit) es → EachPut (BidBelow limit) (recounts es next cs)
recounts-below limit es next [] all = tt
recounts-below limit es next (c ∷ cs) all =
    let rest = recounts-below limit es next cs all in
    elim (cases_lt c.key next) [
      | inl lt ↦ rw (lt-ltb c.key next lt) (puts-append (BidBelow limit) (edit_of (entry_with entry_key c.key es) c) (recounts es next cs) (edit-of-below limit es c (entry_with entry_key c.key es) refl all) rest)
      | inr le ↦ rw (le-ltb c.key next le) rest
    ]

news-below : (next limit : ℕ) (blocks : List (Bid × List ℕ)) (entries : List BlockEntry) (pieces : List Piece) → Rise next blocks → AreSealed blocks entries pieces → next + 4 * length blocks + 3 ≤ limit → EachPut (BidBelow limit) (puts_of entries)
news-below next limit [] entries pieces rise are most = subst (λ (es : List BlockEntry). EachPut (BidBelow limit) (puts_of es)) (sym are.0) tt
news-below next limit (b ∷ bs) [] pieces rise are most = absurd are
news-below next limit (b ∷ bs) (e ∷ es) [] rise are most = absurd are
news-below next limit (b ∷ bs) (e ∷ es) (p ∷ ps) rise are most =
    let bits : ((e.at).bid).bits ≡ (b.0).bits = ap (λ (i : Bid). i.bits) (are.0).bid in
    let high : (b.0).bits ≤ next + 2 = elim rise.0 [ inl a ↦ omega (arith, a) | inr a ↦ omega (arith, a) ] in
    (omega (arith, bits, high, most), news-below (next + 4) limit bs es ps rise.1 are.1 (omega (arith, most)))

-- ---- places of pages that are freed

tame-pages : (freed all : List Bref) (done : List Bref) → ((ib : ℕ) → times ib done + times ib freed ≤ times ib all) → AllTame (map page_place all) → AllTame (map page_place freed)
tame-pages [] all done few tame = tt
tame-pages (f ∷ freed) all done few tame =
    (at-tally all f.ib tame (let a = few f.ib in let b = here f freed in omega (arith, a, b)), tame-pages freed all (f ∷ done) (λ ib. let c = few ib in omega (arith, c)) tame)
  where
    at-tally : (ps : List Bref) (ib : ℕ) → AllTame (map page_place ps) → 1 ≤ times ib ps → IsTame (record { ib = ib; len = 512 })
    at-tally [] ib all some = absurd (omega (arith, some))
    at-tally (p ∷ ps) ib all some = elim (cases_eq p.ib ib) [
      | inl same ↦ subst (λ (k : ℕ). IsTame (record { ib = k; len = 512 })) same all.0
      | inr other ↦ let none : ◌≡◌ {A = ℕ} (if eqb p.ib ib then 1 else 0) 0 = rw (ne_eqb p.ib ib other) refl in at-tally ps ib all.1 (omega (arith, some, none))
    ]

    here : (y : Bref) (ys : List Bref) → 1 ≤ times y.ib (y ∷ ys)
    here y ys = let e : ◌≡◌ {A = ℕ} (if eqb y.ib y.ib then 1 else 0) 1 = rw (eq-eqb y.ib y.ib refl) refl in omega (arith, e)

-- the id of a new page
named-id : {E : Type 0} (first : ℕ) (places : List Place) (pages : List (PlanPage E)) → length places ≡ length pages → (i : ℕ) → i < length pages → ((named first places i).bid).bits ≡ first + i
named-id first places pages count i lt = ap (λ (at : Bref). (at.bid).bits) (named-within first places i (omega (arith, lt, count)))

-- ---- the file after it

module _ {header : Header} {file : List ℕ} {m : NodeMap} (is : Lays header file m) {slots all : List Bool} {counts : ℕ → ℕ} {pages block page : ℕ} {cs : List (Nid × Option NodeRec)} {pieces : List Piece} {sealed : List ℕ} {next : Header} {e : PlanEffects} (known : IsKnown is slots counts pages block page) (over : IsOver slots all) (low : block < 2 ^ 61) (page_low : page < 2 ^ 61) (d : IsDrawn is all counts pages block page cs pieces sealed next e)
    (long : 564 ≤ length file) (mid : List ℕ) (writes : Scattered (d.growth ++ DrawnLaws.drawn_pieces is known over low d) file mid) (holds : HoldsEach mid (d.growth ++ DrawnLaws.drawn_pieces is known over low d)) where
  abbrev pub bytes : List ℕ
  bytes = sealed ++ drop 564 mid

  abbrev pub bd : List (ℕ × Option BlockEntry)
  bd = DrawnLaws.block_edits is known over low d

  old : List BlockEntry
  old = blocks_in is.blocks

  pub has : HasPlanned is (blocks_drawn d) (nodes_drawn d) next bytes d.block_places cs
  has = planned-has is next sealed d.growth (DrawnLaws.drawn_pieces is known over low d) (blocks_drawn d) (nodes_drawn d) d.block_places cs long (DrawnLaws.next-header is known over low d) (DrawnLaws.has-room is known over low d)
      (λ file_bytes reaches kept stood. DrawnLaws.shows is known over low d file_bytes kept stood) mid writes holds

  pub stood : EachStands bytes (DrawnLaws.drawn_pieces is known over low d)
  stood =
      let room = DrawnLaws.has-room is known over low d in
      stand-behind sealed mid (DrawnLaws.drawn_pieces is known over low d) d.size room.wholes
      (pieces-stand mid d.growth (DrawnLaws.drawn_pieces is known over low d) (pieces-apart (DrawnLaws.drawn_pieces is known over low d) (standing (places_of is.blocks is.nodes) (regions_to next.eof)) room.wholes room.once) holds)

  pub page-kept : EachPlace (SameAt file bytes) (map page_place (is.blocks.pages ++ is.nodes.pages))
  page-kept = each_front (SameAt file bytes) (map page_place (is.blocks.pages ++ is.nodes.pages)) (map place_of (blocks_in is.blocks)) has.kept

  pub bs : IsChangedTree block_of entry_key (block_tree file header.eof) bytes next.eof is.blocks d.block_pages d.block_freed d.block_top (named page d.first_places) (DrawnLaws.block_edits is known over low d)
  bs = tree-changed block_of entry_key (block_tree file header.eof) key-block_of bytes next.eof header.bbt is.blocks is.block_pages has.longer has.long_enough (pages_front (SameAt file bytes) is.blocks.pages is.nodes.pages page-kept)
      d.block_pages d.block_freed d.block_top (named page d.first_places) (DrawnLaws.block_edits is known over low d) ((d.block_tree).plans).plan has.block_pages

  pub ns : IsChangedTree node_of node_id (node_tree file header.eof) bytes next.eof is.nodes d.node_pages d.node_freed d.node_top (named (page + length d.block_pages) d.last_places) d.edits
  ns = tree-changed node_of node_id (node_tree file header.eof) key-node_of bytes next.eof header.nbt is.nodes is.node_pages has.longer has.long_enough (pages_back (SameAt file bytes) is.blocks.pages is.nodes.pages page-kept)
      d.node_pages d.node_freed d.node_top (named (page + length d.block_pages) d.last_places) d.edits ((d.node_tree).plans).plan has.node_pages

  -- the trees of any reading of the file are these
  pub block-tree-is : {n : NodeMap} (now : Lays next bytes n) → now.blocks ≡ bs.found
  block-tree-is now = whole-once (block_tree bytes next.eof) next.bbt now.blocks bs.found now.block_pages (subst (λ (r : Bref). IsFileWhole (block_tree bytes next.eof) r bs.found) (sym d.bbt) bs.tree)

  pub node-tree-is : {n : NodeMap} (now : Lays next bytes n) → now.nodes ≡ ns.found
  node-tree-is now = whole-once (node_tree bytes next.eof) next.nbt now.nodes ns.found now.node_pages (subst (λ (r : Bref). IsFileWhole (node_tree bytes next.eof) r ns.found) (sym d.nbt) ns.tree)

  -- ---- references

  abbrev pub after : ℕ → Option (List ℕ)
  after = found_after bytes (blocks_in is.blocks) (DrawnLaws.block_edits is known over low d)

  same-number : (k : ℕ) → refs_after counts (taken_in (found_in file (blocks_in is.blocks)) (nodes_in is.nodes) d.edits) (put after d.edits) k ≡ number_after counts (d.sketch).taken (d.sketch).put k
  same-number k =
      let a = ((d.sketch).contents).taken_are k in
      let b = (DrawnLaws.contents-shown is known over low d bytes has.kept stood).1 k in
      ap (λ (n : ℕ). (counts k - n) + put after d.edits k) (sym a) ∙ ap (λ (n : ℕ). (counts k - count_of k (d.sketch).taken) + n) (sym b)

  pub refs-now : AreRefs (found_in bytes (blocks_in bs.found)) (nodes_in ns.found) (λ k. number_by (change_of k e.refs.items) (counts k))
  refs-now =
      let find : ℕ → Option (List ℕ) = found_in file (blocks_in is.blocks) in
      let kept = refs-kept find after header.eof (nodes_in is.nodes) d.edits counts (d.sketch).node_edits known.refs (are-led find header.eof (nodes_in is.nodes) m.nodes is.are)
      (λ k b some found. DrawnLaws.still is known over low d bytes has.kept stood k b (ap (ltb 0) (sym (same-number k)) ∙ some) found) in
      let found : found_in bytes (blocks_in bs.found) ≡ after = ap (found_in bytes) bs.entries ∙ found-edited bytes (blocks_in is.blocks) (DrawnLaws.block_edits is known over low d) (DrawnLaws.all-edits is known over low d) in
      subst (λ (f : ℕ → Option (List ℕ)). AreRefs f (nodes_in ns.found) (λ k. number_by (change_of k e.refs.items) (counts k))) (sym found)
      (subst (λ (es : List NodeEntry). AreRefs after es (λ k. number_by (change_of k e.refs.items) (counts k))) (sym ns.entries)
      (λ k. DrawnLaws.numbers-by counts (d.sketch).taken (d.sketch).put e.refs.items (d.sketch).changed k ∙ sym (same-number k) ∙ kept k))

  -- ---- places

  -- the slots of the file alone, with the new places
  abbrev pub own : (own : List Bool) × Taken slots own (DrawnLaws.new_places is known over low d)
  own = DrawnLaws.own is known over low d

  abbrev pub freed_places : List Place
  freed_places = left_places (blocks_in is.blocks) block e.refs.items ++ map page_place (d.block_freed ++ d.node_freed)

  rise : RiseIn 0 (2 ^ 64) (map entry_key (blocks_in is.blocks))
  rise = whole-rise (shapes_in block_of (block_tree file header.eof)) entry_key header.bbt (blocks_in is.blocks) is.blocks.pages (shaped-root block_of entry_key (block_tree file header.eof) key-block_of header.bbt is.blocks is.block_pages)

  block-sums : (slot : ℕ) → tally slot (map place_of (blocks_in bs.found)) + tally slot (left_places (blocks_in is.blocks) block e.refs.items) ≡ tally slot (map place_of (blocks_in is.blocks)) + tally slot d.block_places
  block-sums slot =
      let f : BlockEntry → ℕ = λ o. one_at slot (place_of o) in
      let rs : List (ℕ × Option BlockEntry) = recounts (blocks_in is.blocks) block e.refs.items in
      let exact = sum-exact entry_key f 0 (2 ^ 64) 0 (2 ^ 64) (blocks_in is.blocks) (DrawnLaws.block_edits is known over low d) rise (DrawnLaws.all-edits is known over low d) in
      let olds = olds-append f (blocks_in is.blocks) rs (puts_of d.entries) in
      let none = puts-olds f (blocks_in is.blocks) d.entries block (2 ^ 64) (DrawnLaws.new-edits is known over low d) (λ k le. absent k le (entry_with entry_key k (blocks_in is.blocks)) refl) in
      let left = recounts-sum slot (blocks_in is.blocks) block e.refs.items in
      let puts = put-sum-append f rs (puts_of d.entries) in
      let news = puts-sum f d.entries in
      let a = sum-places slot (blocks_in is.blocks) in
      let b = sum-places slot d.entries in
      let c = ap (tally slot) d.of_entries in
      let g : tally slot (map place_of (blocks_in bs.found)) ≡ sum_of f (edited entry_key (blocks_in is.blocks) (DrawnLaws.block_edits is known over low d)) =
      ap (λ (es : List BlockEntry). tally slot (map place_of es)) bs.entries ∙ sym (sum-places slot (edited entry_key (blocks_in is.blocks) (DrawnLaws.block_edits is known over low d))) in
      omega (arith, exact, olds, none, left, puts, news, a, b, c, g)
    where
      absent : (k : ℕ) → block ≤ k → (o : Option BlockEntry) → entry_with entry_key k (blocks_in is.blocks) ≡ o → entry_with entry_key k (blocks_in is.blocks) ≡ None
      absent k le None h = h
      absent k le (Some x) h = let lt = DrawnLaws.old-below is known over low d k x h in absurd (omega (arith, lt, le))

  all-sums : (slot : ℕ) → tally slot (places_of bs.found ns.found) + tally slot freed_places ≡ tally slot (places_of is.blocks is.nodes) + tally slot (DrawnLaws.new_places is known over low d)
  all-sums slot =
      let a = tally_append slot (map page_place (bs.found.pages ++ ns.found.pages)) (map place_of (blocks_in bs.found)) in
      let b = tally_append slot (map page_place (is.blocks.pages ++ is.nodes.pages)) (map place_of (blocks_in is.blocks)) in
      let c = pages_tally slot bs.found.pages ns.found.pages in
      let f = pages_tally slot is.blocks.pages is.nodes.pages in
      let g = tally_append slot (left_places (blocks_in is.blocks) block e.refs.items) (map page_place (d.block_freed ++ d.node_freed)) in
      let h = pages_tally slot d.block_freed d.node_freed in
      let i = bs.places slot in
      let j = ns.places slot in
      let k = block-sums slot in
      let l = tally_append slot (d.first_places ++ d.last_places) d.block_places in
      let n = tally_append slot d.first_places d.last_places in
      let o = ap (tally slot) (DrawnLaws.first-at is known over low d) in
      let p = ap (tally slot) (DrawnLaws.last-at is known over low d) in
      omega (arith, a, b, c, f, g, h, i, j, k, l, n, o, p)

  tame-old : AllTame (places_of is.blocks is.nodes)
  tame-old = tame-standing (places_of is.blocks is.nodes) (laid-places is) (standing-once is)

  block-kept : IsPlan (shapes_in block_of (block_tree file header.eof)) entry_key d.block_pages d.block_freed d.block_top (edited entry_key (blocks_in is.blocks) (DrawnLaws.block_edits is known over low d)) is.blocks.pages
  block-kept = ((d.block_tree).plans).plan (blocks_in is.blocks) is.blocks.pages (shaped-root block_of entry_key (block_tree file header.eof) key-block_of header.bbt is.blocks is.block_pages)

  node-kept : IsPlan (shapes_in node_of (node_tree file header.eof)) node_id d.node_pages d.node_freed d.node_top (edited node_id (nodes_in is.nodes) d.edits) is.nodes.pages
  node-kept = ((d.node_tree).plans).plan (nodes_in is.nodes) is.nodes.pages (shaped-root node_of node_id (node_tree file header.eof) key-node_of header.nbt is.nodes is.node_pages)

  tame-freed : AllTame freed_places
  tame-freed =
      let pages_tame : AllTame (map page_place (is.blocks.pages ++ is.nodes.pages)) = tame-front (map page_place (is.blocks.pages ++ is.nodes.pages)) (map place_of (blocks_in is.blocks)) tame-old in
      let blocks_tame : AllTame (map place_of (blocks_in is.blocks)) = tame-back (map page_place (is.blocks.pages ++ is.nodes.pages)) (map place_of (blocks_in is.blocks)) tame-old in
      tame-both (left_places (blocks_in is.blocks) block e.refs.items) (map page_place (d.block_freed ++ d.node_freed)) (left-tame (blocks_in is.blocks) block e.refs.items blocks_tame)
      (tame-pages (d.block_freed ++ d.node_freed) (is.blocks.pages ++ is.nodes.pages) []
      (λ ib.
      let a = tally-join ib d.block_freed d.node_freed in
      let b = tally-join ib is.blocks.pages is.nodes.pages in
      let c = (block-kept).counted ib in
      let f = (node-kept).counted ib in
      omega (arith, a, b, c, f)) pages_tame)

  pub slots-now : {n : NodeMap} (now : Lays next bytes n) → (later : List Bool) × Taken later own.0 e.freed.items × IsCovered (occupied (places_of bs.found ns.found) 8192) later
  slots-now now =
      let tame_new : AllTame (places_of bs.found ns.found) = subst (λ (f : Found). AllTame (places_of f ns.found)) (block-tree-is now) (subst (λ (f : Found). AllTame (places_of now.blocks f)) (node-tree-is now)
      (tame-standing (places_of now.blocks now.nodes) (laid-places now) (standing-once now))) in
      let result = slots-after (places_of is.blocks is.nodes) (places_of bs.found ns.found) (DrawnLaws.new_places is known over low d) freed_places slots own.0 known.size known.used (standing-once is)
      own.1 (DrawnLaws.new-laid is known over low d) tame-old tame_new tame-freed all-sums in
      (result.0, subst (λ (ps : List Place). Taken result.0 own.0 ps) (sym d.freed) result.1, result.2)

  -- ---- numbers

  pub pages-now : e.pages ≡ length bs.found.pages + length ns.found.pages
  pages-now =
      let a = pages-count bs in
      let b = pages-count ns in
      let c = known.pages in
      let f = d.pages_after in
      omega (arith, a, b, c, f)

  pub blocks-now : e.next_block ≡ next_block next (blocks_in bs.found)
  blocks-now =
      let k = next-known header (blocks_in is.blocks) block known.next_block low in
      let limit : ℕ = block + 4 * length d.blocks + 3 in
      let old_below : Each (BidBelow limit) (blocks_in is.blocks) = below-more (block + 3) limit (blocks_in is.blocks) (omega arith) k.3 in
      let puts : EachPut (BidBelow limit) (DrawnLaws.block_edits is known over low d) = puts-append (BidBelow limit) (recounts (blocks_in is.blocks) block e.refs.items) (puts_of d.entries)
      (recounts-below limit (blocks_in is.blocks) block e.refs.items old_below) (news-below block limit d.blocks d.entries d.block_pieces (d.sketch).rise d.sealed_blocks (omega arith)) in
      let all : Each (BidBelow limit) (edited entry_key (blocks_in is.blocks) (DrawnLaws.block_edits is known over low d)) =
      each-edited (BidBelow limit) entry_key 0 (2 ^ 64) (blocks_in is.blocks) (DrawnLaws.block_edits is known over low d) (DrawnLaws.all-edits is known over low d) (below-unless limit (DrawnLaws.block_edits is known over low d) (blocks_in is.blocks) old_below) puts in
      let here : Each (BidBelow limit) (blocks_in bs.found) = subst (Each (BidBelow limit)) (sym bs.entries) all in
      let is_next = d.next_block in
      let high = d.block_high in
      let apart = k.0 in
      let some = k.1 in
      let number : block + 4 * length d.blocks ≡ next_block next (blocks_in bs.found) =
      next-is next (blocks_in bs.found) (block + 4 * length d.blocks) is_next (omega (arith, apart)) (omega (arith, some)) (omega (arith, is_next, high)) here in
      d.block_after ∙ is_next ∙ number

  pub page-now : e.next_page ≡ next_page next (bs.found.pages ++ ns.found.pages)
  page-now =
      let all : Each (RefBelow page) (is.blocks.pages ++ is.nodes.pages) = page-known header (is.blocks.pages ++ is.nodes.pages) page known.next_page page_low in
      let end : ℕ = page + (length d.block_pages + length d.node_pages) in
      let one : Each (RefBelow end) bs.found.pages = changed-below bs header.bbt is.block_pages (pages_front (SameAt file bytes) is.blocks.pages is.nodes.pages page-kept) has.block_pages page page end (omega arith) (omega arith) (λ i lt. named-id page d.first_places d.block_pages (d.block_tree).count i lt) (each-left (RefBelow page) is.blocks.pages is.nodes.pages all) in
      let two : Each (RefBelow end) ns.found.pages = changed-below ns header.nbt is.node_pages (pages_back (SameAt file bytes) is.blocks.pages is.nodes.pages page-kept) has.node_pages page (page + length d.block_pages) end (omega arith) (omega arith) (λ i lt. named-id (page + length d.block_pages) d.last_places d.node_pages (d.node_tree).count i lt) (each-right (RefBelow page) is.blocks.pages is.nodes.pages all) in
      let is_next = d.next_page in
      let high = d.page_high in
      d.page_after ∙ is_next ∙ page-is next (bs.found.pages ++ ns.found.pages) end is_next (omega (arith, is_next, high)) (each-both (RefBelow end) bs.found.pages ns.found.pages one two)

  -- both next numbers are those of the header
  pub numbers-now : {n : NodeMap} (now : Lays next bytes n) → (next.next_block ≡ next_block next (blocks_in now.blocks)) × (next.next_page ≡ next_page next (now.blocks.pages ++ now.nodes.pages))
  numbers-now now =
      let bt = block-tree-is now in
      let nt = node-tree-is now in (
        sym d.block_after ∙ blocks-now ∙ ap (λ (f : Found). next_block next (blocks_in f)) (sym bt),
        sym d.page_after ∙ page-now ∙ ap (λ (f : Found). next_page next (f.pages ++ ns.found.pages)) (sym bt) ∙ ap (λ (f : Found). next_page next (now.blocks.pages ++ f.pages)) (sym nt),
      )

  -- the entries of any reading from the next number on are the new ones
  pub new-entries : {n : NodeMap} (now : Lays next bytes n) → entries_from block (blocks_in now.blocks) ≡ d.entries
  new-entries now =
      ap (λ (f : Found). entries_from block (blocks_in f)) (block-tree-is now) ∙ ap (entries_from block) bs.entries
      ∙ edited-from block 0 (2 ^ 64) (blocks_in is.blocks) d.entries (recounts (blocks_in is.blocks) block e.refs.items) (keys-below block (blocks_in is.blocks) (next-known header (blocks_in is.blocks) block known.next_block low).3)
      (DrawnLaws.old-edits is known over low d) (DrawnLaws.new-edits is known over low d)

  -- and so are its blocks
  pub new-blocks : {n : NodeMap} (now : Lays next bytes n) → AreNewBlocks (next_block header (blocks_in is.blocks)) d.block_places (entries_from (next_block header (blocks_in is.blocks)) (blocks_in now.blocks))
  new-blocks now =
      let from = new-entries now in
      let placed : AreNewBlocks block d.block_places d.entries = subst (λ (ps : List Place). AreNewBlocks block ps d.entries) d.of_entries (sealed-new block d.blocks d.entries d.block_pieces (d.sketch).rise d.sealed_blocks) in
      subst (λ (k : ℕ). AreNewBlocks k d.block_places (entries_from k (blocks_in now.blocks))) known.next_block (subst (AreNewBlocks block d.block_places) (sym from) placed)

  -- and its pages those that are kept and the new ones
  pub pages-renewed : {n : NodeMap} (now : Lays next bytes n) → AreRenewed (is.blocks.pages ++ is.nodes.pages) (new_pages (next_page header (is.blocks.pages ++ is.nodes.pages)) (d.first_places ++ d.last_places)) (now.blocks.pages ++ now.nodes.pages)
  pages-renewed now =
      let first : ℕ = page + length d.block_pages in
      let one = changed-renewed bs header.bbt is.block_pages (pages_front (SameAt file bytes) is.blocks.pages is.nodes.pages page-kept) has.block_pages (λ ib. let a = block-kept.counted ib in omega (arith, a)) in
      let two = changed-renewed ns header.nbt is.node_pages (pages_back (SameAt file bytes) is.blocks.pages is.nodes.pages page-kept) has.node_pages (λ ib. let a = node-kept.counted ib in omega (arith, a)) in
      let both = both-renewed (names (named page d.first_places) 0 d.block_pages) (names (named first d.last_places) 0 d.node_pages) is.blocks.pages is.nodes.pages bs.found.pages ns.found.pages one two in
      let count : length d.first_places ≡ length d.block_pages = (d.block_tree).count in
      let new : names (named page d.first_places) 0 d.block_pages ++ names (named first d.last_places) 0 d.node_pages ≡ new_pages page (d.first_places ++ d.last_places) =
      ap (λ (l : List Bref). l ++ names (named first d.last_places) 0 d.node_pages) (names-new page d.first_places d.block_pages count)
      ∙ ap (λ (l : List Bref). new_pages page d.first_places ++ l) (names-new first d.last_places d.node_pages (d.node_tree).count)
      ∙ ap (λ (k : ℕ). new_pages page d.first_places ++ new_pages (page + k) d.last_places) (sym count)
      ∙ sym (pages-append page d.first_places d.last_places) in
      let there : bs.found.pages ++ ns.found.pages ≡ now.blocks.pages ++ now.nodes.pages =
      ap (λ (f : Found). f.pages ++ ns.found.pages) (sym (block-tree-is now)) ∙ ap (λ (f : Found). now.blocks.pages ++ f.pages) (sym (node-tree-is now)) in
      subst (λ (k : ℕ). AreRenewed (is.blocks.pages ++ is.nodes.pages) (new_pages k (d.first_places ++ d.last_places)) (now.blocks.pages ++ now.nodes.pages)) known.next_page
      (subst (AreRenewed (is.blocks.pages ++ is.nodes.pages) (new_pages page (d.first_places ++ d.last_places))) there
      (subst (λ (l : List Bref). AreRenewed (is.blocks.pages ++ is.nodes.pages) l (bs.found.pages ++ ns.found.pages)) new both))

  -- what the planner knows then is right for any reading of the file
  pub known-now : {n : NodeMap} (now : Lays next bytes n) (later : List Bool) → Taken later own.0 e.freed.items → IsCovered (occupied (places_of bs.found ns.found) 8192) later
      → IsKnown now later (λ k. number_by (change_of k e.refs.items) (counts k)) e.pages e.next_block e.next_page
  known-now now later freed used =
      let by : IsKnownBy next bytes bs.found ns.found later (λ k. number_by (change_of k e.refs.items) (counts k)) e.pages e.next_block e.next_page = record {
        size = sym freed.size ∙ own.1.size ∙ known.size;
        used = used;
        refs = refs-now;
        pages = pages-now;
        next_block = blocks-now;
        next_page = page-now;
      } in
      subst (λ (f : Found). IsKnownBy next bytes f now.nodes later (λ k. number_by (change_of k e.refs.items) (counts k)) e.pages e.next_block e.next_page) (sym (block-tree-is now))
      (subst (λ (f : Found). IsKnownBy next bytes bs.found f later (λ k. number_by (change_of k e.refs.items) (counts k)) e.pages e.next_block e.next_page) (sym (node-tree-is now)) by)
