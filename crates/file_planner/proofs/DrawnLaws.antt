-- A plan in all its parts is one that can be committed.
use Rattle.std.proofs.Common.{Bool, true, ◌≡◌, ◌∙◌, inl, inr, ℕ, ◌+◌, ◌-◌, ◌*◌, ◌%◌, ◌^◌, ◌<◌, ◌≤◌, ltb, List, [], ◌∷◌, ◌++◌, length, map, drop, Option, Some, None, refl, sym, ap, subst, arith, if◌then◌else◌}
use Rattle.std.specs.List.{All}
use Rattle.std.proofs.lemmas.Bool.{cases_eq, cases_lt, eq-eqb, lt-ltb, ne_eqb}
use Rattle.std.proofs.lemmas.List.{map-append}
use Rattle.std.proofs.lemmas.List.Elements.{All-head, All-tail}
use Rattle.pst_base.specs.declared.ids.Bid.{Bid}
use Rattle.pst_base.specs.declared.ids.Nid.{Nid}
use Rattle.pst_base.specs.declared.places.Place.{Place}
use Rattle.pst_base.specs.Ids.{key_of}
use Rattle.pst_header.specs.declared.header.Header.{Header}
use Rattle.alloc_map.specs.Standing.{IsCovered, amap_places, occupied, standing}
use Rattle.alloc_map.specs.Covered.{Once}
use Rattle.alloc_map.specs.Taken.{Taken}
use Rattle.alloc_map.proofs.TakenLaws.{taken-both}
use Rattle.btree_pages.specs.declared.entry.BlockEntry.{BlockEntry}
use Rattle.btree_pages.specs.Entries.{block_of, node_of, node_key}
use Rattle.data_tree.specs.Keys.{count_of, keys_of}
use Rattle.data_tree.specs.Plan.{IsFound, bids_in}
use Rattle.file_blocks.specs.Blocks.{AllStand, Stands, data_of, entry_key, found_in}
use Rattle.file_layout.specs.Nodes.{Lays, NodeMap, block_tree, blocks_in, node_tree, nodes_in, place_of, places_of, regions_to}
use Rattle.file_layout.specs.Trees.{IsPlace, page_place}
use Rattle.lays_kept.specs.declared.Piece.{Piece}
use Rattle.lays_kept.specs.Kept.{Each as EachPlace, IsClear, SameAt, Scattered}
use Rattle.alloc_map.specs.Tally.{one_at, tally}
use Rattle.lays_kept.proofs.Beside.{IsWhole}
use Rattle.lays_kept.proofs.Kept.{all_kept, each_back, each_front}
use Rattle.lays_kept.proofs.Places.{blocks_places, each_append, lays_places, scattered_same}
use Rattle.lays_kept.proofs.Renewed.{behind}
use Rattle.alloc_map.proofs.TallyLaws.{tally_append}
use Rattle.lays_kept.proofs.Tally.{once_reordered}
use Rattle.node_port.specs.declared.node.NodeRec.{NodeRec}
use Rattle.node_layout.specs.Commit.{HasRoom, IsNext, Shows}
use Rattle.node_layout.specs.Growth.{AllGrow}
use Rattle.node_layout.specs.Joined.{AreChanged, IsPlanned, found_after, places_in}
use Rattle.node_layout.specs.Lookups.{Each, EachPut, edit_at}
use Rattle.node_layout.specs.Pieces.{EachStands, piece_place}
use Rattle.node_layout.proofs.DataLaws.{all-here}
use Rattle.node_layout.proofs.GrowthLaws.{growth-beside, grown-long}
use Rattle.node_layout.proofs.LookupLaws.{each-edited, sum-edited, with-edited}
use Rattle.node_layout.proofs.NodeLaws.{still-found}
use Rattle.node_layout.proofs.PlannedLaws.{planned-beside}
use Rattle.node_layout.proofs.SealedLaws.{all-sealed}
use Rattle.node_layout.proofs.WrittenLaws.{pages-shown}
use Rattle.node_layout.specs.Counts.{put}
use Rattle.node_layout.proofs.CountLaws.{left-needs}
use Rattle.node_layout.proofs.FitLaws.{data-fit}
use Rattle.tree_edit.specs.Edits.{AreEdits, edited, entry_with}
use Rattle.ref_counts.specs.declared.table.RefChange.{RefChange}
use Rattle.ref_counts.specs.Changes.{AreRefChanges, IsRefChange, change_of, number_after, number_by}
use Rattle.content_plan.specs.Plan.{Bounds, StayFound}
use Rattle.plan_pieces.specs.Names.{named}
use Rattle.plan_pieces.proofs.JoinLaws.{names-placed}
use Rattle.plan_drawing.specs.declared.effects.PlanEffects.{PlanEffects}
use Rattle.plan_drawing.specs.Drawn.{IsDrawn, blocks_drawn, nodes_drawn}
use Rattle.plan_drawing.specs.Recounts.{puts_of, recounts}
use Rattle.plan_drawing.proofs.NewLaws.{all-blocks, news-here, next-known, puts-edits}
use Rattle.plan_drawing.proofs.FileLaws.{laid-high}
use Rattle.plan_drawing.proofs.RecountLaws.{blocks-left, each-put, each-with, edits-append, entry-has, extra-append, puts-append, puts-extra, recounts-edits, recounts-extra, recounts-stand, steady-slot, sum-places}
use Rattle.plan_placing.specs.Known.{IsKnown}
use Rattle.file_planner.specs.Holding.{IsOver}
use Rattle.file_planner.proofs.AfterLaws.{AllLaid, once-beside, standing-fewer}
use Rattle.file_planner.proofs.OverLaws.{taken-over}
use Rattle.file_planner.proofs.PlacedLaws.{all-each, each-all, laid-taken, laid-wholes, laid-within, sealed-long, stands-back, stands-front, standing-once, written-long}

-- ---- numbers of references

changed-key : (k : ℕ) (cs : List RefChange) (c : RefChange) → change_of k cs ≡ Some c → (c.key ≡ k) × ((P : RefChange → Type 0) → All P cs → P c)
changed-key k [] c h = absurd (none-some h)
  where
    none-some : ◌≡◌ {A = Option RefChange} None (Some c) → ⊥
    none-some e = cc
changed-key k (x ∷ cs) c h = elim (cases_eq x.key k) [
  | inl same ↦
      let is : x ≡ c = some-one (sym (ap (λ (b : Bool). if b then Some x else change_of k cs) (eq-eqb x.key k same)) ∙ h) in
      (sym (ap (λ (r : RefChange). r.key) is) ∙ same, λ P all. subst P is (All-head P x cs all))
  | inr other ↦
      let rest = changed-key k cs c (sym (ap (λ (b : Bool). if b then Some x else change_of k cs) (ne_eqb x.key k other)) ∙ h) in
      (rest.0, λ P all. rest.1 P (All-tail P x cs all))
]
  where
    some-one : ◌≡◌ {A = Option RefChange} (Some x) (Some c) → x ≡ c
    some-one e = cc

-- each number after is that of the change, or as before
pub numbers-by : (counts : ℕ → ℕ) (taken put : List ℕ) (cs : List RefChange) → AreRefChanges counts taken put cs → (k : ℕ) → number_by (change_of k cs) (counts k) ≡ number_after counts taken put k
numbers-by counts taken put cs are k = by (change_of k cs) refl
  where
    by : (o : Option RefChange) → change_of k cs ≡ o → number_by o (counts k) ≡ number_after counts taken put k
    by None e = sym (are.others k e)
    by (Some c) e =
        let is = changed-key k cs c e in
        let own : IsRefChange counts taken put c = is.1 (IsRefChange counts taken put) are.each in
        own.after ∙ ap (number_after counts taken put) is.0

-- ---- entries

pub stand-each : (file : List ℕ) (eof : ℕ) (es : List BlockEntry) → AllStand file eof es → Each (Stands file eof) es
stand-each file eof [] all = tt
stand-each file eof (e ∷ es) all = (all.0, stand-each file eof es all.1)

pub each-stand : (file : List ℕ) (eof : ℕ) (es : List BlockEntry) → Each (Stands file eof) es → AllStand file eof es
each-stand file eof [] all = tt
each-stand file eof (e ∷ es) all = (all.0, each-stand file eof es all.1)

pub unless-edited : {E : Type 0} (P : E → Type 0) (f : E → Option (Option E)) (es : List E) → Each P es → Each (λ e. f e ≡ None → P e) es
unless-edited P f [] all = tt
unless-edited P f (e ∷ es) all = ((λ none. all.0), unless-edited P f es all.1)

keys-in : (blocks : List (Bid × List ℕ)) → map (λ block. key_of (block.0).bits) blocks ≡ keys_of (bids_in blocks)
keys-in [] = refl
keys-in (b ∷ bs) = ap (λ (l : List ℕ). key_of (b.0).bits ∷ l) (keys-in bs)

each-found : (find : ℕ → Option (List ℕ)) (blocks : List (Bid × List ℕ)) → All (IsFound find) blocks → Each (λ block. find (key_of (block.0).bits) ≡ Some block.1) blocks
each-found find [] all = tt
each-found find (b ∷ bs) all = (All-head (IsFound find) b bs all, each-found find bs (All-tail (IsFound find) b bs all))

each-as : (f g : ℕ → Option (List ℕ)) (blocks : List (Bid × List ℕ)) → ((k : ℕ) → g k ≡ f k) → Each (λ block. f (key_of (block.0).bits) ≡ Some block.1) blocks → Each (λ block. g (key_of (block.0).bits) ≡ Some block.1) blocks
each-as f g [] same all = tt
each-as f g (b ∷ bs) same all = (same (key_of (b.0).bits) ∙ all.0, each-as f g bs same all.1)

-- what is the same behind the header is the same behind another
same-behind : (sealed file mid : List ℕ) (eof : ℕ) → length sealed ≡ 564 → (ps : List Place) → EachPlace (IsPlace eof) ps → EachPlace (SameAt file mid) ps → EachPlace (SameAt file (sealed ++ drop 564 mid)) ps
same-behind sealed file mid eof size [] places same = tt
same-behind sealed file mid eof size (p ∷ ps) places same = (behind sealed mid p.ib p.len size (let a = (places.0).above in omega (arith, a)) ∙ same.0, same-behind sealed file mid eof size ps places.1 same.1)

module _ {header : Header} {file : List ℕ} {m : NodeMap} (is : Lays header file m) {slots all : List Bool} {counts : ℕ → ℕ} {pages block page : ℕ} {cs : List (Nid × Option NodeRec)} {pieces : List Piece} {sealed : List ℕ} {next : Header} {e : PlanEffects} (known : IsKnown is slots counts pages block page) (over : IsOver slots all) (low : block < 2 ^ 61) (d : IsDrawn is all counts pages block page cs pieces sealed next e) where
  -- the places of new pages, and then of blocks
  abbrev pub new_places : List Place
  new_places = (d.first_places ++ d.last_places) ++ d.block_places

  -- the edits of the block tree
  abbrev pub block_edits : List (ℕ × Option BlockEntry)
  block_edits = recounts (blocks_in is.blocks) block e.refs.items ++ puts_of d.entries

  -- the numbers of references after it
  abbrev pub numbers : ℕ → ℕ
  numbers k = number_after counts (d.sketch).taken (d.sketch).put k

  pub old-below : (k : ℕ) (o : BlockEntry) → entry_with entry_key k (blocks_in is.blocks) ≡ Some o → k < block
  old-below k o found =
      let all = (next-known header (blocks_in is.blocks) block known.next_block low).3 in
      let few : ((o.at).bid).bits + 4 ≤ block + 3 = each-with (λ (x : BlockEntry). ((x.at).bid).bits + 4 ≤ block + 3) entry_key k (blocks_in is.blocks) o all found in
      let own = entry-has entry_key k (blocks_in is.blocks) o found in
      omega (arith, few, own)

  pub block-apart : block % 4 ≡ 0
  block-apart = (next-known header (blocks_in is.blocks) block known.next_block low).0

  pub new-edits : AreEdits entry_key block (2 ^ 64) (puts_of d.entries)
  new-edits = puts-edits block (2 ^ 64) d.blocks d.entries d.block_pieces block-apart (let a = d.next_block in let b = d.block_high in omega (arith, a, b)) (d.sketch).rise d.sealed_blocks

  pub old-edits : AreEdits entry_key 0 block (recounts (blocks_in is.blocks) block e.refs.items)
  old-edits = recounts-edits (blocks_in is.blocks) block 0 (2 ^ 64) e.refs.items ((d.sketch).changed).ascend

  pub all-edits : AreEdits entry_key 0 (2 ^ 64) block_edits
  all-edits = edits-append entry_key 0 block (2 ^ 64) (recounts (blocks_in is.blocks) block e.refs.items) (puts_of d.entries) (omega arith) (omega (arith, low)) old-edits new-edits

  -- what a plan says of the trees
  abbrev pub planned : IsPlanned is (blocks_drawn d) (nodes_drawn d)
  planned = record {
    block_edits = all-edits;
    block_plan = ((d.block_tree).plans).plan;
    node_edits = (d.sketch).node_edits;
    node_plan = ((d.node_tree).plans).plan;
    some = λ k. ltb 0 (numbers k);
    left = blocks-left (blocks_in is.blocks) block (2 ^ 64) e.refs.items (puts_of d.entries) counts numbers ((d.sketch).changed).ascend new-edits old-below (numbers-by counts (d.sketch).taken (d.sketch).put e.refs.items (d.sketch).changed);
    needs = left-needs (found_in file (blocks_in is.blocks)) header.eof (nodes_in is.nodes) d.edits counts (λ k. count_of k (d.sketch).put) (λ k. ltb 0 (numbers k)) known.refs
        (λ k some. lt-ltb 0 (numbers k) (let same = ((d.sketch).contents).taken_are k in omega (arith, some, same)));
    block_places = d.block_places;
    counted = λ slot.
        let f : BlockEntry → ℕ = λ o. one_at slot (place_of o) in
        let a = extra-append entry_key f (blocks_in is.blocks) (recounts (blocks_in is.blocks) block e.refs.items) (puts_of d.entries) in
        let b = recounts-extra f (steady-slot slot) (blocks_in is.blocks) block e.refs.items in
        let c = puts-extra f (blocks_in is.blocks) d.entries in
        let x = sum-places slot d.entries in
        let y = ap (tally slot) d.of_entries in
        omega (arith, a, b, c, x, y);
  }

  pub next-header : IsNext header next sealed (blocks_drawn d) (nodes_drawn d)
  next-header = record {
    size = d.size;
    read = d.read;
    unmapped = d.unmapped;
    small_enough = d.few;
    longer = ((d.end).reaches).longer;
    bbt = d.bbt;
    nbt = d.nbt;
  }

  -- ---- where it stands

  pub first-long : EachPlace (λ p. p.len ≡ 512) d.first_places
  first-long = subst (EachPlace (λ p. p.len ≡ 512)) (d.block_tree).placed (written-long key_of 24 block_of 0x80 (named page d.first_places) 0 d.block_pages d.first_pieces (d.block_tree).written)

  pub last-long : EachPlace (λ p. p.len ≡ 512) d.last_places
  last-long = subst (EachPlace (λ p. p.len ≡ 512)) (d.node_tree).placed (written-long node_key 32 node_of 0x81 (named (page + length d.block_pages) d.last_places) 0 d.node_pages d.last_pieces (d.node_tree).written)

  pub places-at : map piece_place ((d.first_pieces ++ d.last_pieces) ++ d.block_pieces) ≡ new_places
  places-at =
      map-append piece_place (d.first_pieces ++ d.last_pieces) d.block_pieces
      ∙ ap (λ (l : List Place). l ++ map piece_place d.block_pieces) (map-append piece_place d.first_pieces d.last_pieces ∙ ap (λ (l : List Place). l ++ map piece_place d.last_pieces) (d.block_tree).placed ∙ ap (λ (l : List Place). d.first_places ++ l) (d.node_tree).placed)
      ∙ ap (λ (l : List Place). (d.first_places ++ d.last_places) ++ l) d.at_blocks

  some-bytes : (ps : List Place) → EachPlace (λ p. p.len ≡ 512) ps → EachPlace (λ p. 64 ≤ p.len) ps
  some-bytes [] all = tt
  some-bytes (p ∷ ps) all = (let a = all.0 in omega (arith, a), some-bytes ps all.1)

  pub taken-all : Taken all (d.placed).now new_places
  taken-all = taken-both all (d.placed).mid (d.placed).now d.block_places (d.first_places ++ d.last_places) (d.placed).first (d.placed).then_pages

  pub new-laid : AllLaid 8192 new_places
  new-laid = laid-taken all (d.placed).now new_places (over.size ∙ known.size) taken-all
      (each_append (λ p. 64 ≤ p.len) (d.first_places ++ d.last_places) d.block_places
      (each_append (λ p. 64 ≤ p.len) d.first_places d.last_places (some-bytes d.first_places first-long) (some-bytes d.last_places last-long))
      (subst (EachPlace (λ p. 64 ≤ p.len)) d.at_blocks (sealed-long d.blocks d.entries d.block_pieces d.sealed_blocks)))

  pub new-places-in : EachPlace (IsPlace next.eof) new_places
  new-places-in = laid-within 8192 next.eof new_places new-laid (all-each (λ p. p.ib + p.len ≤ next.eof) new_places ((d.end).reaches).holds)

  -- among the slots of the file alone, the new places are taken too
  pub own : (own : List Bool) × Taken slots own new_places
  own = taken-over slots all (d.placed).now new_places over taken-all

  -- they meet no place of trees whose slots were used
  once-over : {h : Header} {n : NodeMap} (t : Lays h file n) (used : List Bool) → length used ≡ 3968 * 8192 → IsCovered (occupied (places_of t.blocks t.nodes) 8192) used → IsOver used all → Once (new_places ++ standing (places_of t.blocks t.nodes) 8192)
  once-over t used size covered more =
      let taken = taken-over used all (d.placed).now new_places more taken-all in
      once-beside (places_of t.blocks t.nodes) new_places used taken.0 size covered (standing-once t) taken.1 new-laid

  pub once-new : Once (new_places ++ standing (places_of is.blocks is.nodes) 8192)
  once-new = once-over is slots known.size known.used over

  once-in : {h : Header} {n : NodeMap} (t : Lays h file n) → Once (new_places ++ standing (places_of t.blocks t.nodes) 8192) → Once (new_places ++ standing (places_of t.blocks t.nodes) (regions_to next.eof))
  once-in t once =
      let few : regions_to next.eof ≤ 8192 = let a = d.few in omega (arith, a) in
      let sum : regions_to next.eof + (8192 - regions_to next.eof) ≡ 8192 = omega (arith, few) in
      standing-fewer new_places (places_of t.blocks t.nodes) (regions_to next.eof) (8192 - regions_to next.eof) (subst (λ (k : ℕ). Once (new_places ++ standing (places_of t.blocks t.nodes) k)) (sym sum) once)

  pub first-at : places_in (blocks_drawn d) ≡ d.first_places
  first-at = names-placed page d.first_places d.block_pages (d.block_tree).count (each-all (λ p. p.len ≡ 512) d.first_places first-long)

  pub last-at : places_in (nodes_drawn d) ≡ d.last_places
  last-at = names-placed (page + length d.block_pages) d.last_places d.node_pages (d.node_tree).count (each-all (λ p. p.len ≡ 512) d.last_places last-long)

  -- the pieces that aren't growth
  abbrev pub drawn_pieces : List Piece
  drawn_pieces = (d.first_pieces ++ d.last_pieces) ++ d.block_pieces

  -- the places of the new pages and blocks
  abbrev pub drawn_places : List Place
  drawn_places = places_in (blocks_drawn d) ++ (places_in (nodes_drawn d) ++ d.block_places)

  -- the pieces have room beside trees of the file whose slots were used
  pub room-over : {h : Header} {n : NodeMap} (t : Lays h file n) → h.eof ≡ header.eof → (used : List Bool) → length used ≡ 3968 * 8192 → IsCovered (occupied (places_of t.blocks t.nodes) 8192) used → IsOver used all → HasRoom t next d.growth drawn_pieces drawn_places
  room-over {h} {n} t end used size covered more =
      let beside = growth-beside h.eof d.growth (places_of t.blocks t.nodes) (laid-high t) (subst (λ (k : ℕ). AllGrow k d.growth) (sym end) d.grows) (lays_places h file n t) in
      record {
        once = subst (λ (l : List Place). Once (l ++ standing (places_of t.blocks t.nodes) (regions_to next.eof))) (sym places-at) (once-in t (once-over t used size covered more));
        same = λ slot.
            let a = tally_append slot (places_in (blocks_drawn d)) (places_in (nodes_drawn d) ++ d.block_places) in
            let b = tally_append slot (places_in (nodes_drawn d)) d.block_places in
            let c = ap (tally slot) first-at in
            let f = ap (tally slot) last-at in
            let g = ap (tally slot) places-at in
            let h = tally_append slot (d.first_places ++ d.last_places) d.block_places in
            let i = tally_append slot d.first_places d.last_places in
            omega (arith, a, b, c, f, g, h, i);
        wholes = subst (EachPlace IsWhole) (sym places-at) (laid-wholes 8192 new_places new-laid);
        front = beside.0;
        beside = beside.1;
        grows = λ mid writes holds. elim (cases_lt header.eof next.eof) [
          | inl longer ↦ grown-long next.eof mid d.growth drawn_pieces (d.ends longer) holds
          | inr same ↦ let a = is.long_enough in let b = writes.longer in omega (arith, same, a, b)
        ];
      }

  pub has-room : HasRoom is next d.growth drawn_pieces drawn_places
  has-room = room-over is refl slots known.size known.used over

  -- so that these keep their pages and blocks
  pub kept-over : {h : Header} {n : NodeMap} (t : Lays h file n) → h.eof ≡ header.eof → (used : List Bool) → length used ≡ 3968 * 8192 → IsCovered (occupied (places_of t.blocks t.nodes) 8192) used → IsOver used all
      → (mid : List ℕ) → Scattered (d.growth ++ drawn_pieces) file mid → EachPlace (SameAt file (sealed ++ drop 564 mid)) (places_of t.blocks t.nodes)
  kept-over {h} {n} t end used size covered more mid writes =
      let places : List Place = places_of t.blocks t.nodes in
      let C : Place → Type 0 = λ p. IsClear (d.growth ++ drawn_pieces) p.ib p.len in
      let longer : h.eof ≤ next.eof = let a = ((d.end).reaches).longer in omega (arith, a, end) in
      let beside : EachPlace C (standing places (regions_to h.eof)) = planned-beside t next d.growth drawn_pieces drawn_places longer (room-over t end used size covered more) in
      same-behind sealed file mid h.eof d.size places (lays_places h file n t)
      (scattered_same (d.growth ++ drawn_pieces) file mid h.eof writes t.long_enough places (lays_places h file n t) (each_front C places (amap_places (regions_to h.eof)) beside))

  -- ---- what it shows

  module _ (bytes : List ℕ) (kept : EachPlace (SameAt file bytes) (places_of is.blocks is.nodes)) (stood : EachStands bytes drawn_pieces) where
    blocks-kept : EachPlace (SameAt file bytes) (map place_of (blocks_in is.blocks))
    blocks-kept = each_back (SameAt file bytes) (map page_place (is.blocks.pages ++ is.nodes.pages)) (map place_of (blocks_in is.blocks)) kept

    block-stood : EachStands bytes d.block_pieces
    block-stood = stands-back bytes (d.first_pieces ++ d.last_pieces) d.block_pieces stood

    first-stood : EachStands bytes d.first_pieces
    first-stood = stands-front bytes d.first_pieces d.last_pieces (stands-front bytes (d.first_pieces ++ d.last_pieces) d.block_pieces stood)

    last-stood : EachStands bytes d.last_pieces
    last-stood = stands-back bytes d.first_pieces d.last_pieces (stands-front bytes (d.first_pieces ++ d.last_pieces) d.block_pieces stood)

    old-stand : Each (Stands bytes next.eof) (blocks_in is.blocks)
    old-stand = stand-each bytes next.eof (blocks_in is.blocks) (all_kept file bytes header.eof next.eof ((d.end).reaches).longer (blocks_in is.blocks) blocks-kept is.stand)

    new-stand : Each (Stands bytes next.eof) d.entries
    new-stand = all-sealed bytes next.eof d.blocks d.entries d.block_pieces d.sealed_blocks
        (subst (EachPlace (IsPlace next.eof)) (sym d.of_entries) (each_back (IsPlace next.eof) (d.first_places ++ d.last_places) d.block_places new-places-in)) block-stood

    pub edits-stand : EachPut (Stands bytes next.eof) block_edits
    edits-stand = puts-append (Stands bytes next.eof) (recounts (blocks_in is.blocks) block e.refs.items) (puts_of d.entries)
        (recounts-stand bytes next.eof (blocks_in is.blocks) block e.refs.items old-stand) (each-put (Stands bytes next.eof) d.entries new-stand)

    all-stand : AllStand bytes next.eof (edited entry_key (blocks_in is.blocks) block_edits)
    all-stand = each-stand bytes next.eof (edited entry_key (blocks_in is.blocks) block_edits)
        (each-edited (Stands bytes next.eof) entry_key 0 (2 ^ 64) (blocks_in is.blocks) block_edits all-edits
        (unless-edited (Stands bytes next.eof) (λ o. edit_at (entry_key o) block_edits) (blocks_in is.blocks) old-stand) edits-stand)

    once-entries : Once (map place_of (edited entry_key (blocks_in is.blocks) block_edits))
    once-entries = once_reordered (new_places ++ standing (places_of is.blocks is.nodes) 8192) (map place_of (edited entry_key (blocks_in is.blocks) block_edits))
        (λ slot.
        let f : BlockEntry → ℕ = λ o. one_at slot (place_of o) in
        let a = sum-edited entry_key f 0 (2 ^ 64) (blocks_in is.blocks) block_edits all-edits in
        let b = planned.counted slot in
        let c = sum-places slot (edited entry_key (blocks_in is.blocks) block_edits) in
        let g = sum-places slot (blocks_in is.blocks) in
        let h = tally_append slot new_places (standing (places_of is.blocks is.nodes) 8192) in
        let i = tally_append slot (d.first_places ++ d.last_places) d.block_places in
        let j = tally_append slot (places_of is.blocks is.nodes) (amap_places 8192) in
        let k = tally_append slot (map page_place (is.blocks.pages ++ is.nodes.pages)) (map place_of (blocks_in is.blocks)) in
        omega (arith, a, b, c, g, h, i, j, k)) once-new

    -- no data is longer than the file
    bounds : Bounds (found_after bytes (blocks_in is.blocks) block_edits) next.eof
    bounds blocks all once =
        data-fit bytes next.eof (edited entry_key (blocks_in is.blocks) block_edits) blocks
        (each-as (found_after bytes (blocks_in is.blocks) block_edits) (λ k. data_of bytes (entry_with entry_key k (edited entry_key (blocks_in is.blocks) block_edits))) blocks
        (λ k. ap (data_of bytes) (with-edited entry_key 0 (2 ^ 64) k (blocks_in is.blocks) block_edits all-edits))
        (each-found (found_after bytes (blocks_in is.blocks) block_edits) blocks all))
        (λ k. subst (λ (l : List ℕ). count_of k l ≤ 1) (sym (keys-in blocks)) (once k))
        (blocks_places bytes next.eof (edited entry_key (blocks_in is.blocks) block_edits) all-stand) once-entries

    -- blocks that are referred to still have the bytes from before
    pub still : (k : ℕ) (b : List ℕ) → ltb 0 (numbers k) ≡ true → found_in file (blocks_in is.blocks) k ≡ Some b → found_after bytes (blocks_in is.blocks) block_edits k ≡ Some b
    still = still-found file bytes (blocks_in is.blocks) block_edits (λ k. ltb 0 (numbers k)) blocks-kept planned.left

    stay : StayFound (found_in file (blocks_in is.blocks)) (found_after bytes (blocks_in is.blocks) block_edits) (d.sketch).put
    stay k b some found = still k b (lt-ltb 0 (numbers k) (omega (arith, some))) found

    -- each new block is found
    pub new-found : All (IsFound (found_after bytes (blocks_in is.blocks) block_edits)) d.blocks
    new-found = all-here bytes (blocks_in is.blocks) block_edits d.blocks (all-blocks _ d.blocks (news-here bytes block 0 (recounts (blocks_in is.blocks) block e.refs.items) d.blocks d.entries d.block_pieces block-apart (d.sketch).rise d.sealed_blocks block-stood old-edits))

    pub contents-shown : AreChanged (found_after bytes (blocks_in is.blocks) block_edits) next.eof (nodes_in is.nodes) d.edits cs × ((k : ℕ) → count_of k (d.sketch).put ≡ put (found_after bytes (blocks_in is.blocks) block_edits) d.edits k)
    contents-shown = ((d.sketch).contents).shows (found_after bytes (blocks_in is.blocks) block_edits) next.eof new-found stay bounds

    pub shows : Shows is next (blocks_drawn d) (nodes_drawn d) cs bytes
    shows = record {
      block_pages = pages-shown block_of (block_tree bytes next.eof) (named page d.first_places) 0 d.block_pages d.first_pieces (d.block_tree).written
          (subst (EachPlace (IsPlace next.eof)) (sym first-at) (each_front (IsPlace next.eof) d.first_places d.last_places (each_front (IsPlace next.eof) (d.first_places ++ d.last_places) d.block_places new-places-in))) first-stood;
      node_pages = pages-shown node_of (node_tree bytes next.eof) (named (page + length d.block_pages) d.last_places) 0 d.node_pages d.last_pieces (d.node_tree).written
          (subst (EachPlace (IsPlace next.eof)) (sym last-at) (each_back (IsPlace next.eof) d.first_places d.last_places (each_front (IsPlace next.eof) (d.first_places ++ d.last_places) d.block_places new-places-in))) last-stood;
      stand = edits-stand;
      changes = contents-shown.0;
    }
