-- How many bytes a drawn plan writes.
use Rattle.std.proofs.Common.{Bool, true, ◌≡◌, ◌∙◌, ◌⊎◌, inl, inr, ℕ, ◌+◌, ◌-◌, ◌*◌, ◌^◌, ◌<◌, ◌≤◌, List, [], ◌∷◌, ◌++◌, length, map, get_or, take, drop, Option, Some, None, Ok, refl, sym, ap, subst, arith, length-append}
use Rattle.std.proofs.Math.Nat.{mul-le-mul_left}
use Rattle.std.specs.List.{All}
use Rattle.std.proofs.lemmas.Bool.{cases_lt, le-ltb, lt-ltb}
use Rattle.std.proofs.lemmas.List.{length-map}
use Rattle.std.proofs.lemmas.List.Elements.{All-head, All-tail}
use Rattle.pst_base.specs.declared.ids.Bid.{Bid}
use Rattle.pst_base.specs.declared.ids.Bref.{Bref}
use Rattle.pst_base.specs.declared.ids.Nid.{Nid}
use Rattle.pst_base.specs.Ids.{key_of}
use Rattle.pst_header.specs.declared.header.Header.{Header}
use Rattle.pst_header.specs.Format.{reading}
use Rattle.block_frame.specs.Size.{disk_size_of}
use Rattle.btree_pages.specs.declared.entry.BlockEntry.{BlockEntry}
use Rattle.btree_pages.specs.declared.entry.NodeEntry.{NodeEntry}
use Rattle.btree_pages.specs.Entries.{block_of, node_of, node_key}
use Rattle.btree_pages.specs.EntryLaws.{key-block_of, key-node_of}
use Rattle.file_blocks.specs.Blocks.{entry_key, found_in}
use Rattle.file_layout.specs.Nodes.{Lays, NodeMap, block_tree, blocks_in, node_tree, nodes_in}
use Rattle.file_layout.specs.Trees.{Found}
use Rattle.file_pages.specs.InFile.{IsShapedRoot}
use Rattle.file_pages.proofs.Bridge.{shaped-root}
use Rattle.lays_kept.specs.declared.Piece.{Piece}
use Rattle.lays_kept.specs.Kept.{HoldsEach, SameAt, Scattered}
use Rattle.lays_kept.proofs.Kept.{pages_back, pages_front}
use Rattle.node_layout.specs.Joined.{AreChanged, node_id}
use Rattle.node_layout.specs.Lookups.{Each, sum_of}
use Rattle.node_layout.specs.Sealed.{AreSealed}
use Rattle.node_layout.specs.Written.{AreWritten}
use Rattle.node_port.specs.declared.node.NodeRec.{NodeRec}
use Rattle.node_port.specs.Nodes.{ascend}
use Rattle.pst_commit.specs.Commit.{bytes_in}
use Rattle.tree_edit.specs.declared.plan.PlanPage.{PlanPage}
use Rattle.tree_edit.specs.Edits.{AreEdits, entry_with}
use Rattle.tree_edit.specs.Shapes.{RiseIn}
use Rattle.ref_counts.specs.declared.table.RefChange.{RefChange}
use Rattle.ref_counts.specs.Changes.{IsRefChange}
use Rattle.plan_pieces.specs.Growth.{regions_in}
use Rattle.plan_drawing.specs.declared.effects.PlanEffects.{PlanEffects}
use Rattle.plan_drawing.specs.Drawn.{IsDrawn}
use Rattle.plan_drawing.specs.Recounts.{edit_of, puts_of, recounts}
use Rattle.plan_drawing.proofs.FileLaws.{same-length}
use Rattle.plan_drawing.proofs.NewLaws.{sealed-count}
use Rattle.plan_placing.specs.Known.{IsKnown}
use Rattle.file_planner.specs.Cost.{AreFewPages, IsWithin}
use Rattle.file_planner.specs.Follows.{references}
use Rattle.file_planner.specs.Holding.{IsOver}
use Rattle.file_planner.specs.New.{entries_from}
use Rattle.file_planner.proofs.DrawnLaws
use Rattle.file_planner.proofs.FollowLaws
use Rattle.file_planner.proofs.KnownLaws
use Rattle.file_planner.proofs.NewLaws.{changed-anew, names-new, pages-high}
use Rattle.file_planner.proofs.PageLaws.{pages-count}

bytes-append : (ps qs : List Piece) → bytes_in (ps ++ qs) ≡ bytes_in ps + bytes_in qs
bytes-append [] qs = omega arith
bytes-append (p ∷ ps) qs = let h = bytes-append ps qs in omega (arith, h)

bytes-sum : (ps : List Piece) → bytes_in ps ≡ sum_of (λ (p : Piece). length p.bytes) ps
bytes-sum [] = refl
bytes-sum (p ∷ ps) = let h = bytes-sum ps in omega (arith, h)

-- a page has 512 bytes
page-bytes : {E : Type 0} (rule : ℕ → ℕ) (size : ℕ) (entry_of : List ℕ → E) (kind : ℕ) (name : ℕ → Bref) (from : ℕ) (pages : List (PlanPage E)) (pieces : List Piece) → AreWritten rule size entry_of kind name from pages pieces → bytes_in pieces ≡ 512 * length pages
page-bytes rule size entry_of kind name from [] pieces are = ap bytes_in are
page-bytes rule size entry_of kind name from (p ∷ ps) [] are = absurd are
page-bytes rule size entry_of kind name from (p ∷ ps) (q ∷ qs) are =
    let long : length q.bytes ≡ 512 = (are.0).sealed.0 in
    let h = page-bytes rule size entry_of kind name (from + 1) ps qs are.1 in
    omega (arith, long, h)

-- and a block 8192 at most
block-bytes : (blocks : List (Bid × List ℕ)) (entries : List BlockEntry) (pieces : List Piece) → AreSealed blocks entries pieces → bytes_in pieces ≤ 8192 * length blocks
block-bytes [] entries pieces are = let none = ap bytes_in are.1 in omega (arith, none)
block-bytes (b ∷ bs) [] pieces are = absurd are
block-bytes (b ∷ bs) (e ∷ es) [] are = absurd are
block-bytes (b ∷ bs) (e ∷ es) (p ∷ ps) are =
    let size = (are.0).size in
    let short = (are.0).short in
    let few = some-bytes (length b.1) (length p.bytes) (omega (arith, size, short)) (are.0).sealed.0 in
    let h = block-bytes bs es ps are.1 in
    omega (arith, few, h)
  where
    some-bytes : (n k : ℕ) → n ≤ 8176 → k ≡ disk_size_of n → k ≤ 8192
    some-bytes n k short is = omega (arith, short, is)

-- each change has at most one edit
edits-few : (find : ℕ → Option (List ℕ)) (eof : ℕ) (es : List NodeEntry) (ds : List (ℕ × Option NodeEntry)) (cs : List (Nid × Option NodeRec)) → AreChanged find eof es ds cs → length ds ≤ length cs
edits-few find eof es ds [] is = let none = ap length is in omega (arith, none)
edits-few find eof es ds (c ∷ cs) (inl h) =
    let rest = edits-few find eof es h.1 cs h.5 in
    let all = ap length h.2 in
    omega (arith, rest, all)
edits-few find eof es ds (c ∷ cs) (inr h) = let rest = edits-few find eof es ds cs h.2 in omega (arith, rest)

-- keys of edits
edit-keys : {E : Type 0} (key : E → ℕ) (low mid high : ℕ) (ds : List (ℕ × Option E)) → mid ≤ high → AreEdits key low mid ds → RiseIn low high (map (λ (x : ℕ × Option E). x.0) ds)
edit-keys key low mid high [] le are = tt
edit-keys key low mid high (x ∷ ds) le are = let lt = are.1 in (are.0, omega (arith, lt, le), edit-keys key (x.0 + 1) mid high ds le are.3)

-- each edit of an old block is of the key of a change
edit-key : (P : ℕ → Type 0) (o : Option BlockEntry) (c : RefChange) (rest : List (ℕ × Option BlockEntry)) → P c.key → Each P (map (λ (x : ℕ × Option BlockEntry). x.0) rest) → Each P (map (λ (x : ℕ × Option BlockEntry). x.0) (edit_of o c ++ rest))
edit-key P None c rest own all = all
edit-key P (Some e) c rest own all = (own, all)

recount-keys : (P : ℕ → Type 0) (es : List BlockEntry) (next : ℕ) (cs : List RefChange) → All (λ (c : RefChange). P c.key) cs → Each P (map (λ (x : ℕ × Option BlockEntry). x.0) (recounts es next cs))
recount-keys P es next [] all = tt
recount-keys P es next (c ∷ cs) all =
    let rest = recount-keys P es next cs (All-tail (λ (x : RefChange). P x.key) c cs all) in
    elim (cases_lt c.key next) [
      | inl lt ↦ rw (lt-ltb c.key next lt) (edit-key P (entry_with entry_key c.key es) c (recounts es next cs) (All-head (λ (x : RefChange). P x.key) c cs all) rest)
      | inr le ↦ rw (le-ltb c.key next le) rest
    ]

all-as : (P Q : RefChange → Type 0) (cs : List RefChange) → ((c : RefChange) → P c → Q c) → All P cs → All Q cs
all-as P Q cs step all = λ k d lt. step (get_or cs k d) (all k d lt)

-- a bound for more keys
few-more : (level keys more limit : ℕ) (now : List Bref) (pages : ℕ) → keys ≤ more → AreFewPages level keys limit now pages → AreFewPages level more limit now pages
few-more level keys more limit now pages le (inl few) = inl (more-times (2 * (level + 2)) few)
  where
    more-times : (n : ℕ) → pages ≤ n * keys → pages ≤ n * more
    more-times n few = let m = mul-le-mul_left n le in omega (arith, few, m)
few-more level keys more limit now pages le (inr anew) = inr (record { many = let many = anew.many in omega (arith, many, le); new = anew.new; count = anew.count })

-- what a drawn plan writes, of the file that has its pieces
module _ {header : Header} {file : List ℕ} {m : NodeMap} (is : Lays header file m) {slots all : List Bool} {counts : ℕ → ℕ} {pages block page : ℕ} {cs : List (Nid × Option NodeRec)} {pieces : List Piece} {sealed : List ℕ} {next : Header} {e : PlanEffects} (known : IsKnown is slots counts pages block page) (over : IsOver slots all) (low : block < 2 ^ 61) (page_low : page < 2 ^ 61) (d : IsDrawn is all counts pages block page cs pieces sealed next e)
    (long : 564 ≤ length file) (mid : List ℕ) (writes : Scattered (d.growth ++ DrawnLaws.drawn_pieces is known over low d) file mid) (holds : HoldsEach mid (d.growth ++ DrawnLaws.drawn_pieces is known over low d)) {n : NodeMap} (now : Lays next (sealed ++ drop 564 mid) n) (up : ascend 0 cs ≡ true) where
  abbrev bytes : List ℕ
  bytes = sealed ++ drop 564 mid

  abbrev old : List BlockEntry
  old = blocks_in is.blocks

  abbrev changes : List RefChange
  changes = e.refs.items

  -- the number of references of a key before, and now
  abbrev before_refs : ℕ → ℕ
  before_refs k = references (found_in file old) (nodes_in is.nodes) k

  abbrev now_refs : ℕ → ℕ
  now_refs k = references (found_in bytes (blocks_in now.blocks)) (nodes_in now.nodes) k

  abbrev old_keys : List ℕ
  old_keys = map (λ (x : ℕ × Option BlockEntry). x.0) (recounts old block changes)

  differ : Each (λ (k : ℕ). before_refs k ≡ now_refs k → ⊥) old_keys
  differ = recount-keys (λ (k : ℕ). before_refs k ≡ now_refs k → ⊥) old block changes
      (all-as (IsRefChange counts (d.sketch).taken (d.sketch).put) (λ (c : RefChange). before_refs c.key ≡ now_refs c.key → ⊥) changes
      (λ c own same.
      own.differs (own.before ∙ known.refs c.key ∙ same ∙ sym (FollowLaws.refs-now is known over low page_low d long mid writes holds now up c.key)
      ∙ DrawnLaws.numbers-by counts (d.sketch).taken (d.sketch).put changes (d.sketch).changed c.key ∙ sym own.after)) ((d.sketch).changed).each)

  abbrev sb : IsShapedRoot block_of entry_key (block_tree file header.eof) header.bbt is.blocks
  sb = shaped-root block_of entry_key (block_tree file header.eof) key-block_of header.bbt is.blocks is.block_pages

  abbrev sn : IsShapedRoot node_of node_id (node_tree file header.eof) header.nbt is.nodes
  sn = shaped-root node_of node_id (node_tree file header.eof) key-node_of header.nbt is.nodes is.node_pages

  count : length (recounts old block changes ++ puts_of d.entries) ≡ length old_keys + length d.blocks
  count =
      let a = length-append (recounts old block changes) (puts_of d.entries) in
      let b : length (puts_of d.entries) ≡ length d.entries = length-map d.entries _ in
      let c = sealed-count d.blocks d.entries d.block_pieces d.sealed_blocks in
      let f : length old_keys ≡ length (recounts old block changes) = length-map (recounts old block changes) _ in
      omega (arith, a, b, c, f)

  -- a tree of which all pages are freed
  block-few : AreFewPages sb.level (length old_keys + length d.blocks) page now.blocks.pages (length d.block_pages)
  block-few = subst (λ (k : ℕ). AreFewPages sb.level k page now.blocks.pages (length d.block_pages)) count
      (elim (((d.block_tree).plans).bound old is.blocks.pages sb) [
        | inl few ↦ inl few
        | inr anew ↦ inr (record {
          many = anew.many;
          new = subst (λ (f : Found). Each (λ (at : Bref). page ≤ (at.bid).bits) f.pages) (sym (KnownLaws.block-tree-is is known over low page_low d long mid writes holds now))
              (changed-anew (KnownLaws.bs is known over low page_low d long mid writes holds) header.bbt is.block_pages (pages_front (SameAt file bytes) is.blocks.pages is.nodes.pages (KnownLaws.page-kept is known over low page_low d long mid writes holds))
              (KnownLaws.has is known over low page_low d long mid writes holds).block_pages anew.all (λ (at : Bref). page ≤ (at.bid).bits)
              (subst (Each (λ (at : Bref). page ≤ (at.bid).bits)) (sym (names-new page d.first_places d.block_pages (d.block_tree).count)) (pages-high page page d.first_places (omega arith))));
          count =
              let all = pages-count (KnownLaws.bs is known over low page_low d long mid writes holds) in
              let gone = same-length d.block_freed is.blocks.pages anew.all in
              let same = ap (λ (f : Found). length f.pages) (KnownLaws.block-tree-is is known over low page_low d long mid writes holds now) in
              omega (arith, all, gone, same);
        })
      ])

  node-few : AreFewPages sn.level (length cs) page now.nodes.pages (length d.node_pages)
  node-few =
      let has = KnownLaws.has is known over low page_low d long mid writes holds in
      let stood = KnownLaws.stood is known over low page_low d long mid writes holds in
      let few = edits-few (KnownLaws.after is known over low page_low d long mid writes holds) next.eof (nodes_in is.nodes) d.edits cs (DrawnLaws.contents-shown is known over low d bytes has.kept stood).0 in
      few-more sn.level (length d.edits) (length cs) page now.nodes.pages (length d.node_pages) few
      (elim (((d.node_tree).plans).bound (nodes_in is.nodes) is.nodes.pages sn) [
        | inl few ↦ inl few
        | inr anew ↦ inr (record {
          many = anew.many;
          new = subst (λ (f : Found). Each (λ (at : Bref). page ≤ (at.bid).bits) f.pages) (sym (KnownLaws.node-tree-is is known over low page_low d long mid writes holds now))
              (changed-anew (KnownLaws.ns is known over low page_low d long mid writes holds) header.nbt is.node_pages (pages_back (SameAt file bytes) is.blocks.pages is.nodes.pages (KnownLaws.page-kept is known over low page_low d long mid writes holds))
              has.node_pages anew.all (λ (at : Bref). page ≤ (at.bid).bits)
              (subst (Each (λ (at : Bref). page ≤ (at.bid).bits)) (sym (names-new (page + length d.block_pages) d.last_places d.node_pages (d.node_tree).count)) (pages-high page (page + length d.block_pages) d.last_places (omega arith))));
          count =
              let all = pages-count (KnownLaws.ns is known over low page_low d long mid writes holds) in
              let gone = same-length d.node_freed is.nodes.pages anew.all in
              let same = ap (λ (f : Found). length f.pages) (KnownLaws.node-tree-is is known over low page_low d long mid writes holds now) in
              omega (arith, all, gone, same);
        })
      ])

  within : bytes_in pieces ≤ 8192 * length d.blocks + 512 * (length d.block_pages + length d.node_pages) + 1537 * (regions_in next.eof - regions_in header.eof)
  within =
      let all : bytes_in pieces ≡ bytes_in d.growth + ((bytes_in d.first_pieces + bytes_in d.last_pieces) + bytes_in d.block_pieces) =
      ap bytes_in d.pieces_are ∙ bytes-append d.growth ((d.first_pieces ++ d.last_pieces) ++ d.block_pieces)
      ∙ ap (λ (n : ℕ). bytes_in d.growth + n) (bytes-append (d.first_pieces ++ d.last_pieces) d.block_pieces ∙ ap (λ (n : ℕ). n + bytes_in d.block_pieces) (bytes-append d.first_pieces d.last_pieces)) in
      let first = page-bytes key_of 24 block_of 0x80 _ 0 d.block_pages d.first_pieces (d.block_tree).written in
      let last = page-bytes node_key 32 node_of 0x81 _ 0 d.node_pages d.last_pieces (d.node_tree).written in
      let blocks = block-bytes d.blocks d.entries d.block_pieces d.sealed_blocks in
      let grown = bytes-sum d.growth in
      let growth = d.growth_few in
      omega (arith, all, first, last, blocks, grown, growth)

  pub drawn-within : reading (take 564 file) ≡ Ok header → reading (take 564 bytes) ≡ Ok next → IsWithin file bytes cs (bytes_in pieces)
  drawn-within was read = record {
    before = header;
    was = was;
    m = m;
    lays = is;
    after = next;
    is = read;
    n = n;
    now_lays = now;
    of_blocks = sb;
    of_nodes = sn;
    recounted = old_keys;
    ascend = edit-keys entry_key 0 block (2 ^ 64) (recounts old block changes) (omega (arith, low)) (DrawnLaws.old-edits is known over low d);
    differ = differ;
    blocks = length d.blocks;
    blocks_are =
        sym (sealed-count d.blocks d.entries d.block_pieces d.sealed_blocks) ∙ sym (ap length (KnownLaws.new-entries is known over low page_low d long mid writes holds now))
        ∙ ap (λ (k : ℕ). length (entries_from k (blocks_in now.blocks))) known.next_block;
    few = let few = (d.sketch).few in omega (arith, few);
    block_pages = length d.block_pages;
    few_blocks = subst (λ (k : ℕ). AreFewPages sb.level (length old_keys + length d.blocks) k now.blocks.pages (length d.block_pages)) known.next_page block-few;
    node_pages = length d.node_pages;
    few_nodes = subst (λ (k : ℕ). AreFewPages sn.level (length cs) k now.nodes.pages (length d.node_pages)) known.next_page node-few;
    pages_are = let a = d.next_page in let b = known.next_page in omega (arith, a, b);
    within = within;
  }
