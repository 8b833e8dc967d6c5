-- A file that lays nodes lays them still where other parts of it are written.
use Rattle.std.proofs.Common.{Bool, true, false, ◌≡◌, ◌∙◌, ℕ, zero, suc, ◌+◌, ◌%◌, ◌≤◌, leb, eqb, ltb, ◌&&◌, List, [], ◌∷◌, ◌++◌, length, take, drop, map, Option, Some, None, Result, Ok, refl, sym, ap, subst, arith, if◌then◌else◌}
use Rattle.std.proofs.lemmas.Bool.{and_parts, leb-true, le-leb}
use Rattle.std.proofs.lemmas.List.{take-take}
use Rattle.pst_base.specs.declared.ids.Bref.{Bref}
use Rattle.pst_base.specs.declared.places.Place.{Place}
use Rattle.page_frame.specs.Page.{IsPage}
use Rattle.btree_pages.specs.Pages.{Page}
use Rattle.btree_pages.specs.declared.entry.BlockEntry.{BlockEntry}
use Rattle.block_frame.specs.Block.{reading}
use Rattle.block_frame.specs.Size.{disk_size_of}
use Rattle.file_blocks.specs.declared.check.BlockRefusal.{BlockRefusal}
use Rattle.file_blocks.specs.declared.check.BlockRefusal.TheVariants.{Length, Outside}
use Rattle.file_blocks.specs.Blocks.{has_room, misplaced, faulty, unless, data_at, Stands, AllStand, entry_key, entry_with, data_of, found_in}
use Rattle.pst_header.specs.declared.header.Header.{Header}
use Rattle.file_layout.specs.declared.tree_pages.Seat.{Seat}
use Rattle.file_layout.specs.Trees.{FileTree, IsTreePage, Found, both, page_alone, leaf_of, child_of, AreChildren, IsTree, root_seat, page_place, page_places}
use Rattle.file_layout.specs.Nodes.{NodeMap, AreNodes, Lays, block_tree, node_tree, blocks_in, nodes_in, place_of, places_of}
use Rattle.lays_kept.specs.Kept.{Each, SameAt}
use Rattle.lays_kept.specs.Moved.{moved}

-- ---- lists of places

pub each_front : (P : Place → Type 0) (xs ys : List Place) → Each P (xs ++ ys) → Each P xs
each_front P [] ys all = tt
each_front P (x ∷ xs) ys all = (all.0, each_front P xs ys all.1)

pub each_back : (P : Place → Type 0) (xs ys : List Place) → Each P (xs ++ ys) → Each P ys
each_back P [] ys all = all
each_back P (x ∷ xs) ys all = each_back P xs ys all.1

-- ---- places of pages

pub pages_front : (P : Place → Type 0) (xs ys : List Bref) → Each P (map page_place (xs ++ ys)) → Each P (map page_place xs)
pages_front P [] ys all = tt
pages_front P (x ∷ xs) ys all = (all.0, pages_front P xs ys all.1)

pub pages_back : (P : Place → Type 0) (xs ys : List Bref) → Each P (map page_place (xs ++ ys)) → Each P (map page_place ys)
pages_back P [] ys all = all
pages_back P (x ∷ xs) ys all = pages_back P xs ys all.1

-- ---- trees of pages

page_kept : (t : FileTree) (new : List ℕ) (eof : ℕ) (seat : Seat) (page : Page) → t.eof ≤ eof → SameAt t.file new (record { ib = seat.at.ib; len = 512 })
    → IsTreePage t seat page → IsTreePage (moved t new eof) seat page
page_kept t new eof seat page longer same is = record {
  body = is.body;
  stands = record {
    multiple = is.stands.multiple;
    above = is.stands.above;
    before = omega (arith, is.stands.before, longer);
    framed = subst (λ b. IsPage t.kind seat.at is.body b) (sym same) is.stands.framed;
  };
  content = is.content;
}

children_kept : (P Q : Seat → Found → Type 0) (S : Place → Type 0) → ((seat : Seat) (found : Found) → Each S (page_places found) → P seat found → Q seat found)
    → (rule : ℕ → ℕ) (n high : ℕ) (entries : List (List ℕ)) (found : Found) → Each S (page_places found) → AreChildren P rule n high entries found → AreChildren Q rule n high entries found
children_kept P Q S step rule n high [] found all is = is
children_kept P Q S step rule n high (entry ∷ rest) found all is =
    let first : Found = is.0 in
    let later : Found = is.1 in
    let parts : Each S (map page_place (first.pages ++ later.pages)) = subst (λ (f : Found). Each S (page_places f)) is.4 all in (
      first,
      later,
      step (child_of rule n high entry rest) first (pages_front S first.pages later.pages parts) is.2,
      children_kept P Q S step rule n high rest later (pages_back S first.pages later.pages parts) is.3,
      is.4,
    )

-- a tree stands in another file, and under a later end, where the bytes of its pages are the same
pub tree_kept : (t : FileTree) (new : List ℕ) (eof : ℕ) → t.eof ≤ eof → (n : ℕ) (seat : Seat) (found : Found) → Each (SameAt t.file new) (page_places found)
    → IsTree t n seat found → IsTree (moved t new eof) n seat found
tree_kept t new eof longer zero seat found same is =
    let all : Each (SameAt t.file new) (page_places (both (page_alone seat) (leaf_of is.0.entries))) = subst (λ (f : Found). Each (SameAt t.file new) (page_places f)) is.3 same in
    (is.0, page_kept t new eof seat is.0 longer all.0 is.1, is.2, is.3)
tree_kept t new eof longer (suc n) seat found same is =
    let all : Each (SameAt t.file new) (page_places (both (page_alone seat) is.1)) = subst (λ (f : Found). Each (SameAt t.file new) (page_places f)) is.5 same in (
      is.0,
      is.1,
      page_kept t new eof seat is.0 longer all.0 is.2,
      is.3,
      children_kept (IsTree t n) (IsTree (moved t new eof) n) (SameAt t.file new) (tree_kept t new eof longer n) t.rule n seat.high is.0.entries is.1 all.1 is.4,
      is.5,
    )

-- ---- blocks

room_grows : (eof more len ib : ℕ) → eof ≤ more → has_room eof len ib ≡ true → has_room more len ib ≡ true
room_grows eof more len ib longer room =
    let one : (leb 0x4400 ib ≡ true) × ((eqb (ib % 64) 0 && leb (ib + len) eof) ≡ true) = and_parts _ _ room in
    let two : (eqb (ib % 64) 0 ≡ true) × (leb (ib + len) eof ≡ true) = and_parts _ _ one.1 in
    let low : ib + len ≤ more = omega (arith, leb-true (ib + len) eof two.1, longer) in
    rw (one.0, two.0, le-leb (ib + len) more low) refl

pub unless_parts : (o : Option BlockRefusal) (r : Result (List ℕ) BlockRefusal) (content : List ℕ) → unless o r ≡ Ok content → (o ≡ None) × (r ≡ Ok content)
unless_parts None r content h = (refl, h)
unless_parts (Some refusal) r content h = absurd (cc)

misplaced_grows : (long room more : Bool) → (room ≡ true → more ≡ true) → (if long then Some Length else (if room then None else Some Outside)) ≡ None
    → ◌≡◌ {A = Option BlockRefusal} (if long then Some Length else (if more then None else Some Outside)) None
misplaced_grows true room more grows h = absurd (cc)
misplaced_grows false false more grows h = absurd (cc)
misplaced_grows false true more grows h = rw (grows refl) refl

stands_kept : (old new : List ℕ) (eof more : ℕ) (e : BlockEntry) → eof ≤ more → SameAt old new (place_of e) → Stands old eof e → Stands new more e
unfolding data_at misplaced
stands_kept old new eof more e longer same is =
    let size : ℕ = disk_size_of e.cb in
    let parts = unless_parts (misplaced eof e) (faulty (reading e.cb e.at (take size (drop e.at.ib old)))) is.0 is.1 in
    let placed : misplaced more e ≡ None = misplaced_grows (ltb 8176 e.cb) (has_room eof size e.at.ib) (has_room more size e.at.ib) (room_grows eof more size e.at.ib longer) parts.0 in
    let read : faulty (reading e.cb e.at (take size (drop e.at.ib new))) ≡ Ok is.0 = ap (λ b. faulty (reading e.cb e.at b)) same ∙ parts.1 in
    (is.0, ap (λ o. unless o (faulty (reading e.cb e.at (take size (drop e.at.ib new))))) placed ∙ read)

pub all_kept : (old new : List ℕ) (eof more : ℕ) → eof ≤ more → (es : List BlockEntry) → Each (SameAt old new) (map place_of es) → AllStand old eof es → AllStand new more es
all_kept old new eof more longer [] same all = tt
all_kept old new eof more longer (e ∷ es) same all = (stands_kept old new eof more e longer same.0 all.0, all_kept old new eof more longer es same.1 all.1)

data_kept : (old new : List ℕ) (e : BlockEntry) → SameAt old new (place_of e) → data_of new (Some e) ≡ data_of old (Some e)
data_kept old new e same =
    let size : ℕ = disk_size_of e.cb in
    let least : e.cb ≤ size = omega arith in
    ap Some (sym (take-take e.cb size (drop e.at.ib new) least) ∙ ap (take e.cb) same ∙ take-take e.cb size (drop e.at.ib old) least)

-- each key finds the same data
pub found_kept : (old new : List ℕ) (es : List BlockEntry) → Each (SameAt old new) (map place_of es) → (key : ℕ) → found_in new es key ≡ found_in old es key
found_kept old new [] same key = refl
found_kept old new (e ∷ es) same key = by_key (found_kept old new es same.1 key) (eqb (entry_key e) key)
  where
    by_key : found_in new es key ≡ found_in old es key → (b : Bool) → data_of new (if b then Some e else entry_with key es) ≡ data_of old (if b then Some e else entry_with key es)
    by_key rest true = data_kept old new e same.0
    by_key rest false = rest

-- ---- the whole

-- a file lays the same nodes as another under the same header, where the bytes of its pages and blocks are the same
abbrev pub lays_kept : (header : Header) (old new : List ℕ) (m : NodeMap) (is : Lays header old m) → header.eof ≤ length new
    → Each (SameAt old new) (places_of is.blocks is.nodes) → Lays header new m
lays_kept header old new m is long same =
    let blocks : Found = is.blocks in
    let nodes : Found = is.nodes in
    let S : Place → Type 0 = SameAt old new in
    let pages : Each S (map page_place (blocks.pages ++ nodes.pages)) = each_front S (map page_place (blocks.pages ++ nodes.pages)) (map place_of (blocks_in blocks)) same in
    let own : Each S (map place_of (blocks_in blocks)) = each_back S (map page_place (blocks.pages ++ nodes.pages)) (map place_of (blocks_in blocks)) same in
    let find : found_in new (blocks_in blocks) ≡ found_in old (blocks_in blocks) = λ i key. found_kept old new (blocks_in blocks) own key i in
    record {
      long_enough = long;
      small_enough = is.small_enough;
      blocks = blocks;
      block_pages = record {
        level = is.block_pages.level;
        low_enough = is.block_pages.low_enough;
        tree = tree_kept (block_tree old header.eof) new header.eof (omega arith) is.block_pages.level (root_seat header.bbt) blocks (pages_front S blocks.pages nodes.pages pages) is.block_pages.tree;
      };
      stand = all_kept old new header.eof header.eof (omega arith) (blocks_in blocks) own is.stand;
      nodes = nodes;
      node_pages = record {
        level = is.node_pages.level;
        low_enough = is.node_pages.low_enough;
        tree = tree_kept (node_tree old header.eof) new header.eof (omega arith) is.node_pages.level (root_seat header.nbt) nodes (pages_back S blocks.pages nodes.pages pages) is.node_pages.tree;
      };
      are = subst (λ f. AreNodes f header.eof (nodes_in nodes) m.nodes) (sym find) is.are;
      apart = is.apart;
      counters = is.counters;
    }
