-- Where the pages and blocks of a file stand, and that writes beside them leave them.
use Rattle.std.proofs.Common.{Bool, true, false, ◌≡◌, ℕ, zero, suc, ◌+◌, ◌%◌, ◌<◌, ◌≤◌, leb, eqb, ltb, ◌&&◌, List, [], ◌∷◌, ◌++◌, length, take, drop, map, Some, None, refl, sym, subst, arith, ⊎_elim, if◌then◌else◌}
use Rattle.std.proofs.lemmas.Bool.{and_parts, leb-true, eqb-true, cases_eq}
use Rattle.pst_base.specs.declared.ids.Bref.{Bref}
use Rattle.pst_base.specs.declared.places.Place.{Place}
use Rattle.block_frame.specs.Block.{reading}
use Rattle.block_frame.specs.Size.{disk_size_of}
use Rattle.btree_pages.specs.Pages.{Page}
use Rattle.btree_pages.specs.declared.entry.BlockEntry.{BlockEntry}
use Rattle.file_blocks.specs.declared.check.BlockRefusal.TheVariants.{Length, Outside}
use Rattle.file_blocks.specs.Blocks.{has_room, misplaced, faulty, data_at, Stands, AllStand}
use Rattle.pst_header.specs.declared.header.Header.{Header}
use Rattle.file_layout.specs.declared.tree_pages.Seat.{Seat}
use Rattle.file_layout.specs.Trees.{IsPlace, page_place, page_places}
use Rattle.file_layout.specs.Trees.{FileTree, IsTreePage, Found, child_of, AreChildren, IsTree, root_seat}
use Rattle.file_layout.specs.Nodes.{NodeMap, Lays, block_tree, node_tree, blocks_in, place_of, places_of}
use Rattle.alloc_map.specs.Standing.{amap_place, amap_places}
use Rattle.lays_kept.specs.declared.Piece.{Piece}
use Rattle.lays_kept.specs.Kept.{Each, SameAt, IsClear, Scattered}
use Rattle.lays_kept.proofs.Beside.{IsWhole}
use Rattle.lays_kept.proofs.Kept.{unless_parts}

-- what each of two lists has, the longer one has
pub each_append : (P : Place → Type 0) (xs ys : List Place) → Each P xs → Each P ys → Each P (xs ++ ys)
each_append P [] ys all more = more
each_append P (x ∷ xs) ys all more = (all.0, each_append P xs ys all.1 more)

pages_append : (P : Place → Type 0) (xs ys : List Bref) → Each P (map page_place xs) → Each P (map page_place ys) → Each P (map page_place (xs ++ ys))
pages_append P [] ys all more = more
pages_append P (x ∷ xs) ys all more = (all.0, pages_append P xs ys all.1 more)

-- a page that stands is a place in the file
seat_place : (t : FileTree) (seat : Seat) (page : Page) → IsTreePage t seat page → IsPlace t.eof (record { ib = seat.at.ib; len = 512 })
seat_place t seat page is = record { above = is.stands.above; start = is.stands.multiple; whole = refl; before = is.stands.before }

-- and one of whole slots
seat_whole : (t : FileTree) (seat : Seat) (page : Page) → IsTreePage t seat page → IsWhole (record { ib = seat.at.ib; len = 512 })
seat_whole t seat page is = record { above = is.stands.above; start = is.stands.multiple; whole = refl; some = omega arith }

children_places : (P : Seat → Found → Type 0) (S : Place → Type 0) → ((seat : Seat) (found : Found) → P seat found → Each S (page_places found))
    → (rule : ℕ → ℕ) (n high : ℕ) (entries : List (List ℕ)) (found : Found) → AreChildren P rule n high entries found → Each S (page_places found)
children_places P S step rule n high [] found is = subst (λ (f : Found). Each S (page_places f)) (sym is) tt
children_places P S step rule n high (entry ∷ rest) found is =
    subst (λ (f : Found). Each S (page_places f)) (sym is.4)
    (pages_append S is.0.pages is.1.pages (step (child_of rule n high entry rest) is.0 is.2) (children_places P S step rule n high rest is.1 is.3))

-- all pages of a tree have what each page has that stands
tree_each : (t : FileTree) (S : Place → Type 0) → ((seat : Seat) (page : Page) → IsTreePage t seat page → S (record { ib = seat.at.ib; len = 512 }))
    → (n : ℕ) (seat : Seat) (found : Found) → IsTree t n seat found → Each S (page_places found)
tree_each t S own zero seat found is = subst (λ (f : Found). Each S (page_places f)) (sym is.3) (own seat is.0 is.1, tt)
tree_each t S own (suc n) seat found is =
    subst (λ (f : Found). Each S (page_places f)) (sym is.5) (own seat is.0 is.2, children_places (IsTree t n) S (tree_each t S own n) t.rule n seat.high is.0.entries is.1 is.4)

-- the pages of a tree are places in the file
pub tree_places : (t : FileTree) (n : ℕ) (seat : Seat) (found : Found) → IsTree t n seat found → Each (IsPlace t.eof) (page_places found)
tree_places t n seat found is = tree_each t (IsPlace t.eof) (seat_place t) n seat found is

tree_wholes : (t : FileTree) (n : ℕ) (seat : Seat) (found : Found) → IsTree t n seat found → Each IsWhole (page_places found)
tree_wholes t n seat found is = tree_each t IsWhole (seat_whole t) n seat found is

-- and so are the blocks
room_place : (eof cb ib : ℕ) → has_room eof (disk_size_of cb) ib ≡ true → IsPlace eof (record { ib = ib; len = disk_size_of cb })
room_place eof cb ib room =
    let one : (leb 0x4400 ib ≡ true) × ((eqb (ib % 64) 0 && leb (ib + disk_size_of cb) eof) ≡ true) = and_parts _ _ room in
    let two : (eqb (ib % 64) 0 ≡ true) × (leb (ib + disk_size_of cb) eof ≡ true) = and_parts _ _ one.1 in
    record { above = leb-true 0x4400 ib one.0; start = eqb-true (ib % 64) 0 two.0; whole = omega arith; before = leb-true (ib + disk_size_of cb) eof two.1 }

room_of : (long room : Bool) → (if long then Some Length else (if room then None else Some Outside)) ≡ None → room ≡ true
room_of true room h = absurd (cc)
room_of false false h = absurd (cc)
room_of false true h = refl

block_place : (file : List ℕ) (eof : ℕ) (e : BlockEntry) → Stands file eof e → IsPlace eof (place_of e)
unfolding data_at misplaced
block_place file eof e is =
    let parts = unless_parts (misplaced eof e) (faulty (reading e.cb e.at (take (disk_size_of e.cb) (drop e.at.ib file)))) is.0 is.1 in
    room_place eof e.cb e.at.ib (room_of (ltb 8176 e.cb) (has_room eof (disk_size_of e.cb) e.at.ib) parts.0)

pub blocks_places : (file : List ℕ) (eof : ℕ) (es : List BlockEntry) → AllStand file eof es → Each (IsPlace eof) (map place_of es)
blocks_places file eof [] all = tt
blocks_places file eof (e ∷ es) all = (block_place file eof e all.0, blocks_places file eof es all.1)

-- all places of a file that lays nodes
pub lays_places : (header : Header) (file : List ℕ) (m : NodeMap) (is : Lays header file m) → Each (IsPlace header.eof) (places_of is.blocks is.nodes)
lays_places header file m is =
    each_append (IsPlace header.eof) (map page_place (is.blocks.pages ++ is.nodes.pages)) (map place_of (blocks_in is.blocks))
    (pages_append (IsPlace header.eof) is.blocks.pages is.nodes.pages
    (tree_places (block_tree file header.eof) is.block_pages.level (root_seat header.bbt) is.blocks is.block_pages.tree)
    (tree_places (node_tree file header.eof) is.node_pages.level (root_seat header.nbt) is.nodes is.node_pages.tree))
    (blocks_places file header.eof (blocks_in is.blocks) is.stand)

blocks_wholes : (file : List ℕ) (eof : ℕ) (es : List BlockEntry) → AllStand file eof es → Each IsWhole (map place_of es)
blocks_wholes file eof [] all = tt
blocks_wholes file eof (e ∷ es) all =
    let place : IsPlace eof (place_of e) = block_place file eof e all.0 in
    (record { above = place.above; start = place.start; whole = place.whole; some = omega arith }, blocks_wholes file eof es all.1)

-- and each is of whole slots
pub lays_wholes : (header : Header) (file : List ℕ) (m : NodeMap) (is : Lays header file m) → Each IsWhole (places_of is.blocks is.nodes)
lays_wholes header file m is =
    each_append IsWhole (map page_place (is.blocks.pages ++ is.nodes.pages)) (map place_of (blocks_in is.blocks))
    (pages_append IsWhole is.blocks.pages is.nodes.pages
    (tree_wholes (block_tree file header.eof) is.block_pages.level (root_seat header.bbt) is.blocks is.block_pages.tree)
    (tree_wholes (node_tree file header.eof) is.node_pages.level (root_seat header.nbt) is.nodes is.node_pages.tree))
    (blocks_wholes file header.eof (blocks_in is.blocks) is.stand)

-- writes that are clear of places leave them
pub scattered_same : (pieces : List Piece) (old new : List ℕ) (eof : ℕ) → Scattered pieces old new → eof ≤ length old → (ps : List Place) → Each (IsPlace eof) ps → Each (λ p. IsClear pieces p.ib p.len) ps → Each (SameAt old new) ps
scattered_same pieces old new eof writes long [] places clear = tt
scattered_same pieces old new eof writes long (p ∷ ps) places clear =
    (writes.same p.ib p.len (omega (arith, places.0.before, long)) clear.0, scattered_same pieces old new eof writes long ps places.1 clear.1)

-- an AMap page among those of the first regions
pub each_amap : (P : Place → Type 0) (n r : ℕ) → r < n → Each P (amap_places n) → P (amap_place r)
unfolding amap_places
each_amap P zero r lt all = absurd (omega (arith, lt))
each_amap P (suc n) r lt all = ⊎_elim
    (λ (last : r ≡ n). subst (λ k. P (amap_place k)) (sym last) all.0)
    (λ (other : r ≡ n → ⊥). each_amap P n r (omega (arith, lt, other)) all.1)
    (cases_eq r n)
