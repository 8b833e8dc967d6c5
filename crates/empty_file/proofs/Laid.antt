-- The parts of a file without nodes, once they are written, make one.
use Rattle.std.proofs.Common.{◌≡◌, ◌∙◌, ℕ, ◌≤◌, List, [], ◌∷◌, length, take, drop, Ok, refl, sym, ap, subst, arith}
use Rattle.std.proofs.lemmas.Bool.{ne_eqb, le-ltb}
use Rattle.pst_base.specs.declared.ids.Bref.{Bref}
use Rattle.pst_outside.specs.World.{Image}
use Rattle.pst_header.specs.declared.header.Header.{Header}
use Rattle.pst_header.specs.Format.{reading}
use Rattle.page_frame.specs.Page.{IsPage}
use Rattle.btree_pages.specs.Pages.{Page}
use Rattle.gate_file.specs.Effective.{effective}
use Rattle.gate_file.specs.Gate.{IsShut, SameStore}
use Rattle.file_blocks.specs.Blocks.{file_of}
use Rattle.file_layout.specs.Nodes.{NodeMap, Lays, block_tree, node_tree, regions_to}
use Rattle.file_layout.specs.Opening.{opening, of_header}
use Rattle.file_layout.specs.Trees.{FileTree, IsPlace, IsWhole, page_place, root_seat}
use Rattle.file_layout.proofs.SeatLaws.{page_in-ok}
use Rattle.lays_kept.specs.declared.Piece.{Piece}
use Rattle.lays_kept.specs.Kept.{HoldsEach, Scattered}
use Rattle.lays_kept.proofs.Gates.{shut_file, short_side}
use Rattle.lays_kept.proofs.Opened.{front_is}
use Rattle.lays_kept.proofs.Renewed.{page_stands}
use Rattle.pst_commit.specs.Commit.{Writes}
use Rattle.empty_file.specs.Empty.{AreParts, IsFirst, IsPagePart, IsRootPart, IsVacant, LaysNothing, HasFixedPages, alone, block_root, node_root, last_part}
use Rattle.empty_file.proofs.Rising.{Rise, Stand, all-stand}
use Rattle.empty_file.proofs.Apart.{roots-apart}

-- ---- each part stands

-- the parts by their places
abbrev pub listed : {header : Header} {parts : List Piece} → AreParts header parts → List Piece
listed is = is.head ∷ is.dense ∷ is.map ∷ is.page_map ∷ is.blocks ∷ is.nodes ∷ last_part ∷ []

parts-rise : {header : Header} {parts : List Piece} (is : AreParts header parts) → Rise 0 (listed is)
parts-rise is =
    let a = is.is_head.place in
    let b = is.is_head.size in
    let c = is.is_dense.place in
    let d = is.is_dense.sealed.0 in
    let e = is.is_map.place in
    let f = is.is_map.sealed.0 in
    let g = is.is_page_map.place in
    let h = is.is_page_map.sealed.0 in
    let i = is.is_blocks.page.place in
    let j = is.is_blocks.page.sealed.0 in
    let k = is.is_nodes.page.place in
    let l = is.is_nodes.page.sealed.0 in
    (omega arith, (omega (arith, a, b, c), (omega (arith, c, d, e), (omega (arith, e, f, g), (omega (arith, g, h, i), (omega (arith, i, j, k), (omega (arith, k, l), tt)))))))

pub parts-stand : {header : Header} {parts : List Piece} (is : AreParts header parts) (file : List ℕ) → HoldsEach file parts → Stand file (listed is)
parts-stand is file holds = all-stand file 0 (listed is) (parts-rise is) (subst (HoldsEach file) is.are holds)

-- what stands at a page's place
page-there : (kind : ℕ) (at : Bref) (body : List ℕ) (part : Piece) (file : List ℕ) → IsPagePart kind at body part → take (length part.bytes) (drop part.at file) ≡ part.bytes → take 512 (drop at.ib file) ≡ part.bytes
page-there kind at body part file is here =
    ap (λ (n : ℕ). take n (drop at.ib file)) (sym is.sealed.0) ∙ ap (λ (k : ℕ). take (length part.bytes) (drop k file)) (sym is.place) ∙ here

-- ---- the trees

root-tree : (t : FileTree) (root : Bref) (part : Piece) → IsRootPart t.kind root t.rule t.leaf part → IsPlace t.eof (page_place root) → take (length part.bytes) (drop part.at t.file) ≡ part.bytes → IsWhole t root (alone root)
root-tree t root part is place here =
    let page : Page = record { level = 0; entries = [] } in
    record {
      level = 0;
      low_enough = omega arith;
      tree = (
        page,
        page_stands t (root_seat root) page is.body part.bytes is.page.sealed place (page_in-ok t.rule t.leaf (root_seat root) is.body page is.reads refl refl) (page-there t.kind root is.body part t.file is.page here),
        refl,
        refl,
      );
    }

-- the node map of a header, without nodes
abbrev pub no_nodes : Header → NodeMap
no_nodes header = record { counters = header.indexes; nodes = [] }

-- a file with both roots
abbrev pub lays-none : (header : Header) (file : List ℕ) → IsFirst header → 271360 ≤ length file → IsWhole (block_tree file 271360) block_root (alone block_root) → IsWhole (node_tree file 271360) node_root (alone node_root) → Lays header file (no_nodes header)
lays-none header file is long blocks nodes = record {
  long_enough = let e = is.eof in omega (arith, e, long);
  small_enough = let e = is.eof in omega (arith, e);
  blocks = alone block_root;
  block_pages = subst (λ (e : ℕ). IsWhole (block_tree file e) header.bbt (alone block_root)) (sym is.eof) (subst (λ (r : Bref). IsWhole (block_tree file 271360) r (alone block_root)) (sym is.bbt) blocks);
  stand = tt;
  nodes = alone node_root;
  node_pages = subst (λ (e : ℕ). IsWhole (node_tree file e) header.nbt (alone node_root)) (sym is.eof) (subst (λ (r : Bref). IsWhole (node_tree file 271360) r (alone node_root)) (sym is.nbt) nodes);
  are = refl;
  apart = λ slot. roots-apart (regions_to header.eof) slot;
  counters = refl;
}

-- ---- the opening

opens : (main side : List ℕ) (header : Header) → 564 ≤ length main → length side ≤ 580 → reading (take 564 (effective main side)) ≡ Ok header → opening main side ≡ Ok header
unfolding opening
opens main side header long short reads =
    rw (ne_eqb (length main) 0 (λ none. omega (arith, none, long)), le-ltb 580 (length side) short, le-ltb (length main) 564 long) (ap (λ r. of_header r) (ap reading (sym (front_is main side)) ∙ reads))

-- ---- both files

-- the same bytes once the gate is shut, over a Side that had none
same-main : {old new : Image} → old.side ≡ [] → SameStore old new → IsShut new.side → new.main ≡ old.main
same-main {old} {new} none same shut = sym (shut_file new.main new.side shut) ∙ same.store ∙ ap (λ (s : List ℕ). effective old.main s) none

-- a file whose parts stand, behind a shut gate
stands-none : {header : Header} {parts : List Piece} (image : Image) → IsFirst header → AreParts header parts → IsShut image.side → HoldsEach image.main parts → LaysNothing header image
stands-none {header} {parts} image is are shut holds =
    let main : List ℕ = image.main in
    let stand : Stand main (listed are) = parts-stand are main holds in
    let size = are.is_head.size in
    let place = are.is_head.place in
    let reach = stand.1 in
    let long : 564 ≤ length main = omega (arith, size, place, reach) in
    let end : 271360 ≤ length main = stand.2.2.2.2.2.2.1 in
    let front : take 564 main ≡ are.head.bytes = ap (λ (n : ℕ). take n main) (sym size) ∙ ap (λ (k : ℕ). take (length are.head.bytes) (drop k main)) (sym place) ∙ stand.0 in
    let whole : effective main image.side ≡ main = shut_file main image.side shut in
    let reads : reading (take 564 (effective main image.side)) ≡ Ok header = ap (λ (f : List ℕ). reading (take 564 f)) whole ∙ ap reading front ∙ are.is_head.reads in
    let blocks : IsWhole (block_tree main 271360) block_root (alone block_root) = root-tree (block_tree main 271360) block_root are.blocks are.is_blocks (record { above = omega arith; start = refl; whole = refl; before = omega arith }) stand.2.2.2.2.0 in
    let nodes : IsWhole (node_tree main 271360) node_root (alone node_root) = root-tree (node_tree main 271360) node_root are.nodes are.is_nodes (record { above = omega arith; start = refl; whole = refl; before = omega arith }) stand.2.2.2.2.2.0 in
    record {
      opened = opens main image.side header long (short_side image.side shut) reads;
      nodes = no_nodes header;
      none = refl;
      lays = lays-none header (file_of image) is (subst (λ (f : List ℕ). 271360 ≤ length f) (sym whole) end) (subst (λ (f : List ℕ). IsWhole (block_tree f 271360) block_root (alone block_root)) (sym whole) blocks) (subst (λ (f : List ℕ). IsWhole (node_tree f 271360) node_root (alone node_root)) (sym whole) nodes);
      blocks = refl;
      roots = refl;
    }

-- the file once the gate is shut
pub laid : {header : Header} {parts : List Piece} {old mid new : Image} → IsFirst header → AreParts header parts → IsVacant old → Writes (Scattered parts old.main) old mid → HoldsEach mid.main parts → SameStore mid new → IsShut new.side → LaysNothing header new
laid {header} {parts} {old} {mid} {new} is are vacant writes holds same shut =
    stands-none new is are shut (subst (λ (f : List ℕ). HoldsEach f parts) (sym (same-main (writes.others.0 ∙ vacant.side) same shut)) holds)

-- and its fixed pages
pub fixed-pages : {header : Header} {parts : List Piece} {old mid new : Image} → AreParts header parts → IsVacant old → Writes (Scattered parts old.main) old mid → HoldsEach mid.main parts → SameStore mid new → IsShut new.side → HasFixedPages new.main
fixed-pages {header} {parts} {old} {mid} {new} are vacant writes holds same shut =
    let main : List ℕ = mid.main in
    let stand : Stand main (listed are) = parts-stand are main holds in
    let all : HasFixedPages main = record {
      dense = subst (IsPage 0x86 _ _) (sym (page-there _ _ _ are.dense main are.is_dense stand.2.0)) are.is_dense.sealed;
      map = subst (IsPage 0x84 _ _) (sym (page-there _ _ _ are.map main are.is_map stand.2.2.0)) are.is_map.sealed;
      page_map = subst (IsPage 0x83 _ _) (sym (page-there _ _ _ are.page_map main are.is_page_map stand.2.2.2.0)) are.is_page_map.sealed;
    } in
    subst HasFixedPages (sym (same-main (writes.others.0 ∙ vacant.side) same shut)) all

-- Side has no bytes while Main is written
pub none-behind : {parts : List Piece} {old mid : Image} → IsVacant old → Writes (Scattered parts old.main) old mid → length mid.side ≡ 0
none-behind vacant writes = ap length (writes.others.0 ∙ vacant.side)

-- and Main reaches behind a header
pub header-fits : {header : Header} {parts : List Piece} (file : List ℕ) → AreParts header parts → HoldsEach file parts → 564 ≤ length file
header-fits file are holds =
    let stand : Stand file (listed are) = parts-stand are file holds in
    let size = are.is_head.size in
    let place = are.is_head.place in
    let reach = stand.1 in
    omega (arith, size, place, reach)
