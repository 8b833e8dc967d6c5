-- Two files lay one set of nodes at most, and a refusal excludes every tree.
use Rattle.std.proofs.Common.{◌≡◌, inl, inr, ◌∙◌, ℕ, ◌^◌, nat_le, Bool, true, false, cond, eqb, List, [], ◌∷◌, Option, Some, Result, Ok, Err, if◌then◌else◌, refl, sym, ap, subst, Ordering, Less, Equal, Greater, ◌||◌}
use Rattle.std.proofs.lemmas.Bool.{cases_eq, eq-eqb, ne_eqb}
use Rattle.std.specs.Ordering.{nat_cmp, eq_by_cmp, is_eq}
use Rattle.std.specs.Cmp.{nat_cmp_total, eq_by_cmp_equiv, ranked}
use Rattle.std.specs.FinMap as map
use Rattle.pst_outside.specs.World.{Image}
use Rattle.pst_header.specs.declared.header.Header.{Header}
use Rattle.file_blocks.specs.Blocks.{file_of}
use Rattle.file_layout.specs.Nodes.{Lays, Node, NodeMap, block_tree, blocks_in, node_tree}
use Rattle.file_layout.specs.Numbers.{is_spent, next_block}
use Rattle.file_layout.specs.Opening.{opening}
use Rattle.file_layout.specs.Trees.{Found}
use Rattle.file_layout.specs.declared.stops.OpenRefusal.{OpenRefusal}
use Rattle.file_layout.specs.declared.stops.OpenStop.{OpenStop}
use Rattle.file_layout.specs.declared.stops.OpenStop.TheVariants as scans
use Rattle.file_scan.specs.Found.{IsFound}
use Rattle.file_scan.specs.Scan.{IsRefused, StopsScan}
use Rattle.file_scan.specs.declared.scan.FoundFile.{FoundFile}
use Rattle.file_scan.proofs.ScanLaws.{lays-once, whole-once}
use Rattle.node_port.specs.Nodes.{Nodes, get-set_at, no_nodes, node_at, set_at}
use Rattle.node_port.specs.declared.node.NodeRec.{NodeRec}
use Rattle.lays_kept.specs.Stands.{AreThose, node_with, rec_of}
use Rattle.mail_searches.specs.Searching.{Searching}
use Rattle.node_port.specs.declared.keeper.KeepStop.TheVariants as keep
use Rattle.store_open.specs.Opening.{ShowsFresh, ShowsSearches, StopsLook, StopsTree}
use Rattle.store_open.specs.declared.stops.TreeStop.{TreeStop}
use Rattle.store_open.specs.declared.stops.TreeStop.TheVariants as trees
use Rattle.file_open.specs.Opening.{LaysNodes, ReadsFresh, ReadsTree, StopsLooking, StopsOpening, spent_in}
use Rattle.file_open.specs.Stops.{of_scan, of_tree}

-- ---- nodes of a map

equal-is : (r : Ordering) → is_eq r ≡ true → r ≡ Equal
equal-is Less h = cc
equal-is Equal h = refl
equal-is Greater h = cc

compared : (q k : ℕ) → eq_by_cmp nat_cmp q k ≡ eqb k q
compared q k = elim (cases_eq k q) [
  | inl same ↦ subst (λ (n : ℕ). eq_by_cmp nat_cmp n k ≡ eqb k n) same ((eq_by_cmp_equiv nat_cmp_total).refl k ∙ sym (eq-eqb k k refl))
  | inr other ↦ by (eq_by_cmp nat_cmp q k) refl other ∙ sym (ne_eqb k q other)
]
  where
    by : (b : Bool) → eq_by_cmp nat_cmp q k ≡ b → (k ≡ q → ⊥) → b ≡ false
    by false e other = refl
    by true e other = absurd (other (sym (ranked q k Equal (sym (equal-is (nat_cmp q k) e)))))

abbrev nodes_of : List Node → Nodes
nodes_of [] = no_nodes
nodes_of (n ∷ ns) = set_at (nodes_of ns) n.nid (Some (rec_of n))

each_node : (ns : List Node) (q : ℕ) → node_at (nodes_of ns) q ≡ node_with q ns
each_node [] q = map.get-empty nat_cmp q
each_node (n ∷ ns) q =
    get-set_at (nodes_of ns) n.nid (Some (rec_of n)) q
    ∙ ap (λ (b : Bool). cond b (Some (rec_of n)) (node_at (nodes_of ns) q)) (compared q n.nid)
    ∙ ap (λ (o : Option NodeRec). if eqb n.nid q then Some (rec_of n) else o) (each_node ns q)

-- the nodes that a map has
pub some_nodes : (m : NodeMap) → (N : Nodes) × AreThose m N
some_nodes m = (nodes_of m.nodes, each_node m.nodes)

-- ---- once

ok_same : {E Y : Type 0} (x y : Y) → ◌≡◌ {A = Result Y E} (Ok x) (Ok y) → x ≡ y
ok_same x y h = cc

never : {E Y : Type 0} (r : Result Y E) (x : Y) (e : E) → r ≡ Ok x → r ≡ Err e → ⊥
never {E} {Y} r x e ok err = apart (sym ok ∙ err)
  where
    apart : ◌≡◌ {A = Result Y E} (Ok x) (Err e) → ⊥
    apart h = cc

pub header_once : (image : Image) (h g : Header) → opening image.main image.side ≡ Ok h → opening image.main image.side ≡ Ok g → h ≡ g
header_once image h g one two = ok_same h g (sym one ∙ two)

pub same_nodes : {image : Image} {N M : Nodes} {last next : List ℕ} → LaysNodes image N last → LaysNodes image M next → N ≡ M
same_nodes {image} {N} {M} a b =
    let h : a.header ≡ b.header = header_once image a.header b.header a.opened b.opened in
    let m : a.m ≡ b.m = lays-once b.header (file_of image) a.m b.m (subst (λ x. Lays x (file_of image) a.m) h a.lays) b.lays in
    map.same_map nat_cmp_total map.nat_cmp-IsAntisymmetric N M (λ q. a.those q ∙ ap (λ (x : NodeMap). node_with q x.nodes) m ∙ sym (b.those q))

spent_once : (h : Header) (file : List ℕ) (m n : NodeMap) (a : Lays h file m) (b : Lays h file n) → is_spent h a.blocks a.nodes ≡ is_spent h b.blocks b.nodes
spent_once h file m n a b =
    let blocks : a.blocks ≡ b.blocks = whole-once (block_tree file h.eof) h.bbt a.blocks b.blocks a.block_pages b.block_pages in
    let nodes : a.nodes ≡ b.nodes = whole-once (node_tree file h.eof) h.nbt a.nodes b.nodes a.node_pages b.node_pages in
    ap (λ (f : Found). is_spent h f a.nodes) blocks ∙ ap (λ (f : Found). is_spent h b.blocks f) nodes

-- the numbers of the files are used up or not, however their nodes are read
pub same_spent : (image : Image) (N M : Nodes) (last next : List ℕ) (a : LaysNodes image N last) (b : LaysNodes image M next) → spent_in image N last a ≡ spent_in image M next b
same_spent image N M last next a b =
    let h : a.header ≡ b.header = header_once image a.header b.header a.opened b.opened in
    subst (λ (g : Header). (l : Lays g (file_of image) b.m) → is_spent a.header (a.lays).blocks (a.lays).nodes ≡ is_spent g l.blocks l.nodes) h
    (λ l. spent_once a.header (file_of image) a.m b.m a.lays l) b.lays

-- ---- refusals

scan_excludes : (image : Image) (refusal : OpenRefusal) → IsRefused image refusal → (N : Nodes) (last : List ℕ) → LaysNodes image N last → ⊥
scan_excludes image refusal (inl bad) N last laid = never (opening image.main image.side) laid.header refusal laid.opened bad
scan_excludes image refusal (inr bad) N last laid = bad.none laid.m (subst (λ h. Lays h (file_of image) laid.m) (header_once image laid.header bad.header laid.opened bad.opened) laid.lays)

-- where the numbers are used up no tree is read that leaves some
pub spent_excludes : (image : Image) (N : Nodes) (last : List ℕ) (laid : LaysNodes image N last) → spent_in image N last laid ≡ true → (X : Searching) → ReadsFresh image X → ⊥
spent_excludes image N last laid spent X fresh =
    let r = fresh.reads in
    both (sym fresh.left ∙ same_spent image r.nodes N X.tree.last last r.laid laid ∙ spent)
  where
    both : false ≡ true → ⊥
    both h = cc

pub scan_stops : (image : Image) (stop : OpenStop) → StopsScan stop image → StopsOpening image (of_scan stop)
scan_stops image (scans.Refused refusal) is = (is, λ X fresh. scan_excludes image refusal is fresh.reads.nodes X.tree.last fresh.reads.laid)
scan_stops image scans.Fault is = tt
scan_stops image (scans.Changed ib stored computed) is = is
scan_stops image scans.Memory is = tt

pub tree_stops : (image : Image) (N : Nodes) (last : List ℕ) → LaysNodes image N last → (stop : TreeStop) → StopsTree N stop → StopsOpening image (of_tree stop)
tree_stops image N last laid (trees.Refused refusal) is = ((N, last, laid, is.0), λ X fresh. is.1 X (subst (λ M. ShowsFresh M X) (same_nodes fresh.reads.laid laid) fresh.reads.shows))
tree_stops image N last laid (trees.Kept keep.Fault) is = tt
tree_stops image N last laid (trees.Kept (keep.Changed ib stored computed)) is = is
tree_stops image N last laid (trees.Kept keep.Memory) is = tt

-- ---- refusals of a look

pub scan_stops_look : (image : Image) (stop : OpenStop) → StopsScan stop image → StopsLooking image (of_scan stop)
scan_stops_look image (scans.Refused refusal) is = (is, λ X reads. scan_excludes image refusal is reads.nodes X.tree.last reads.laid)
scan_stops_look image scans.Fault is = tt
scan_stops_look image (scans.Changed ib stored computed) is = is
scan_stops_look image scans.Memory is = tt

pub tree_stops_look : (image : Image) (N : Nodes) (last : List ℕ) → LaysNodes image N last → (stop : TreeStop) → StopsLook N stop → StopsLooking image (of_tree stop)
tree_stops_look image N last laid (trees.Refused refusal) is = ((N, last, laid, is.0), λ X reads. is.1 X (subst (λ M. ShowsSearches M X) (same_nodes reads.laid laid) reads.shows))
tree_stops_look image N last laid (trees.Kept keep.Fault) is = tt
tree_stops_look image N last laid (trees.Kept (keep.Changed ib stored computed)) is = is
tree_stops_look image N last laid (trees.Kept keep.Memory) is = tt

-- ---- what a scan finds

abbrev pub laid_found : (image : Image) (found : FoundFile) (is : IsFound image found) (N : Nodes) → AreThose is.nodes N → LaysNodes image N found.header.indexes
laid_found image found is N those = record { header = found.header; opened = is.opened; m = is.nodes; lays = is.lays; those = those; counters = refl }

-- its next numbers are those of the files
pub spent_found : (image : Image) (found : FoundFile) (is : IsFound image found) (N : Nodes) (those : AreThose is.nodes N)
    → (nat_le (2 ^ 61) found.next_block || nat_le (2 ^ 61) found.next_page) ≡ spent_in image N found.header.indexes (laid_found image found is N those)
spent_found image found is N those =
    ap (λ n. nat_le (2 ^ 61) n || nat_le (2 ^ 61) found.next_page) is.next_block
    ∙ ap (λ n. nat_le (2 ^ 61) (next_block found.header (blocks_in (is.lays).blocks)) || nat_le (2 ^ 61) n) is.next_page
