-- Where a plan's pages and blocks stand.
use Rattle.std.proofs.Common.{Bool, ◌≡◌, ℕ, ◌+◌, ◌-◌, ◌*◌, ◌≤◌, List, [], ◌∷◌, ◌++◌, length, map, sym, subst, arith}
use Rattle.std.specs.List.{All}
use Rattle.std.proofs.lemmas.List.Elements.{All-cons, All-head, All-nil, All-tail}
use Rattle.pst_base.specs.declared.ids.Bid.{Bid}
use Rattle.pst_base.specs.declared.ids.Bref.{Bref}
use Rattle.pst_base.specs.declared.places.Place.{Place}
use Rattle.pst_header.specs.declared.header.Header.{Header}
use Rattle.alloc_map.specs.Slots.{IsLaid, regions_of}
use Rattle.alloc_map.specs.Standing.{standing}
use Rattle.alloc_map.specs.Covered.{Once}
use Rattle.alloc_map.specs.Taken.{Taken}
use Rattle.block_frame.specs.Size.{disk_size_of}
use Rattle.btree_pages.specs.declared.entry.BlockEntry.{BlockEntry}
use Rattle.file_layout.specs.Nodes.{Lays, NodeMap, places_of, regions_to}
use Rattle.file_layout.specs.Trees.{IsPlace}
use Rattle.lays_kept.specs.declared.Piece.{Piece}
use Rattle.lays_kept.specs.Kept.{Each}
use Rattle.lays_kept.proofs.Beside.{IsWhole}
use Rattle.lays_kept.proofs.Once.{apart_once}
use Rattle.lays_kept.proofs.Places.{lays_places, lays_wholes}
use Rattle.node_layout.specs.Pieces.{EachStands, piece_place}
use Rattle.node_layout.specs.Sealed.{AreSealed}
use Rattle.node_layout.specs.Written.{AreWritten}
use Rattle.tree_edit.specs.declared.plan.PlanPage.{PlanPage}
use Rattle.file_planner.proofs.AfterLaws.{AllLaid, standing-more}

-- ---- lists

pub all-each : (P : Place → Type 0) (ps : List Place) → All P ps → Each P ps
all-each P [] all = tt
all-each P (p ∷ ps) all = (All-head P p ps all, all-each P ps (All-tail P p ps all))

pub each-all : (P : Place → Type 0) (ps : List Place) → Each P ps → All P ps
each-all P [] all = All-nil P
each-all P (p ∷ ps) all = All-cons P p ps all.0 (each-all P ps all.1)

pub stands-front : (file : List ℕ) (xs ys : List Piece) → EachStands file (xs ++ ys) → EachStands file xs
stands-front file [] ys all = tt
stands-front file (x ∷ xs) ys all = (all.0, stands-front file xs ys all.1)

pub stands-back : (file : List ℕ) (xs ys : List Piece) → EachStands file (xs ++ ys) → EachStands file ys
stands-back file [] ys all = all
stands-back file (x ∷ xs) ys all = stands-back file xs ys all.1

-- ---- what stands in a file that lays nodes

pub laid-of : (eof n : ℕ) (ps : List Place) → eof ≤ 0x4400 + 253952 * n → Each (IsPlace eof) ps → Each IsWhole ps → AllLaid n ps
laid-of eof n [] most places wholes = tt
laid-of eof n (p ∷ ps) most places wholes =
    let before = (places.0).before in
    (record { above = (places.0).above; start = (places.0).start; whole = (places.0).whole; within = omega (arith, before, most) }, (wholes.0).some, laid-of eof n ps most places.1 wholes.1)

pub laid-places : {header : Header} {file : List ℕ} {m : NodeMap} (is : Lays header file m) → AllLaid 8192 (places_of is.blocks is.nodes)
laid-places {header} {file} {m} is =
    laid-of header.eof 8192 (places_of is.blocks is.nodes) is.small_enough (lays_places header file m is) (lays_wholes header file m is)

regions-reach : (eof : ℕ) → eof ≤ 0x4400 + 253952 * regions_to eof
regions-reach eof = omega arith

regions-few : (eof : ℕ) → eof ≤ 0x4400 + 253952 * 8192 → regions_to eof ≤ 8192
regions-few eof most = omega (arith, most)

-- beside the AMap pages of all regions nothing is covered twice
pub standing-once : {header : Header} {file : List ℕ} {m : NodeMap} (is : Lays header file m) → Once (standing (places_of is.blocks is.nodes) 8192)
standing-once {header} {file} {m} is =
    let ps : List Place = places_of is.blocks is.nodes in
    let n : ℕ = regions_to header.eof in
    let few : n ≤ 8192 = regions-few header.eof is.small_enough in
    let sum : n + (8192 - n) ≡ 8192 = omega (arith, few) in
    subst (λ (k : ℕ). Once (standing ps k)) sum (standing-more ps n (8192 - n)
    (laid-of header.eof n ps (regions-reach header.eof) (lays_places header file m is) (lays_wholes header file m is))
    (apart_once (standing ps n) is.apart))

-- ---- pieces

-- a page has 512 bytes
pub written-long : {E : Type 0} (rule : ℕ → ℕ) (size : ℕ) (entry_of : List ℕ → E) (kind : ℕ) (name : ℕ → Bref) (from : ℕ) (pages : List (PlanPage E)) (pieces : List Piece) → AreWritten rule size entry_of kind name from pages pieces
    → Each (λ p. p.len ≡ 512) (map piece_place pieces)
written-long rule size entry_of kind name from [] pieces are = subst (λ (ps : List Piece). Each (λ p. p.len ≡ 512) (map piece_place ps)) (sym are) tt
written-long rule size entry_of kind name from (p ∷ ps) [] are = tt
written-long rule size entry_of kind name from (p ∷ ps) (q ∷ qs) are = ((are.0).sealed.0, written-long rule size entry_of kind name (from + 1) ps qs are.1)

-- a block has 64 at least
pub sealed-long : (blocks : List (Bid × List ℕ)) (entries : List BlockEntry) (pieces : List Piece) → AreSealed blocks entries pieces → Each (λ p. 64 ≤ p.len) (map piece_place pieces)
sealed-long [] entries pieces are = subst (λ (ps : List Piece). Each (λ p. 64 ≤ p.len) (map piece_place ps)) (sym are.1) tt
sealed-long (b ∷ bs) [] pieces are = absurd are
sealed-long (b ∷ bs) (e ∷ es) [] are = tt
sealed-long (b ∷ bs) (e ∷ es) (p ∷ ps) are = (some-bytes (length b.1) (length p.bytes) (are.0).sealed.0, sealed-long bs es ps are.1)
  where
    some-bytes : (n k : ℕ) → k ≡ disk_size_of n → 64 ≤ k
    some-bytes n k is = omega (arith, is)

-- ---- the new places

-- places that were taken are of whole slots, where each has some
pub laid-taken : (used now : List Bool) (ps : List Place) → length used ≡ 3968 * 8192 → Taken used now ps → Each (λ p. 64 ≤ p.len) ps → AllLaid 8192 ps
laid-taken used now ps size taken some =
    let regions : regions_of used ≡ 8192 = omega (arith, size) in
    go ps (all-each (IsLaid 8192) ps (subst (λ (n : ℕ). All (IsLaid n) ps) regions taken.laid)) some
  where
    go : (ps : List Place) → Each (IsLaid 8192) ps → Each (λ p. 64 ≤ p.len) ps → AllLaid 8192 ps
    go [] laid some = tt
    go (p ∷ ps) laid some = (laid.0, some.0, go ps laid.1 some.1)

pub laid-wholes : (n : ℕ) (ps : List Place) → AllLaid n ps → Each IsWhole ps
laid-wholes n [] laid = tt
laid-wholes n (p ∷ ps) laid = (record { above = (laid.0).above; start = (laid.0).start; whole = (laid.0).whole; some = laid.1 }, laid-wholes n ps laid.2)

-- and places of a file that reaches so far
pub laid-within : (n end : ℕ) (ps : List Place) → AllLaid n ps → Each (λ p. p.ib + p.len ≤ end) ps → Each (IsPlace end) ps
laid-within n end [] laid most = tt
laid-within n end (p ∷ ps) laid most = (record { above = (laid.0).above; start = (laid.0).start; whole = (laid.0).whole; before = most.0 }, laid-within n end ps laid.2 most.1)
