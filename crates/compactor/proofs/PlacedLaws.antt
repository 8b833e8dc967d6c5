-- The places of a layout: one behind the other, of whole slots, beside the fixed pages.
use Rattle.std.proofs.Common.{◌≡◌, ℕ, zero, suc, ◌+◌, ◌*◌, ◌<◌, ◌≤◌, List, [], ◌∷◌, ◌++◌, map, length, take, get_or, refl, sym, ap, arith, append_assoc, ◌∙◌}
use Rattle.std.proofs.lemmas.List.{append-nil, map-append, take_more}
use Rattle.std.specs.List.{All}
use Rattle.pst_base.specs.declared.ids.Bref.{Bref}
use Rattle.pst_base.specs.declared.places.Place.{Place}
use Rattle.alloc_map.specs.Ends.{region_end}
use Rattle.alloc_map.specs.Slots.{IsLaid}
use Rattle.alloc_map.specs.Standing.{IsMeeting, amap_places, standing}
use Rattle.btree_pages.specs.declared.entry.BlockEntry.{BlockEntry}
use Rattle.btree_pages.specs.declared.entry.NodeEntry.{NodeEntry}
use Rattle.copy_layout.specs.Order.{InOrder}
use Rattle.copy_layout.proofs.OrderLaws.{AreSized, Ascends, ascends-join, ascends-low, order-ascends, order-once, unit-block, unit-page}
use Rattle.data_tree.proofs.PieceLaws.{joined}
use Rattle.file_layout.specs.Nodes.{place_of}
use Rattle.file_layout.specs.Trees.{IsPlace, page_place}
use Rattle.lays_kept.specs.Kept.{Each}
use Rattle.lays_kept.proofs.Beside.{IsWhole}
use Rattle.lays_kept.proofs.Once.{once_apart}
use Rattle.compactor.specs.Layout.{IsLayout, Layout, layout_places, tree_places}

sized-blocks : (es : List BlockEntry) → AreSized (map place_of es)
sized-blocks [] = tt
sized-blocks (e ∷ es) = ((omega arith, omega arith), sized-blocks es)

sized-pages : (ats : List Bref) → AreSized (map page_place ats)
sized-pages [] = tt
sized-pages (at ∷ ats) = ((omega arith, refl), sized-pages ats)

-- the blocks, then the pages of both trees, one behind the other
pub layout-ascends : (uses : ℕ → ℕ) (blocks : List BlockEntry) (nodes : List NodeEntry) (need first : ℕ) (l : Layout) → IsLayout uses blocks nodes need first l → Ascends 0x4400 (layout_places l) l.tree.end
layout-ascends uses blocks nodes need first l is =
    let bs = order-ascends 64 0x4400 is.blocks_end (map place_of l.blocks) unit-block (omega arith) (sized-blocks l.blocks) is.blocks_stand in
    let low = ascends-low 0x4400 is.blocks_end (map place_of l.blocks) bs in
    let ns = order-ascends 512 is.blocks_end l.nodes.end (tree_places l.nodes) unit-page low (sized-pages (joined l.nodes.levels)) is.node_pages.order in
    let mid = ascends-low is.blocks_end l.nodes.end (tree_places l.nodes) ns in
    let ts = order-ascends 512 l.nodes.end l.tree.end (tree_places l.tree) unit-page (omega (arith, low, mid)) (sized-pages (joined l.tree.levels)) is.block_pages.order in
    ascends-join 0x4400 is.blocks_end l.tree.end (map place_of l.blocks) (tree_places l.nodes ++ tree_places l.tree) bs (ascends-join is.blocks_end l.nodes.end l.tree.end (tree_places l.nodes) (tree_places l.tree) ns ts)

-- ---- what is known of places that ascend

pub ascends-places : (eof from end : ℕ) (ps : List Place) → end ≤ eof → Ascends from ps end → Each (IsPlace eof) ps
ascends-places eof from end [] le h = tt
ascends-places eof from end (p ∷ ps) le h =
    let low = ascends-low (p.ib + p.len) end ps h.1 in
    (record { above = h.0.above; start = h.0.start; whole = h.0.whole; before = omega (arith, low, le) }, ascends-places eof (p.ib + p.len) end ps le h.1)

pub ascends-wholes : (from end : ℕ) (ps : List Place) → Ascends from ps end → Each IsWhole ps
ascends-wholes from end [] h = tt
ascends-wholes from end (p ∷ ps) h =
    let some = h.0.some in
    let whole = h.0.whole in
    (record { above = h.0.above; start = h.0.start; whole = h.0.whole; some = omega (arith, some, whole) }, ascends-wholes (p.ib + p.len) end ps h.1)

-- each lies in the regions up to the end
pub ascends-laid : (n from end : ℕ) (ps : List Place) → end ≤ region_end n → Ascends from ps end → All (IsLaid n) ps
ascends-laid n from end [] le h k d lt = absurd (omega (arith, lt))
ascends-laid n from end (p ∷ ps) le h zero d lt =
    let low = ascends-low (p.ib + p.len) end ps h.1 in
    record { above = h.0.above; start = h.0.start; whole = h.0.whole; within = omega (arith, low, le) }
ascends-laid n from end (p ∷ ps) le h (suc k) d lt = ascends-laid n (p.ib + p.len) end ps le h.1 k d (omega (arith, lt))

-- no two meet, or one and a map page
pub ascends-apart : (from end n : ℕ) (ps : List Place) → Ascends from ps end → (slot : ℕ) → IsMeeting (standing ps n) slot → ⊥
ascends-apart from end n ps h = once_apart (ps ++ amap_places n) (order-once from end n ps h)

-- ---- numbers

-- so many pages take 512 bytes each
pub pages-count : (from end : ℕ) (ats : List Bref) → InOrder 512 from (map page_place ats) end → from + 512 * length ats ≤ end
pages-count from end [] order = omega (arith, order)
pages-count from end (at ∷ ats) order =
    let a = order.0.holds.behind in
    let b = pages-count (at.ib + 512) end ats order.1 in
    omega (arith, a, b)

-- ---- levels

joined-append : {X : Type 0} (xs ys : List (List X)) → joined (xs ++ ys) ≡ joined xs ++ joined ys
joined-append {X} [] ys = refl
joined-append {X} (x ∷ xs) ys = ap (λ (l : List X). x ++ l) (joined-append xs ys) ∙ sym (append_assoc x (joined xs) (joined ys))

-- one level more
pub joined-more : (levels : List (List Bref)) (i : ℕ) (d : List Bref) → i < length levels → map page_place (joined (take (i + 1) levels)) ≡ map page_place (joined (take i levels)) ++ map page_place (get_or levels i d)
joined-more levels i d within =
    ap (λ (l : List (List Bref)). map page_place (joined l)) (take_more levels i d within) ∙ ap (map page_place) (joined-append (take i levels) (get_or levels i d ∷ []) ∙ ap (λ (l : List Bref). joined (take i levels) ++ l) (append-nil (get_or levels i d)))
    ∙ map-append page_place (joined (take i levels)) (get_or levels i d)
