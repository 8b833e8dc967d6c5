-- The slots of a copy's places, and the maps that show them.
use Rattle.std.proofs.Common.{Bool, ◌≡◌, ◌∙◌, ℕ, zero, suc, ◌+◌, ◌*◌, ◌<◌, List, [], ◌∷◌, ◌++◌, length, take, drop, map, refl, sym, ap, subst, arith}
use Rattle.std.proofs.lemmas.List.{take-take}
use Rattle.pst_base.specs.declared.ids.Bref.{Bref}
use Rattle.pst_base.specs.declared.places.Place.{Place}
use Rattle.alloc_map.specs.Covered.{Once}
use Rattle.alloc_map.specs.Maps.{IsMapPage}
use Rattle.alloc_map.specs.Slots.{start_of}
use Rattle.alloc_map.specs.Standing.{IsCovered, IsMeeting, SomeCovers, amap_places, fixed_places, occupied, standing}
use Rattle.alloc_map.specs.Tally.{one_at, tally as slot_tally}
use Rattle.alloc_map.proofs.CoverLaws.{fixed_slots_some}
use Rattle.alloc_map.proofs.TallyLaws.{some_tally, tally_append, tally_some}
use Rattle.btree_pages.specs.declared.entry.BlockEntry.{BlockEntry}
use Rattle.data_tree.proofs.PieceLaws.{joined}
use Rattle.file_layout.specs.Nodes.{blocks_in, place_of, places_of}
use Rattle.file_layout.specs.Trees.{Found, page_place}
use Rattle.lays_kept.specs.declared.Piece.{Piece}
use Rattle.lays_kept.proofs.Once.{once_apart}
use Rattle.lays_kept.proofs.Rows.{pages_tally}
use Rattle.lays_kept.proofs.Tally.{once_reordered}
use Rattle.node_layout.specs.Pieces.{EachStands}
use Rattle.node_layout.proofs.TreeLaws.{same-sums, sum_at}
use Rattle.tree_edit.specs.Plans.{tally}
use Rattle.copy_pieces.specs.Fixed.{AreFixed}
use Rattle.compactor.specs.Layout.{Layout, layout_places, tree_places}

-- ---- slots

slots-sum : (slot : ℕ) (ps : List Bref) → slot_tally slot (map page_place ps) ≡ sum_at (λ ib. one_at slot (record { ib = ib; len = 512 })) ps
slots-sum slot [] = refl
slots-sum slot (p ∷ ps) = ap (λ (n : ℕ). one_at slot (page_place p) + n) (slots-sum slot ps)

-- pages that name each place equally often have the same slots
pages-same : (slot : ℕ) (xs ys : List Bref) → ((ib : ℕ) → tally ib xs ≡ tally ib ys) → slot_tally slot (map page_place xs) ≡ slot_tally slot (map page_place ys)
pages-same slot xs ys same = slots-sum slot xs ∙ same-sums (λ ib. one_at slot (record { ib = ib; len = 512 })) xs ys same ∙ sym (slots-sum slot ys)

-- the blocks and trees that are found have the slots of the layout
pub places-same : (slot : ℕ) (blocks nodes : Found) (l : Layout) → blocks_in blocks ≡ l.blocks → ((ib : ℕ) → tally ib blocks.pages ≡ tally ib (joined l.tree.levels)) → ((ib : ℕ) → tally ib nodes.pages ≡ tally ib (joined l.nodes.levels))
    → slot_tally slot (places_of blocks nodes) ≡ slot_tally slot (layout_places l)
places-same slot blocks nodes l is tree pages =
    let a = tally_append slot (map page_place (blocks.pages ++ nodes.pages)) (map place_of (blocks_in blocks)) in
    let b = pages_tally slot blocks.pages nodes.pages in
    let c = pages-same slot blocks.pages (joined l.tree.levels) tree in
    let d = pages-same slot nodes.pages (joined l.nodes.levels) pages in
    let e = ap (λ (es : List BlockEntry). slot_tally slot (map place_of es)) is in
    let f = tally_append slot (map place_of l.blocks) (tree_places l.nodes ++ tree_places l.tree) in
    let g = tally_append slot (tree_places l.nodes) (tree_places l.tree) in
    omega (arith, a, b, c, d, e, f, g)

-- ---- places with the same slots

covers-same : (ps qs more : List Place) (slot : ℕ) → slot_tally slot qs ≡ slot_tally slot ps → SomeCovers (ps ++ more) slot → SomeCovers (qs ++ more) slot
covers-same ps qs more slot same covers =
    let a = some_tally (ps ++ more) slot covers in
    let b = tally_append slot ps more in
    let c = tally_append slot qs more in
    tally_some (qs ++ more) slot (omega (arith, a, b, c, same))

pub covered-same : (ps qs : List Place) (n : ℕ) (used : List Bool) → ((slot : ℕ) → slot_tally slot qs ≡ slot_tally slot ps) → IsCovered (occupied ps n) used → IsCovered (occupied qs n) used
covered-same ps qs n used same covered slot lt =
    let both = covered slot lt in
    (λ on. covers-same ps qs (fixed_places n) slot (same slot) (both.0 on), λ covers. both.1 (covers-same qs ps (fixed_places n) slot (sym (same slot)) covers))

pub apart-same : (ps qs : List Place) (n : ℕ) → ((slot : ℕ) → slot_tally slot qs ≡ slot_tally slot ps) → Once (ps ++ amap_places n) → (slot : ℕ) → IsMeeting (standing qs n) slot → ⊥
apart-same ps qs n same once =
    once_apart (qs ++ amap_places n) (once_reordered (ps ++ amap_places n) (qs ++ amap_places n) (λ slot.
    let a = tally_append slot ps (amap_places n) in
    let b = tally_append slot qs (amap_places n) in
    let c = same slot in
    omega (arith, a, b, c)) once)

-- ---- map pages

pub maps-stand : (used : List Bool) (copy : List ℕ) (r i : ℕ) (ps : List Piece) → AreFixed used r ps → EachStands copy ps → i < length ps → IsMapPage used (r + i) (take 512 (drop (start_of (3968 * (r + i))) copy))
maps-stand used copy r i [] are stands lt = absurd (omega (arith, lt))
maps-stand used copy r zero (p ∷ ps) are stands lt =
    let low = fixed_slots_some r in
    let size = are.0.size in
    let place = are.0.place in
    let at : start_of (3968 * r) ≡ p.at = omega (arith, place) in
    let here : take 512 (drop (start_of (3968 * r)) copy) ≡ take 512 p.bytes =
    ap (λ (k : ℕ). take 512 (drop k copy)) at ∙ sym (take-take 512 (length p.bytes) (drop p.at copy) (omega (arith, low, size))) ∙ ap (take 512) stands.0 in
    let e : r ≡ r + 0 = omega arith in
    subst (λ (n : ℕ). IsMapPage used n (take 512 (drop (start_of (3968 * n)) copy))) e (subst (IsMapPage used r) (sym here) are.0.maps)
maps-stand used copy r (suc i) (p ∷ ps) are stands lt =
    let e : r + 1 + i ≡ r + suc i = omega arith in
    subst (λ (n : ℕ). IsMapPage used n (take 512 (drop (start_of (3968 * n)) copy))) e (maps-stand used copy (r + 1) i ps are.1 stands.1 (omega (arith, lt)))
