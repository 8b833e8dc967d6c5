-- The map pages stand beside all pages and blocks, and those of the first regions show the slots of these alone.
use Rattle.std.proofs.Common.{Bool, false, ◌≡◌, ◌∙◌, ◌⊎◌, inl, inr, ℕ, zero, suc, ◌+◌, ◌-◌, ◌*◌, ◌<◌, ◌≤◌, List, [], ◌∷◌, ◌++◌, length, take, drop, refl, sym, ap, subst, arith, ⊎_elim}
use Rattle.std.proofs.lemmas.Bool.{cases_eq}
use Rattle.std.proofs.lemmas.List.{drop-take, take-take, get_or-take, length-take, length-replicate}
use Rattle.pst_base.specs.declared.places.Place.{Place}
use Rattle.alloc_map.specs.Slots.{is_used}
use Rattle.alloc_map.specs.Standing.{Covers, SomeCovers, IsCovered, occupied, fixed_place, fixed_places, amap_place, amap_places}
use Rattle.alloc_map.specs.Covered.{IsTwice, Once}
use Rattle.alloc_map.specs.Maps.{IsMapPage}
use Rattle.lays_kept.specs.Kept.{Each, IsClear}
use Rattle.lays_kept.specs.Saved.{map_pieces}
use Rattle.lays_kept.proofs.Beside.{IsWhole, apart_slots}

-- ---- lists of places

some_append : (xs ys : List Place) (slot : ℕ) → SomeCovers (xs ++ ys) slot → SomeCovers xs slot ⊎ SomeCovers ys slot
unfolding SomeCovers
some_append [] ys slot covers = inr covers
some_append (x ∷ xs) ys slot (inl covers) = inl (inl covers)
some_append (x ∷ xs) ys slot (inr covers) = ⊎_elim (λ one. inl (inr one)) inr (some_append xs ys slot covers)

some_front : (xs ys : List Place) (slot : ℕ) → SomeCovers xs slot → SomeCovers (xs ++ ys) slot
unfolding SomeCovers
some_front [] ys slot covers = absurd covers
some_front (x ∷ xs) ys slot (inl covers) = inl covers
some_front (x ∷ xs) ys slot (inr covers) = inr (some_front xs ys slot covers)

some_back : (xs ys : List Place) (slot : ℕ) → SomeCovers ys slot → SomeCovers (xs ++ ys) slot
unfolding SomeCovers
some_back [] ys slot covers = covers
some_back (x ∷ xs) ys slot covers = inr (some_back xs ys slot covers)

-- ---- the slots of the first regions

-- a later region's fixed pages have none of them
fewer_fixed : (m n slot : ℕ) → n ≤ m → slot < 3968 * n → SomeCovers (fixed_places m) slot → SomeCovers (fixed_places n) slot
unfolding SomeCovers fixed_places
fewer_fixed zero n slot le lt covers = absurd covers
fewer_fixed (suc m) n slot le lt covers = ⊎_elim
    (λ (same : n ≡ suc m). subst (λ k. SomeCovers (fixed_places k) slot) (sym same) covers)
    (λ (other : n ≡ suc m → ⊥). by (omega (arith, le, other)) (fewer_fixed m n slot (omega (arith, le, other)) lt) covers)
    (cases_eq n (suc m))
  where
    by : n ≤ m → (SomeCovers (fixed_places m) slot → SomeCovers (fixed_places n) slot) → Covers (fixed_place m) slot ⊎ SomeCovers (fixed_places m) slot → SomeCovers (fixed_places n) slot
    by low less (inl here) = absurd (omega (arith, lt, low, here.begins))
    by low less (inr rest) = less rest

more_fixed : (m n slot : ℕ) → n ≤ m → SomeCovers (fixed_places n) slot → SomeCovers (fixed_places m) slot
unfolding SomeCovers fixed_places
more_fixed zero n slot le covers = subst (λ k. SomeCovers (fixed_places k) slot) (none n le) covers
  where
    none : (n : ℕ) → n ≤ 0 → n ≡ 0
    none n le = omega (arith, le)
more_fixed (suc m) n slot le covers = ⊎_elim
    (λ (same : n ≡ suc m). subst (λ k. SomeCovers (fixed_places k) slot) same covers)
    (λ (other : n ≡ suc m → ⊥). inr (more_fixed m n slot (omega (arith, le, other)) covers))
    (cases_eq n (suc m))

-- the used slots of the first regions are those of the places and of these regions' fixed pages
pub covered_front : (ps : List Place) (m n : ℕ) (used : List Bool) → n ≤ m → 3968 * n ≤ length used → IsCovered (occupied ps m) used → IsCovered (occupied ps n) (take (3968 * n) used)
covered_front ps m n used le long covered slot lt =
    let low : slot < 3968 * n = omega (arith, lt, length-take (3968 * n) used) in
    let same : is_used (take (3968 * n) used) slot ≡ is_used used slot = get_or-take (3968 * n) used slot false low in
    let both = covered slot (omega (arith, low, long)) in (
      λ on. ⊎_elim (some_front ps (fixed_places n) slot) (λ fixed. some_back ps (fixed_places n) slot (fewer_fixed m n slot le low fixed)) (some_append ps (fixed_places m) slot (both.0 (sym same ∙ on))),
      λ covers. same ∙ both.1 (⊎_elim (some_front ps (fixed_places m) slot) (λ fixed. some_back ps (fixed_places m) slot (more_fixed m n slot le fixed)) (some_append ps (fixed_places n) slot covers)),
    )

-- and their map pages are the same
pub page_front : (used : List Bool) (n r : ℕ) (page : List ℕ) → r < n → IsMapPage used r page → IsMapPage (take (3968 * n) used) r page
page_front used n r page lt is =
    let parts : 3968 * n ≡ 3968 * r + 3968 * (n - r) = omega (arith, lt) in
    let front : take 3968 (drop (3968 * r) (take (3968 * n) used)) ≡ take 3968 (drop (3968 * r) used)
    = ap (λ k. take 3968 (drop (3968 * r) (take k used))) parts ∙ ap (take 3968) (drop-take (3968 * r) (3968 * (n - r)) used) ∙ take-take 3968 (3968 * (n - r)) (drop (3968 * r) used) (omega (arith, lt)) in
    record { body = is.body; sealed = is.sealed; bits = is.bits ∙ sym front }

-- ---- beside the others

amap_whole : (r : ℕ) → IsWhole (amap_place r)
amap_whole r = record { above = omega arith; start = omega arith; whole = refl; some = omega arith }

-- a place that shares no slot with the map pages is clear of them
clear_maps : (p : Place) (n : ℕ) → IsWhole p → ((slot : ℕ) → Covers p slot → SomeCovers (amap_places n) slot → ⊥) → IsClear (map_pieces n) p.ib p.len
unfolding SomeCovers amap_places
clear_maps p zero whole none = tt
clear_maps p (suc r) whole none = (
  ⊎_elim inl (λ after. inr (omega (arith, after, length-replicate {A = ℕ} 512 0))) (apart_slots p (amap_place r) whole (amap_whole r) (λ slot one two. none slot one (inl two))),
  clear_maps p r whole (λ slot one two. none slot one (inr two)),
)

-- places that meet no map page are clear of all of them
pub beside_maps : (ps : List Place) (n : ℕ) → Each IsWhole ps → Once (ps ++ amap_places n) → Each (λ p. IsClear (map_pieces n) p.ib p.len) ps
unfolding IsTwice
beside_maps [] n wholes once = tt
beside_maps (p ∷ ps) n wholes once = (
  clear_maps p n wholes.0 (λ slot one two. once slot (inl (one, some_back ps (amap_places n) slot two))),
  beside_maps ps n wholes.1 (λ slot twice. once slot (inr twice)),
)

-- and so is the header
pub before_maps : (n : ℕ) → IsClear (map_pieces n) 0 564
before_maps zero = tt
before_maps (suc r) = (inl (omega arith), before_maps r)
