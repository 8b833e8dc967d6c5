-- Where a plan's pages stand: in just the places by which they are named.
use Rattle.std.proofs.Common.{◌≡◌, ◌∙◌, ℕ, suc, ◌+◌, ◌<◌, List, [], ◌∷◌, map, length, get_or, refl, sym, ap, arith}
use Rattle.std.specs.List.{All}
use Rattle.pst_base.specs.declared.ids.Bref.{Bref}
use Rattle.pst_base.specs.declared.places.Place.{Place}
use Rattle.file_layout.specs.Trees.{page_place}
use Rattle.tree_edit.specs.declared.plan.PlanPage.{PlanPage}
use Rattle.tree_edit.specs.Plans.{names}
use Rattle.plan_pieces.specs.Names.{named}
use Rattle.plan_pieces.proofs.PageLaws.{named-within}

-- pages with these names stand in just these places
pub names-placed : {E : Type 0} (first : ℕ) (places : List Place) (pages : List (PlanPage E)) → length places ≡ length pages → All (λ (p : Place). p.len ≡ 512) places → map page_place (names (named first places) 0 pages) ≡ places
names-placed {E} first places pages long sized = go places pages 0 (λ i lt. named-ib i lt) long sized
  where
    named-ib : (i : ℕ) → i < length places → (named first places (0 + i)).ib ≡ (get_or places i (record { ib = 0; len = 0 })).ib
    named-ib i lt = let z : 0 + i ≡ i = omega arith in ap (λ (k : ℕ). (named first places k).ib) z ∙ ap (λ (b : Bref). b.ib) (named-within first places i lt)

    go : (ps : List Place) (qs : List (PlanPage E)) (from : ℕ) → ((i : ℕ) → i < length ps → (named first places (from + i)).ib ≡ (get_or ps i (record { ib = 0; len = 0 })).ib) → length ps ≡ length qs → All (λ (p : Place). p.len ≡ 512) ps
        → map page_place (names (named first places) from qs) ≡ ps
    go [] [] from at long sized = refl
    go [] (q ∷ qs) from at long sized = absurd (omega (arith, long))
    go (p ∷ ps) [] from at long sized = absurd (omega (arith, long))
    go (p ∷ ps) (q ∷ qs) from at long sized =
        let z : from ≡ from + 0 = omega arith in
        let ib : (named first places from).ib ≡ p.ib = ap (λ (k : ℕ). (named first places k).ib) z ∙ at 0 (omega arith) in
        let len : p.len ≡ 512 = sized 0 p (omega arith) in
        let one : ◌≡◌ {A = Place} (record { ib = (named first places from).ib; len = 512 }) p = ap (λ (x : ℕ). record { ib = x; len = 512 }) ib ∙ ap (λ (x : ℕ). record { ib = p.ib; len = x }) (sym len) in
        ap (λ (x : Place). x ∷ map page_place (names (named first places) (from + 1) qs)) one
        ∙ ap (λ (l : List Place). p ∷ l) (go ps qs (from + 1) (λ i lt. let e : from + 1 + i ≡ from + suc i = omega arith in ap (λ (k : ℕ). (named first places k).ib) e ∙ at (suc i) (omega (arith, lt))) (omega (arith, long)) (λ k d lt. sized (suc k) d (omega (arith, lt))))
