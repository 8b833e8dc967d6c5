-- The entries and the pages of a tree, gathered child by child.
use Rattle.std.proofs.Common.{◌≡◌, ℕ, zero, suc, ◌+◌, ◌≤◌, List, [], ◌∷◌, ◌++◌, map, length, drop, refl, sym, ap, subst, ◌∙◌, arith, Option, Some, Ok, append_assoc}
use Rattle.std.proofs.lemmas.List.{drop_all, length-map, append-nil}
use Rattle.pst_base.specs.declared.ids.Bref.{Bref}
use Rattle.pst_base.specs.declared.stops.MemOr.{MemOr}
use Rattle.pst_base.specs.declared.stops.SourceStop.{SourceStop}
use Rattle.btree_pages.specs.Pages.{Page, page_of}
use Rattle.tree_edit.specs.Shapes.{Shape, inner, RiseIn, up_to, OneThen, AreBelow, HasLeaf, HasInner, IsTree}
use Rattle.tree_edit.specs.Pages.{child_in, shapes}
use Rattle.tree_edit.specs.Source.{Source, Later, StopsOn}
use Rattle.tree_edit.specs.Steps.{TellsBelow, TellsTree}
use Rattle.tree_edit.proofs.ShapeLaws.{rise-widen, rise-join, map-join}
use Rattle.tree_edit.proofs.StepLaws.{Seated, floor_at, shown-here, some-same, inner-shape, leaf-entries}
use Rattle.tree_edit.proofs.LoopLaws.{later-same, later-then}
use Rattle.tree_edit.proofs.StopLaws.{stops-then}

-- entries behind others rise with them
pub rise-behind : {E : Type 0} (key : E → ℕ) (low high : ℕ) (old more new : List E) → new ≡ old ++ more → low ≤ high → RiseIn low high (map key more) → RiseIn 0 low (map key old) → RiseIn 0 high (map key new)
rise-behind key low high old more new is le rises before =
    subst (λ (l : List _). RiseIn 0 high (map key l)) (sym is) (subst (RiseIn 0 high) (sym (map-join key old more)) (rise-join 0 low low high (map key old) (map key more) before rises (omega arith) (omega arith) le))

-- some of the children are gathered, and these are left
pub record Gathered {E : Type 0} (find : Bref → Option (Shape E)) (key : E → ℕ) (n high : ℕ) (left : List (ℕ × Bref)) (old_entries entries : List E) (old_freed freed : List Bref) (es : List E) (ps : List Bref) : Type 0 where
  pub behind : List E
  pub left_pages : List Bref
  pub others : AreBelow (IsTree find key n) high left behind left_pages
  pub all : entries ++ behind ≡ old_entries ++ es
  pub pages : freed ++ left_pages ≡ old_freed ++ ps

pub gathered-next : {E : Type 0} (find : Bref → Option (Shape E)) (key : E → ℕ) (n high : ℕ) (c : ℕ × Bref) (left : List (ℕ × Bref)) (old entries new : List E) (first freed gone : List Bref) (es : List E) (ps : List Bref)
    → ((fs : List E) (rs : List Bref) → IsTree find key n c.0 (up_to high left) c.1 fs rs → (new ≡ entries ++ fs) × (gone ≡ freed ++ rs))
    → Gathered find key n high (c ∷ left) old entries first freed es ps → Gathered find key n high left old new first gone es ps
gathered-next {E} find key n high c left old entries new first freed gone es ps read g =
    let o : OneThen (IsTree find key n) (AreBelow (IsTree find key n) high left) c.0 (up_to high left) c.1 g.behind g.left_pages = g.others in
    let r = read o.first o.first_pages o.one in
    record {
      behind = o.later;
      left_pages = o.later_pages;
      others = o.rest;
      all = ap (λ (l : List E). l ++ o.later) r.0 ∙ append_assoc entries o.first o.later ∙ ap (λ (l : List E). entries ++ l) (sym o.entries) ∙ g.all;
      pages = ap (λ (l : List Bref). l ++ o.later_pages) r.1 ∙ append_assoc freed o.first_pages o.later_pages ∙ ap (λ (l : List Bref). freed ++ l) (sym o.pages) ∙ g.pages;
    }

pub gathered-end : {E : Type 0} (find : Bref → Option (Shape E)) (key : E → ℕ) (n high : ℕ) (old new : List E) (first gone : List Bref) (es : List E) (ps : List Bref) → Gathered find key n high [] old new first gone es ps → (new ≡ old ++ es) × (gone ≡ first ++ ps)
gathered-end {E} find key n high old new first gone es ps g =
    let none : (g.behind ≡ []) × (g.left_pages ≡ []) = g.others in
    (sym (append-nil new) ∙ ap (λ (l : List E). new ++ l) (sym none.0) ∙ g.all, sym (append-nil gone) ∙ ap (λ (l : List Bref). gone ++ l) (sym none.1) ∙ g.pages)

-- ---- the loop over the children of a page

-- the children before a number are gathered
pub record GatherLoop {A E : Type 0} (rule : ℕ → ℕ) (size : ℕ) (entry_of : List ℕ → E) (key : E → ℕ) (first now : Source A) (page : Page) (low high i : ℕ) (old entries : List E) (old_freed freed : List Bref) : Type 0 where
  pub later : Later first now
  pub rises : RiseIn 0 low (map key old) → RiseIn 0 (floor_at low (high + 1) (map (child_in rule) page.entries) i) (map key entries)
  pub gathered : (find : Bref → Option (List ℕ)) → first.holds find → (n : ℕ) → page.level ≡ suc n → (es : List E) (ps : List Bref)
      → AreBelow (IsTree (shapes rule size entry_of find) key n) (high + 1) (map (child_in rule) page.entries) es ps
      → Gathered (shapes rule size entry_of find) key n (high + 1) (drop i (map (child_in rule) page.entries)) old entries old_freed freed es ps

pub gather-begin : {A E : Type 0} (rule : ℕ → ℕ) (size : ℕ) (entry_of : List ℕ → E) (key : E → ℕ) (first : Source A) (page : Page) (low high : ℕ) (old : List E) (freed : List Bref) → GatherLoop rule size entry_of key first first page low high 0 old old freed freed
gather-begin rule size entry_of key first page low high old freed = record {
  later = later-same first;
  rises = λ r. r;
  gathered = λ find told n is es ps below. record { behind = es; left_pages = ps; others = below; all = refl; pages = refl };
}

floor-end : (low high i : ℕ) (kids : List (ℕ × Bref)) → length kids ≤ i → low ≤ high → floor_at low high kids i ≤ high
floor-end low high zero kids le less = less
floor-end low high (suc i) kids le less = let e = ap (up_to high) (drop_all (suc i) kids le) in omega (arith, e)

module _ {A E : Type 0} (rule : ℕ → ℕ) (size : ℕ) (entry_of : List ℕ → E) (key : E → ℕ) (first now next : Source A) (page : Page) (low high i level : ℕ) (old entries new : List E) (old_freed freed gone : List Bref)
    (is : page.level ≡ suc level) (loop : GatherLoop rule size entry_of key first now page low high i old entries old_freed freed) where
  module _ (c : ℕ × Bref) (seat_low seat_high : ℕ) (seated : Seated low high (map (child_in rule) page.entries) i c seat_low seat_high) where
    -- one child more
    pub gather-next : Later now next → (RiseIn 0 seat_low (map key entries) → RiseIn 0 (seat_high + 1) (map key new))
        → ((find : Bref → Option (List ℕ)) → now.holds find → (es : List E) (ps : List Bref) → IsTree (shapes rule size entry_of find) key level c.0 (seat_high + 1) c.1 es ps → (new ≡ entries ++ es) × (gone ≡ freed ++ ps))
        → GatherLoop rule size entry_of key first next page low high (i + 1) old new old_freed gone
    gather-next later rises read =
        let kids : List (ℕ × Bref) = map (child_in rule) page.entries in
        let end : ℕ = up_to (high + 1) (drop (i + 1) kids) in
        let s = seated.stands in
        record {
          later = later-then loop.later later;
          rises = λ r. subst (λ (m : ℕ). RiseIn 0 m (map key new)) (seated.high_is ∙ sym s.step) (rises (subst (λ (m : ℕ). RiseIn 0 m (map key entries)) (sym seated.low_is) (loop.rises r)));
          gathered = λ find told n level_is es ps below.
              let same : level ≡ n = omega (arith, is, level_is) in
              gathered-next (shapes rule size entry_of find) key n (high + 1) c (drop (i + 1) kids) old entries new old_freed freed gone es ps
              (λ fs rs tree. read find (loop.later.told find told) fs rs
              (subst (λ (m : ℕ). IsTree (shapes rule size entry_of find) key m c.0 (seat_high + 1) c.1 fs rs) (sym same)
              (subst (λ (m : ℕ). IsTree (shapes rule size entry_of find) key n c.0 m c.1 fs rs) (sym seated.high_is) tree)))
              (subst (λ (l : List (ℕ × Bref)). Gathered (shapes rule size entry_of find) key n (high + 1) l old entries old_freed freed es ps) s.here (loop.gathered find told n level_is es ps below));
        }

    -- a child's stop
    pub gather-stops : (stop : MemOr SourceStop) → StopsOn (TellsTree rule size entry_of key level c.0 (seat_high + 1) c.1) now next stop → StopsOn (TellsBelow rule size entry_of key page (high + 1)) first next stop
    gather-stops stop =
        stops-then (TellsBelow rule size entry_of key page (high + 1)) (TellsTree rule size entry_of key level c.0 (seat_high + 1) c.1) first now next stop loop.later (λ find told t.
        let kids : List (ℕ × Bref) = map (child_in rule) page.entries in
        let end : ℕ = up_to (high + 1) (drop (i + 1) kids) in
        let g = subst (λ (l : List (ℕ × Bref)). Gathered (shapes rule size entry_of find) key t.0 (high + 1) l old entries old_freed freed t.2 t.3) seated.stands.here (loop.gathered find told t.0 t.1 t.2 t.3 t.4) in
        let o : OneThen (IsTree (shapes rule size entry_of find) key t.0) (AreBelow (IsTree (shapes rule size entry_of find) key t.0) (high + 1) (drop (i + 1) kids)) c.0 end c.1 g.behind g.left_pages = g.others in
        let same : t.0 ≡ level = let a = t.1 in omega (arith, a, is) in (
          o.first,
          o.first_pages,
          subst (λ (m : ℕ). IsTree (shapes rule size entry_of find) key m c.0 (seat_high + 1) c.1 o.first o.first_pages) same
              (subst (λ (m : ℕ). IsTree (shapes rule size entry_of find) key t.0 c.0 m c.1 o.first o.first_pages) (sym seated.high_is) o.one),
        ))

  module _ (all : length page.entries ≤ i) where
    pub gather-rises : low ≤ high → RiseIn 0 low (map key old) → RiseIn 0 (high + 1) (map key entries)
    gather-rises span r =
        let kids : List (ℕ × Bref) = map (child_in rule) page.entries in
        let len = length-map page.entries (child_in rule) in
        let end = floor-end low (high + 1) i kids (omega (arith, all, len)) (omega (arith, span)) in
        rise-widen 0 (floor_at low (high + 1) kids i) 0 (high + 1) (map key entries) (loop.rises r) (omega arith) end

    pub gather-all : (find : Bref → Option (List ℕ)) → first.holds find → (n : ℕ) → page.level ≡ suc n → (es : List E) (ps : List Bref)
        → AreBelow (IsTree (shapes rule size entry_of find) key n) (high + 1) (map (child_in rule) page.entries) es ps → (entries ≡ old ++ es) × (freed ≡ old_freed ++ ps)
    gather-all find told n level_is es ps below =
        let kids : List (ℕ × Bref) = map (child_in rule) page.entries in
        let len = length-map page.entries (child_in rule) in
        gathered-end (shapes rule size entry_of find) key n (high + 1) old entries old_freed freed es ps
        (subst (λ (l : List (ℕ × Bref)). Gathered (shapes rule size entry_of find) key n (high + 1) l old entries old_freed freed es ps) (drop_all i kids (omega (arith, all, len))) (loop.gathered find told n level_is es ps below))

-- ---- one page

module _ {E : Type 0} (rule : ℕ → ℕ) (size : ℕ) (entry_of : List ℕ → E) (key : E → ℕ) (find : Bref → Option (List ℕ)) (at : Bref) (body : List ℕ) (page : Page) (found : find at ≡ Some body) (reads : page_of rule size body ≡ Ok page) where
  pub leaf-gathered : (level low high : ℕ) (old new : List E) (freed gone : List Bref) (es : List E) (ps : List Bref) → level ≡ 0 → page.level ≡ level → gone ≡ freed ++ (at ∷ []) → new ≡ old ++ map entry_of page.entries
      → IsTree (shapes rule size entry_of find) key level low high at es ps → (new ≡ old ++ es) × (gone ≡ freed ++ ps)
  leaf-gathered level low high old new freed gone es ps is same is_gone is_new tree =
      let t : HasLeaf (shapes rule size entry_of find) key 1 low high at es ps = subst (λ (m : ℕ). IsTree (shapes rule size entry_of find) key m low high at es ps) is tree in
      let entries = leaf-entries rule size entry_of key find at body page found reads level low high es ps is same tree in
      (is_new ∙ ap (λ (l : List E). old ++ l) entries, is_gone ∙ ap (λ (l : List Bref). freed ++ l) (sym t.alone))

  pub inner-gathered : (n level low high : ℕ) (old new : List E) (freed first gone : List Bref) (es : List E) (ps : List Bref) → level ≡ suc n → page.level ≡ level → first ≡ freed ++ (at ∷ [])
      → ((fs : List E) (qs : List Bref) → AreBelow (IsTree (shapes rule size entry_of find) key n) high (map (child_in rule) page.entries) fs qs → (new ≡ old ++ fs) × (gone ≡ first ++ qs))
      → IsTree (shapes rule size entry_of find) key level low high at es ps → (new ≡ old ++ es) × (gone ≡ freed ++ ps)
  inner-gathered n level low high old new freed first gone es ps is same is_first children tree =
      let t : HasInner (shapes rule size entry_of find) (IsTree (shapes rule size entry_of find) key n) (suc n) 1 low high at es ps = subst (λ (m : ℕ). IsTree (shapes rule size entry_of find) key m low high at es ps) is tree in
      let here : shapes rule size entry_of find at ≡ Some (inner (suc n) (map (child_in rule) page.entries)) =
      shown-here rule size entry_of find at body page found reads ∙ ap Some (inner-shape rule entry_of page n (same ∙ is)) in
      let kids : t.children ≡ map (child_in rule) page.entries = ap (λ (s : Shape E). s.children) (some-same _ (inner (suc n) t.children) (inner (suc n) (map (child_in rule) page.entries)) t.shown here) in
      let r = children es t.below (subst (λ (l : List (ℕ × Bref)). AreBelow (IsTree (shapes rule size entry_of find) key n) high l es t.below) kids t.are) in
      (r.0, r.1 ∙ ap (λ (l : List Bref). l ++ t.below) is_first ∙ append_assoc freed (at ∷ []) t.below ∙ ap (λ (l : List Bref). freed ++ l) (sym t.first))
