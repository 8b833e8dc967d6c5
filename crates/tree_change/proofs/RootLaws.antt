-- The root of a tree after edits.
use Rattle.std.proofs.Common.{◌≡◌, ℕ, zero, suc, ◌+◌, ◌^◌, ◌≤◌, List, [], ◌∷◌, ◌++◌, map, length, refl, sym, ap, subst, ◌∙◌, arith, append_assoc, length-append, Option, Some, Ok}
use Rattle.std.proofs.lemmas.List.{append-nil}
use Rattle.pst_base.specs.declared.ids.Bref.{Bref}
use Rattle.btree_pages.specs.Pages.{Page, page_of}
use Rattle.tree_edit.specs.declared.plan.Child.{Child}
use Rattle.tree_edit.specs.declared.plan.Child.TheVariants.{Old}
use Rattle.tree_edit.specs.declared.plan.PlanPage.{PlanPage}
use Rattle.tree_edit.specs.Shapes.{Shape, leaf, inner, RiseIn, heads, AreBelow, HasLeaf, IsTree, IsRootOf, IsWhole}
use Rattle.tree_edit.specs.Edits.{edited}
use Rattle.tree_edit.specs.Plans.{resolve, resolved, keys_of, AreShown, AreKept, names, tally, IsPlan}
use Rattle.tree_edit.specs.Steps.{Replaces, Packs, Lifts, IsUnder}
use Rattle.tree_change.specs.Tops.{IsAdded, IsTop}
use Rattle.tree_edit.specs.Pages.{child_in, shape_of, shapes}
use Rattle.tree_edit.proofs.ShapeLaws.{rise-widen}
use Rattle.tree_edit.proofs.PlanLaws.{shown-join, names-join, tally-join, below-kept, tree-kept}
use Rattle.tree_edit.proofs.RootLaws.{no-items, shape-level}
use Rattle.tree_edit.proofs.StepLaws.{shown-here, some-same, leaf-shape, inner-shape}

zero-first : (a b : ℕ) → a ≡ b → 0 + a ≡ b
zero-first a b e = omega arith

-- ---- more levels

pub lifts-same : {E : Type 0} (key : E → ℕ) (n : ℕ) (pages : List (PlanPage E)) (cs : List (ℕ × Child)) → Lifts key n n pages pages cs cs
lifts-same key n pages cs = record {
  more = [];
  pages = sym (append-nil pages);
  rises = λ low high r. r;
  tree = λ after name low high es ps s r a. (ps, a, λ ib. let f : tally ib ps ≡ tally ib ps + 0 = omega arith in f);
}

pub lifts-then : {E : Type 0} (key : E → ℕ) (n m : ℕ) (old mid new : List (PlanPage E)) (ds es_ cs : List (ℕ × Child)) → Lifts key n m old mid ds es_ → Packs key m mid new es_ cs → Lifts key n (suc m) old new ds cs
lifts-then {E} key n m old mid new ds es_ cs l p = record {
  more = l.more ++ p.more;
  pages = p.pages ∙ ap (λ (x : List (PlanPage E)). x ++ p.more) l.pages ∙ append_assoc old l.more p.more;
  rises = λ low high r. p.rises low high (l.rises low high r);
  tree = λ after name low high es ps s r a.
      let both = shown-join after name (length old) l.more p.more s in
      let one = l.tree after name low high es ps both.0 r a in
      let where_it_is : length old + length l.more ≡ length mid = let f = ap (λ (x : List (PlanPage E)). length x) l.pages ∙ length-append old l.more in omega (arith, f) in
      let two = p.tree after name low high es one.0 (subst (λ (k : ℕ). AreShown after name k p.more) where_it_is both.1) (l.rises low high r) one.1 in (
        two.0,
        two.1,
        λ ib.
            let x = one.2 ib in
            let y = two.2 ib in
            let c : tally ib (names name (length old) (l.more ++ p.more)) ≡ tally ib (names name (length old) l.more) + tally ib (names name (length mid) p.more) =
            ap (tally ib) (names-join name (length old) l.more p.more) ∙ tally-join ib (names name (length old) l.more) (names name (length old + length l.more) p.more)
            ∙ ap (λ (k : ℕ). tally ib (names name (length old) l.more) + tally ib (names name k p.more)) where_it_is in
            sums (tally ib two.0) (tally ib one.0) (tally ib ps) (tally ib (names name (length old) l.more)) (tally ib (names name (length mid) p.more)) (tally ib (names name (length old) (l.more ++ p.more))) x y c,
      );
}
  where
    sums : (q p o a b ab : ℕ) → p ≡ o + a → q ≡ p + b → ab ≡ a + b → q ≡ o + ab
    sums q p o a b ab x y z = omega arith

-- ---- what stands below a root's page

pub root-under : {E : Type 0} (rule : ℕ → ℕ) (size : ℕ) (entry_of : List ℕ → E) (key : E → ℕ) (find : Bref → Option (List ℕ)) (at : Bref) (body : List ℕ) (page : Page) (es : List E) (ps : List Bref) → find at ≡ Some body → page_of rule size body ≡ Ok page
    → (level : ℕ) → IsRootOf (shapes rule size entry_of find) key level 0 (2 ^ 64) at es ps
    → (below : List Bref) × (ps ≡ at ∷ below) × IsUnder (shapes rule size entry_of find) key rule entry_of page es below
root-under {E} rule size entry_of key find at body page es ps found reads zero t =
    let here = shown-here rule size entry_of find at body page found reads in
    let same : shape_of rule entry_of page ≡ leaf es = some-same _ (shape_of rule entry_of page) (leaf es) here t.shown in
    let level : page.level ≡ 0 = sym (shape-level {E = E} rule entry_of page) ∙ ap (λ (s : Shape E). s.level) same in (
      [],
      t.alone,
      record {
        of_leaf = λ e. (sym (ap (λ (s : Shape E). s.entries) (sym (leaf-shape rule entry_of page e) ∙ same)), refl);
        of_inner = λ n e. absurd (omega (arith, e, level));
      },
    )
root-under {E} rule size entry_of key find at body page es ps found reads (suc n) t =
    let here = shown-here rule size entry_of find at body page found reads in
    let same : shape_of rule entry_of page ≡ inner (suc n) t.children = some-same _ (shape_of rule entry_of page) (inner (suc n) t.children) here t.shown in
    let level : page.level ≡ suc n = sym (shape-level {E = E} rule entry_of page) ∙ ap (λ (s : Shape E). s.level) same in (
      t.below,
      t.first,
      record {
        of_leaf = λ e. absurd (omega (arith, e, level));
        of_inner = λ m e.
            let n_m : n ≡ m = omega (arith, e, level) in
            let kids : t.children ≡ map (child_in rule) page.entries = ap (λ (s : Shape E). s.children) (sym same ∙ inner-shape rule entry_of page n level) in
            subst (λ (k : ℕ). AreBelow (IsTree (shapes rule size entry_of find) key k) (2 ^ 64) (map (child_in rule) page.entries) es t.below) n_m
            (subst (λ (l : List (ℕ × Bref)). AreBelow (IsTree (shapes rule size entry_of find) key n) (2 ^ 64) l es t.below) kids t.are);
      },
    )

pub root-level : {E : Type 0} (rule : ℕ → ℕ) (size : ℕ) (entry_of : List ℕ → E) (key : E → ℕ) (find : Bref → Option (List ℕ)) (at : Bref) (body : List ℕ) (page : Page) (es : List E) (ps : List Bref) → find at ≡ Some body → page_of rule size body ≡ Ok page
    → (level : ℕ) → IsRootOf (shapes rule size entry_of find) key level 0 (2 ^ 64) at es ps → page.level ≡ level
root-level {E} rule size entry_of key find at body page es ps found reads zero t =
    sym (shape-level {E = E} rule entry_of page) ∙ ap (λ (s : Shape E). s.level) (some-same _ (shape_of rule entry_of page) (leaf es) (shown-here rule size entry_of find at body page found reads) t.shown)
root-level {E} rule size entry_of key find at body page es ps found reads (suc n) t =
    sym (shape-level {E = E} rule entry_of page) ∙ ap (λ (s : Shape E). s.level) (some-same _ (shape_of rule entry_of page) (inner (suc n) t.children) (shown-here rule size entry_of find at body page found reads) t.shown)

-- ---- nothing is edited

pub root-kept : {E : Type 0} (old new : Bref → Option (Shape E)) (key : E → ℕ) (n : ℕ) (at : Bref) (es : List E) (ps : List Bref) → AreKept old new ps → IsRootOf old key n 0 (2 ^ 64) at es ps → IsRootOf new key n 0 (2 ^ 64) at es ps
root-kept old new key zero at es ps k t = record { shown = (subst (AreKept old new) t.alone k).0 ∙ t.shown; rises = t.rises; some = t.some; alone = t.alone }
root-kept old new key (suc n) at es ps k t =
    let both = subst (AreKept old new) t.first k in
    record {
      children = t.children;
      below = t.below;
      shown = both.0 ∙ t.shown;
      rises = t.rises;
      some = t.some;
      are = below-kept old new (IsTree old key n) (IsTree new key n) (λ low high at es ps k t. tree-kept old new key n low high at es ps k t) (2 ^ 64) t.children es t.below both.1 t.are;
      first = t.first;
    }

pub plan-nothing : {E : Type 0} (find : Bref → Option (Shape E)) (key : E → ℕ) (pages : List (PlanPage E)) (freed : List Bref) (root : Bref) (es : List E) (ps : List Bref) (edits : List (ℕ × Option E))
    → length edits ≡ 0 → pages ≡ [] → freed ≡ [] → IsWhole find key root es ps → IsPlan find key pages freed (Old root) (edited key es edits) ps
plan-nothing {E} find key pages freed root es ps edits none no_pages no_freed t =
    subst (λ (d : List (ℕ × Option E)). IsPlan find key pages freed (Old root) (edited key es d) ps) (sym (no-items edits none))
    (record {
      kept = ps;
      counted = λ ib. let a = ap (tally ib) no_freed in omega (arith, a);
      tree = λ after name k s. (
        ps,
        record { level = t.level; low_enough = t.low_enough; tree = root-kept find after key t.level root es ps k t.tree },
        λ ib. let a = ap (λ (p : List (PlanPage E)). tally ib (names name 0 p)) no_pages in let f : tally ib ps ≡ tally ib ps + tally ib (names name 0 pages) = omega (arith, a) in f,
      );
    })

-- ---- the whole

root-of-tree : {E : Type 0} (find : Bref → Option (Shape E)) (key : E → ℕ) (n low : ℕ) (at : Bref) (es : List E) (ps : List Bref) → IsTree find key n low (2 ^ 64) at es ps → IsRootOf find key n 0 (2 ^ 64) at es ps
root-of-tree find key zero low at es ps t = record { shown = t.shown; rises = rise-widen low (2 ^ 64) 0 (2 ^ 64) (map _ es) t.rises (omega arith) (omega arith); some = omega arith; alone = t.alone }
root-of-tree find key (suc n) low at es ps t = record {
  children = t.children;
  below = t.below;
  shown = t.shown;
  rises = rise-widen low (2 ^ 64) 0 (2 ^ 64) (heads t.children) t.rises (omega arith) (omega arith);
  some = omega arith;
  are = t.are;
  first = t.first;
}

pub plan-of : {E : Type 0} (find : Bref → Option (Shape E)) (key : E → ℕ) (n m : ℕ) (one two three : List (PlanPage E)) (first gone : List Bref) (at : Bref) (root : Child) (cs ds : List (ℕ × Child)) (es : List E) (ps below : List Bref)
    → m ≤ 7 → ps ≡ at ∷ below → first ≡ at ∷ [] → RiseIn 0 (2 ^ 64) (keys_of cs) → length ds ≤ 1 → Replaces find key n (2 ^ 64) [] one first gone cs es below → Lifts key n m one two cs ds → IsTop two three ds root
    → IsPlan find key three gone root es ps
plan-of {E} find key n m one two three first gone at root cs ds es ps below low is_first is_at rises few r l top = record {
  kept = r.kept;
  counted = λ ib.
      let a = r.counted ib in
      let b = ap (tally ib) (r.freed ∙ ap (λ (x : List Bref). x ++ r.gone) is_at) in
      let c = ap (tally ib) is_first in
      let d = tally-join ib (at ∷ []) r.gone in
      let e = tally-join ib (at ∷ []) below in
      gone_sum (tally ib r.kept) (tally ib r.gone) (tally ib below) (tally ib (at ∷ [])) (tally ib gone) (tally ib ps) a (b ∙ d) (c ∙ e);
  tree = by_case ds refl few;
}
  where
    gone_sum : (k g b o og p : ℕ) → k + g ≡ b → og ≡ o + g → p ≡ o + b → k + og ≡ p
    gone_sum k g b o og p x y z = omega arith

    -- the pages below the root, in their order
    lifted : (after : Bref → Option (Shape E)) (name : ℕ → Bref) → AreKept find after r.kept → AreShown after name 0 two
        → (qs : List Bref) × AreBelow (IsTree after key m) (2 ^ 64) (resolved name ds) es qs × ((ib : ℕ) → tally ib qs ≡ tally ib r.kept + tally ib (names name 0 two))
    lifted after name k s =
        let split = shown-join after name 0 one l.more (subst (AreShown after name 0) l.pages s) in
        let is_one : one ≡ r.more = r.pages in
        let a = r.tree after name k (subst (AreShown after name 0) is_one split.0) in
        let b = l.tree after name 0 (2 ^ 64) es a.0 (subst (λ (x : ℕ). AreShown after name x l.more) (zero-first _ _ refl) split.1) rises a.1 in (
          b.0,
          b.1,
          λ ib.
              let x = a.2 ib in
              let y = b.2 ib in
              let z : tally ib (names name 0 two) ≡ tally ib (names name 0 one) + tally ib (names name (length one) l.more) =
              ap (λ (p : List (PlanPage E)). tally ib (names name 0 p)) l.pages ∙ ap (tally ib) (names-join name 0 one l.more) ∙ tally-join ib (names name 0 one) (names name (0 + length one) l.more)
              ∙ ap (λ (w : ℕ). tally ib (names name 0 one) + tally ib (names name w l.more)) (zero-first _ _ refl) in
              let v = ap (λ (p : List (PlanPage E)). tally ib (names name 0 p)) is_one in
              sums (tally ib b.0) (tally ib a.0) (tally ib r.kept) (tally ib (names name 0 r.more)) (tally ib (names name 0 one)) (tally ib (names name (length one) l.more)) (tally ib (names name 0 two)) x y z v,
        )
      where
        sums : (q p k a o b t : ℕ) → p ≡ k + a → q ≡ p + b → t ≡ o + b → o ≡ a → q ≡ k + t
        sums q p k a o b t x y z w = omega arith

    by_case : (xs : List (ℕ × Child)) → ds ≡ xs → length ds ≤ 1 → (after : Bref → Option (Shape E)) (name : ℕ → Bref) → AreKept find after r.kept → AreShown after name 0 three
        → (qs : List Bref) × IsWhole after key (resolve name root) es qs × ((ib : ℕ) → tally ib qs ≡ tally ib r.kept + tally ib (names name 0 three))
    by_case [] is le after name k s =
        let added : IsAdded two three root = top.of_none is in
        let split = shown-join after name 0 two (added.page ∷ []) (subst (AreShown after name 0) added.grown s) in
        let a = lifted after name k split.0 in
        let none : (es ≡ []) × (a.0 ≡ []) = subst (λ (x : List (ℕ × Child)). AreBelow (IsTree after key m) (2 ^ 64) (resolved name x) es a.0) is a.1 in
        let at_root : resolve name root ≡ name (length two) = ap (resolve name) added.is in
        let shown : after (resolve name root) ≡ Some (leaf []) =
        ap after at_root ∙ subst (λ (x : ℕ). after (name x) ≡ Some (leaf [])) (zero-first _ _ refl) (split.1.0 ∙ ap Some (added.shows name)) in (
          resolve name root ∷ [],
          record {
            level = 0;
            low_enough = omega arith;
            tree = subst (λ (x : List E). HasLeaf after key 0 0 (2 ^ 64) (resolve name root) x (resolve name root ∷ [])) (sym none.0) (record { shown = shown; rises = tt; some = omega arith; alone = refl });
          },
          λ ib.
              let x = a.2 ib in
              let y = ap (tally ib) none.1 in
              let z : tally ib (names name 0 three) ≡ tally ib (names name 0 two) + tally ib (name (length two) ∷ []) =
              ap (λ (p : List (PlanPage E)). tally ib (names name 0 p)) added.grown ∙ ap (tally ib) (names-join name 0 two (added.page ∷ [])) ∙ tally-join ib (names name 0 two) (name (0 + length two) ∷ [])
              ∙ ap (λ (w : ℕ). tally ib (names name 0 two) + tally ib (name w ∷ [])) (zero-first _ _ refl) in
              let v = ap (λ (b : Bref). tally ib (b ∷ [])) at_root in
              empty_sum (tally ib (resolve name root ∷ [])) (tally ib (name (length two) ∷ [])) (tally ib r.kept) (tally ib (names name 0 two)) (tally ib a.0) (tally ib (names name 0 three)) x y z v,
        )
      where
        empty_sum : (q o k t a u : ℕ) → a ≡ k + t → a ≡ 0 → u ≡ t + o → q ≡ o → q ≡ k + u
        empty_sum q o k t a u x y z w = omega arith
    by_case (c ∷ []) is le after name k s =
        let one_is : (root ≡ c.1) × (three ≡ two) = top.of_one c is in
        let a = lifted after name k (subst (AreShown after name 0) one_is.1 s) in
        let o = subst (λ (x : List (ℕ × Child)). AreBelow (IsTree after key m) (2 ^ 64) (resolved name x) es a.0) is a.1 in
        let entries : es ≡ o.first = o.entries ∙ ap (λ (x : List E). o.first ++ x) o.rest.0 ∙ append-nil o.first in
        let pages : a.0 ≡ o.first_pages = o.pages ∙ ap (λ (x : List Bref). o.first_pages ++ x) o.rest.1 ∙ append-nil o.first_pages in
        let tree = root-of-tree after key m c.0 (resolve name c.1) o.first o.first_pages o.one in (
          a.0,
          record {
            level = m;
            low_enough = low;
            tree = subst (λ (x : Bref). IsRootOf after key m 0 (2 ^ 64) x es a.0) (ap (resolve name) (sym one_is.0))
                (subst (λ (x : List E). IsRootOf after key m 0 (2 ^ 64) (resolve name c.1) x a.0) (sym entries) (subst (λ (x : List Bref). IsRootOf after key m 0 (2 ^ 64) (resolve name c.1) o.first x) (sym pages) tree));
          },
          λ ib. a.2 ib ∙ ap (λ (p : List (PlanPage E)). tally ib r.kept + tally ib (names name 0 p)) (sym one_is.1),
        )
    by_case (c ∷ (d ∷ xs)) is le after name k s = absurd (let e = ap (λ (x : List (ℕ × Child)). length x) is in omega (arith, e, le))
