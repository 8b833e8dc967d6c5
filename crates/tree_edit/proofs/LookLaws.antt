-- Where the entry with a key is.
use Rattle.std.proofs.Common.{Bool, true, false, ◌≡◌, ℕ, zero, suc, ◌+◌, ◌^◌, ◌≤◌, ◌<◌, eqb, if◌then◌else◌, List, [], ◌∷◌, ◌++◌, map, length, drop, take, get_or, refl, sym, ap, subst, ◌∙◌, arith, Option, Some, None, Ok, inl, inr, take-append-drop}
use Rattle.std.proofs.lemmas.Bool.{ne_eqb, cases_lt}
use Rattle.std.proofs.lemmas.List.{drop_all, length-map, get_or-map}
use Rattle.pst_base.specs.declared.ids.Bref.{Bref}
use Rattle.pst_base.specs.Fields.{number_at}
use Rattle.btree_pages.specs.Entries.{inner_of}
use Rattle.btree_pages.specs.Pages.{Page, keys, key_in, page_of, IsLast}
use Rattle.tree_edit.specs.Shapes.{Shape, leaf, inner, RiseIn, heads, up_to, OneThen, AreBelow, HasLeaf, HasInner, IsTree, IsWhole}
use Rattle.tree_edit.specs.Edits.{entry_with}
use Rattle.tree_edit.specs.Pages.{child_in, shape_of, shapes}
use Rattle.tree_edit.specs.Source.{Source, Later}
use Rattle.tree_edit.proofs.ShapeLaws.{tree-rise, below-rise, below-part, Parted, rise-part, map-join}
use Rattle.tree_edit.proofs.EditLaws.{AreUnder, AreOver, rise-under, rise-over}
use Rattle.tree_edit.proofs.MergeLaws.{drop-here}
use Rattle.tree_edit.proofs.StepLaws.{same-heads, same-keys, shown-here, some-same, leaf-shape, inner-shape}
use Rattle.tree_edit.proofs.RootLaws.{shape-level}
use Rattle.tree_edit.proofs.StopLaws.{IsAny, any-of-root}
use Rattle.tree_edit.proofs.LoopLaws.{later-same}

-- the search has come to a page whose tree has the entry, if there is one
pub record Down {E : Type 0} (find : Bref → Option (Shape E)) (key : E → ℕ) (k : ℕ) (at : Bref) (es : List E) : Type 0 where
  pub n : ℕ
  pub least : ℕ
  pub low : ℕ
  pub high : ℕ
  pub here : List E
  pub pages : List Bref
  pub tree : IsAny find key n least low high at here pages
  pub same : entry_with key k es ≡ entry_with key k here

pub with-under : {E : Type 0} (key : E → ℕ) (k : ℕ) (xs ys : List E) → AreUnder key k xs → entry_with key k (xs ++ ys) ≡ entry_with key k ys
with-under key k [] ys a = refl
with-under key k (x ∷ xs) ys a = let less = a.0 in rw (ne_eqb (key x) k (λ e. absurd (omega (arith, e, less)))) (with-under key k xs ys a.1)

pub with-over : {E : Type 0} (key : E → ℕ) (k : ℕ) (ys : List E) → AreOver key (k + 1) ys → entry_with key k ys ≡ None
with-over key k [] a = refl
with-over key k (y ∷ ys) a = let more = a.0 in rw (ne_eqb (key y) k (λ e. absurd (omega (arith, e, more)))) (with-over key k ys a.1)

pub with-front : {E : Type 0} (key : E → ℕ) (k : ℕ) (xs ys : List E) → AreOver key (k + 1) ys → entry_with key k (xs ++ ys) ≡ entry_with key k xs
with-front key k [] ys a = with-over key k ys a
with-front {E} key k (x ∷ xs) ys a = by_key (eqb (key x) k) (with-front key k xs ys a)
  where
    by_key : (b : Bool) → entry_with key k (xs ++ ys) ≡ entry_with key k xs → (if b then Some x else entry_with key k (xs ++ ys)) ≡ (if b then Some x else entry_with key k xs)
    by_key true e = refl
    by_key false e = e

-- the child that has the key
pub child-has : {E : Type 0} (find : Bref → Option (Shape E)) (key : E → ℕ) (k n low high i : ℕ) (kids : List (ℕ × Bref)) (c : ℕ × Bref) (es : List E) (ps : List Bref) → RiseIn low high (heads kids) → drop i kids ≡ c ∷ drop (i + 1) kids
    → c.0 ≤ k → ((d : ℕ × Bref) (rest : List (ℕ × Bref)) → drop (i + 1) kids ≡ d ∷ rest → k < d.0) → AreBelow (IsTree find key n) high kids es ps → (d : Down find key k c.1 es) × (d.n ≡ n)
child-has {E} find key k n low high i kids c es ps rises here reached above are =
    let rest : List (ℕ × Bref) = drop (i + 1) kids in
    let whole : kids ≡ take i kids ++ (c ∷ rest) = sym (take-append-drop i kids) ∙ ap (λ (l : List (ℕ × Bref)). take i kids ++ l) here in
    let split : Parted (IsTree find key n) high (take i kids) (c ∷ rest) es ps = below-part (IsTree find key n) high (take i kids) (c ∷ rest) es ps (subst (λ (l : List (ℕ × Bref)). AreBelow (IsTree find key n) high l es ps) whole are) in
    let all_rise : RiseIn low high (heads (take i kids) ++ (c.0 ∷ heads rest)) = subst (RiseIn low high) (ap heads whole ∙ map-join (λ (x : ℕ × Bref). x.0) (take i kids) (c ∷ rest)) rises in
    let parts = rise-part low high c.0 (heads (take i kids)) (heads rest) all_rise in
    let before_rise = below-rise (IsTree find key n) key (λ l h at es ps t. tree-rise find key n l h at es ps t) low c.0 (take i kids) split.before split.before_pages parts.0 split.here in
    let o : OneThen (IsTree find key n) (AreBelow (IsTree find key n) high rest) c.0 (up_to high rest) c.1 split.behind split.behind_pages = split.there in (
      record {
        n = n;
        least = 1;
        low = c.0;
        high = up_to high rest;
        here = o.first;
        pages = o.first_pages;
        tree = any_of n c.0 (up_to high rest) c.1 o.first o.first_pages o.one;
        same = ap (entry_with key k) split.entries ∙ with-under key k split.before split.behind (rise-under key low c.0 k split.before before_rise reached) ∙ ap (entry_with key k) o.entries
            ∙ with-front key k o.first o.later (later_over rest refl o.later o.later_pages parts.2.2 o.rest);
      },
      refl,
    )
  where
    any_of : (m lo hi : ℕ) (at : Bref) (fs : List E) (qs : List Bref) → IsTree find key m lo hi at fs qs → IsAny find key m 1 lo hi at fs qs
    any_of zero lo hi at fs qs t = t
    any_of (suc m) lo hi at fs qs t = t

    later_over : (rest : List (ℕ × Bref)) → drop (i + 1) kids ≡ rest → (fs : List E) (qs : List Bref) → RiseIn (c.0 + 1) high (heads rest) → AreBelow (IsTree find key n) high rest fs qs → AreOver key (k + 1) fs
    later_over [] is fs qs r a = subst (AreOver key (k + 1)) (sym a.0) tt
    later_over (d ∷ rest) is fs qs r a =
        let more = above d rest is in
        let x = r.0 in
        let y = r.1 in
        rise-over key d.0 high (k + 1) fs (below-rise (IsTree find key n) key (λ l h at es ps t. tree-rise find key n l h at es ps t) d.0 high (d ∷ rest) fs qs (omega arith, y, r.2) a) (omega arith)

pub record Looking {A E : Type 0} (rule : ℕ → ℕ) (size : ℕ) (entry_of : List ℕ → E) (key : E → ℕ) (first now : Source A) (root : Bref) (k limit : ℕ) (at : Bref) : Type 0 where
  pub later : Later first now
  pub so_far : (find : Bref → Option (List ℕ)) → first.holds find → (es : List E) (ps : List Bref) → IsWhole (shapes rule size entry_of find) key root es ps → (d : Down (shapes rule size entry_of find) key k at es) × (d.n < limit)

pub looking-start : {A E : Type 0} (rule : ℕ → ℕ) (size : ℕ) (entry_of : List ℕ → E) (key : E → ℕ) (first : Source A) (root : Bref) (k : ℕ) → Looking rule size entry_of key first first root k 8 root
looking-start {A} {E} rule size entry_of key first root k = record {
  later = later-same first;
  so_far = λ find told es ps whole. (record { n = whole.level; least = 0; low = 0; high = 2 ^ 64; here = es; pages = ps; tree = any-of-root (shapes rule size entry_of find) key whole.level 0 (2 ^ 64) root es ps whole.tree; same = refl }, let le = whole.low_enough in omega (arith, le));
}

key-at : (rule : ℕ → ℕ) (bs : List (List ℕ)) (j : ℕ) → j < length bs → (child_in rule (get_or bs j [])).0 ≡ get_or (keys rule bs) j 0
unfolding inner_of
key-at rule bs j h = sym (get_or-map (key_in rule) bs j [] 0 h)

-- what a page on the way shows
module _ {E : Type 0} (rule : ℕ → ℕ) (size : ℕ) (entry_of : List ℕ → E) (key : E → ℕ) (law : (b : List ℕ) → key (entry_of b) ≡ rule (number_at 8 0 b)) (find : Bref → Option (List ℕ)) (at : Bref) (body : List ℕ) (page : Page)
    (found : find at ≡ Some body) (reads : page_of rule size body ≡ Ok page) (k : ℕ) (es : List E) (d : Down (shapes rule size entry_of find) key k at es) where
  level-is : page.level ≡ d.n
  level-is = go d.n d.tree
    where
      go : (n : ℕ) → IsAny (shapes rule size entry_of find) key n d.least d.low d.high at d.here d.pages → page.level ≡ n
      go zero t = sym (shape-level {E = E} rule entry_of page) ∙ ap (λ (s : Shape E). s.level) (some-same _ (shape_of rule entry_of page) (leaf d.here) (shown-here rule size entry_of find at body page found reads) t.shown)
      go (suc n) t = sym (shape-level {E = E} rule entry_of page) ∙ ap (λ (s : Shape E). s.level) (some-same _ (shape_of rule entry_of page) (inner (suc n) t.children) (shown-here rule size entry_of find at body page found reads) t.shown)

  leaf-is : page.level ≡ 0 → (map entry_of page.entries ≡ d.here) × RiseIn d.low d.high (keys rule page.entries)
  leaf-is z =
      let t : HasLeaf (shapes rule size entry_of find) key d.least d.low d.high at d.here d.pages = subst (λ (n : ℕ). IsAny (shapes rule size entry_of find) key n d.least d.low d.high at d.here d.pages) (sym level-is ∙ z) d.tree in
      let same : map entry_of page.entries ≡ d.here = ap (λ (s : Shape E). s.entries) (some-same _ (leaf (map entry_of page.entries)) (leaf d.here) (shown-here rule size entry_of find at body page found reads ∙ ap Some (leaf-shape rule entry_of page z)) t.shown) in
      (same, subst (RiseIn d.low d.high) (ap (map key) (sym same) ∙ same-keys rule entry_of key law page.entries) t.rises)

  -- the search goes on in a child
  pub down-next : (n i : ℕ) → page.level ≡ suc n → i < length page.entries → IsLast (keys rule page.entries) k i → (e : Down (shapes rule size entry_of find) key k (inner_of (get_or page.entries i [])).page es) × (e.n ≡ n)
  down-next n i e inside last =
      let kids : List (ℕ × Bref) = map (child_in rule) page.entries in
      let t : HasInner (shapes rule size entry_of find) (IsTree (shapes rule size entry_of find) key n) (suc n) d.least d.low d.high at d.here d.pages =
      subst (λ (m : ℕ). IsAny (shapes rule size entry_of find) key m d.least d.low d.high at d.here d.pages) (sym level-is ∙ e) d.tree in
      let same : t.children ≡ kids = ap (λ (s : Shape E). s.children) (some-same _ (inner (suc n) t.children) (inner (suc n) kids) t.shown (shown-here rule size entry_of find at body page found reads ∙ ap Some (inner-shape rule entry_of page n e))) in
      let c : ℕ × Bref = child_in rule (get_or page.entries i []) in
      let c_key : c.0 ≡ get_or (keys rule page.entries) i 0 = key-at rule page.entries i inside in
      let reached = last.reached in
      let below = child-has (shapes rule size entry_of find) key k n d.low d.high i kids c d.here t.below (subst (λ (l : List (ℕ × Bref)). RiseIn d.low d.high (heads l)) same t.rises) (drop-here (child_in rule) page.entries i [] inside)
      (omega (arith, c_key, reached)) (λ f rest is. above-next f rest is) (subst (λ (l : List (ℕ × Bref)). AreBelow (IsTree (shapes rule size entry_of find) key n) d.high l d.here t.below) same t.are) in
      (record { n = (below.0).n; least = (below.0).least; low = (below.0).low; high = (below.0).high; here = (below.0).here; pages = (below.0).pages; tree = (below.0).tree; same = d.same ∙ (below.0).same }, below.1)
    where
      above-next : (f : ℕ × Bref) (rest : List (ℕ × Bref)) → drop (i + 1) (map (child_in rule) page.entries) ≡ f ∷ rest → k < f.0
      above-next f rest is = elim (cases_lt (i + 1) (length page.entries)) [
        | inl more ↦
            let here = drop-here (child_in rule) page.entries (i + 1) [] more in
            let same : child_in rule (get_or page.entries (i + 1) []) ≡ f = let two = sym here ∙ is in cc in
            let a = ap (λ (x : ℕ × Bref). x.0) same in
            let b = key-at rule page.entries (i + 1) more in
            let len = length-map page.entries (key_in rule) in
            let c = last.above (i + 1) (omega arith) (omega (arith, len, more)) in
            omega (arith, a, b, c)
        | inr end ↦ let len = length-map page.entries (child_in rule) in let none : drop (i + 1) (map (child_in rule) page.entries) ≡ [] = drop_all (i + 1) (map (child_in rule) page.entries) (omega (arith, len, end)) in absurd (let two = sym none ∙ is in cc)
      ]

  -- the search ends in a leaf
  pub down-leaf : (i : ℕ) → page.level ≡ 0 → i < length page.entries → IsLast (keys rule page.entries) k i → entry_with key k (entry_of (get_or page.entries i []) ∷ []) ≡ entry_with key k es
  down-leaf i z inside last =
      let l = leaf-is z in
      let e : E = entry_of (get_or page.entries i []) in
      let xs : List E = map entry_of page.entries in
      let rest : List E = drop (i + 1) xs in
      let here : drop i xs ≡ e ∷ rest = drop-here entry_of page.entries i [] inside in
      let whole : xs ≡ take i xs ++ (e ∷ rest) = sym (take-append-drop i xs) ∙ ap (λ (y : List E). take i xs ++ y) here in
      let rises : RiseIn d.low d.high (map key (take i xs) ++ (key e ∷ map key rest)) =
      subst (RiseIn d.low d.high) (sym (same-keys rule entry_of key law page.entries) ∙ ap (map key) whole ∙ map-join key (take i xs) (e ∷ rest)) l.1 in
      let parts = rise-part d.low d.high (key e) (map key (take i xs)) (map key rest) rises in
      let own : key e ≡ get_or (keys rule page.entries) i 0 = law (get_or page.entries i []) ∙ sym (get_or-map (key_in rule) page.entries i [] 0 inside) in
      let reached = last.reached in
      sym (d.same ∙ ap (entry_with key k) (sym l.0 ∙ whole) ∙ with-under key k (take i xs) (e ∷ rest) (rise-under key d.low (key e) k (take i xs) parts.0 (omega (arith, own, reached)))
      ∙ with-front key k (e ∷ []) rest (rest-over rest refl parts.2.2))
    where
      rest-over : (ys : List E) → drop (i + 1) (map entry_of page.entries) ≡ ys → RiseIn (key (entry_of (get_or page.entries i [])) + 1) d.high (map key ys) → AreOver key (k + 1) ys
      rest-over [] is r = tt
      rest-over (y ∷ ys) is r = elim (cases_lt (i + 1) (length page.entries)) [
        | inl more ↦
            let here = drop-here entry_of page.entries (i + 1) [] more in
            let same : entry_of (get_or page.entries (i + 1) []) ≡ y = let two = sym here ∙ is in cc in
            let a : key y ≡ get_or (keys rule page.entries) (i + 1) 0 = ap key (sym same) ∙ law (get_or page.entries (i + 1) []) ∙ sym (get_or-map (key_in rule) page.entries (i + 1) [] 0 more) in
            let len = length-map page.entries (key_in rule) in
            let c = last.above (i + 1) (omega arith) (omega (arith, len, more)) in
            let x = r.1 in
            rise-over key (key y) d.high (k + 1) (y ∷ ys) (omega arith, x, r.2) (omega (arith, a, c))
        | inr end ↦ let len = length-map page.entries entry_of in let none : drop (i + 1) (map entry_of page.entries) ≡ [] = drop_all (i + 1) (map entry_of page.entries) (omega (arith, len, end)) in absurd (let two = sym none ∙ is in cc)
      ]

  -- no key is up to this one
  pub down-none : ((place : ℕ) → place < length (keys rule page.entries) → k < get_or (keys rule page.entries) place 0) → None ≡ entry_with key k es
  down-none above = sym (d.same ∙ with-over key k d.here (go d.n level-is d.tree))
    where
      first-over : (lo hi : ℕ) (xs : List E) → RiseIn lo hi (map key xs) → k + 1 ≤ lo → AreOver key (k + 1) xs
      first-over lo hi xs r le = rise-over key lo hi (k + 1) xs r le

      head-over : (ks : List ℕ) → ks ≡ keys rule page.entries → (lo hi : ℕ) → RiseIn lo hi ks → RiseIn (k + 1) hi ks
      head-over [] is lo hi r = tt
      head-over (x ∷ ks) is lo hi r =
          let a = ap (λ (l : List ℕ). get_or l 0 0) is in
          let b = ap (λ (l : List ℕ). length l) is in
          let c = above 0 (omega arith) in
          let y = r.1 in
          (omega arith, y, r.2)

      go : (n : ℕ) → page.level ≡ n → IsAny (shapes rule size entry_of find) key n d.least d.low d.high at d.here d.pages → AreOver key (k + 1) d.here
      go zero e t =
          let l = leaf-is e in
          let same : map key d.here ≡ keys rule page.entries = ap (map key) (sym l.0) ∙ same-keys rule entry_of key law page.entries in
          rise-over key (k + 1) d.high (k + 1) d.here (subst (RiseIn (k + 1) d.high) (sym same) (head-over (keys rule page.entries) refl d.low d.high l.1)) (omega arith)
      go (suc n) e t =
          let kids : List (ℕ × Bref) = map (child_in rule) page.entries in
          let same : t.children ≡ kids = ap (λ (s : Shape E). s.children) (some-same _ (inner (suc n) t.children) (inner (suc n) kids) t.shown (shown-here rule size entry_of find at body page found reads ∙ ap Some (inner-shape rule entry_of page n e))) in
          let rises : RiseIn d.low d.high (keys rule page.entries) = subst (RiseIn d.low d.high) (ap heads same ∙ same-heads rule page.entries) t.rises in
          let more = subst (RiseIn (k + 1) d.high) (sym (ap heads same ∙ same-heads rule page.entries)) (head-over (keys rule page.entries) refl d.low d.high rises) in
          rise-over key (k + 1) d.high (k + 1) d.here
          (below-rise (IsTree (shapes rule size entry_of find) key n) key (λ l h at es ps t. tree-rise (shapes rule size entry_of find) key n l h at es ps t) (k + 1) d.high t.children d.here t.below more t.are) (omega arith)
