-- One page of a tree after edits, and one child of it.
use Rattle.std.proofs.Common.{◌≡◌, ℕ, zero, suc, ◌+◌, ◌-◌, ◌*◌, ◌^◌, ◌≤◌, ◌<◌, List, [], ◌∷◌, ◌++◌, map, length, drop, get_or, refl, sym, ap, subst, ◌∙◌, arith, append_assoc, Option, Some, Result, Ok, inl, inr}
use Rattle.std.proofs.lemmas.Bool.{eq-eqb, ne_eqb, cases_lt}
use Rattle.std.proofs.lemmas.List.{append-nil, drop_all, length-map}
use Rattle.pst_base.specs.declared.ids.Bref.{Bref}
use Rattle.pst_base.specs.declared.stops.PageFault.{PageFault}
use Rattle.pst_base.specs.Fields.{number_at}
use Rattle.btree_pages.specs.Entries.{inner_of}
use Rattle.btree_pages.specs.Pages.{Page, keys, key_in, page_of, size_at}
use Rattle.tree_edit.specs.declared.plan.Child.{Child}
use Rattle.tree_edit.specs.declared.plan.PlanPage.{PlanPage}
use Rattle.tree_edit.specs.Shapes.{Shape, leaf, inner, RiseIn, heads, up_to, AreBelow, HasLeaf, HasInner, IsTree}
use Rattle.tree_edit.specs.Edits.{edited, puts, AreEdits}
use Rattle.tree_edit.specs.Plans.{tally}
use Rattle.tree_edit.specs.Joins.{IsMost, StandsFor, size_of}
use Rattle.tree_edit.specs.Steps.{Becomes, IsRead, IsSpare, Replaces}
use Rattle.tree_edit.specs.Pages.{child_in, shape_of, seen, shown, shapes}
use Rattle.tree_edit.proofs.PutLaws.{edited-length}
use Rattle.tree_edit.proofs.PlanLaws.{tally-join}
use Rattle.tree_edit.proofs.CountLaws.{size-inner}
use Rattle.tree_edit.proofs.MergeLaws.{drop-here, rise-drop}

zero-first : (a b : ℕ) → a ≡ b → 0 + a ≡ b
zero-first a b e = omega arith

pub same_page : (r : Result Page PageFault) (page got : Page) → r ≡ Ok page → r ≡ Ok got → page ≡ got
same_page r page got e h = let both_are : ◌≡◌ {A = Result Page PageFault} (Ok page) (Ok got) = sym e ∙ h in cc

-- the keys of a leaf's entries are those of their bytes, and the keys of an inner page's children too
pub same-keys : {E : Type 0} (rule : ℕ → ℕ) (entry_of : List ℕ → E) (key : E → ℕ) → ((b : List ℕ) → key (entry_of b) ≡ rule (number_at 8 0 b)) → (bs : List (List ℕ)) → map key (map entry_of bs) ≡ keys rule bs
same-keys rule entry_of key law [] = refl
same-keys rule entry_of key law (b ∷ bs) = ap (λ (k : ℕ). k ∷ map key (map entry_of bs)) (law b) ∙ ap (λ (l : List ℕ). key_in rule b ∷ l) (same-keys rule entry_of key law bs)

pub same-heads : (rule : ℕ → ℕ) (bs : List (List ℕ)) → heads (map (child_in rule) bs) ≡ keys rule bs
unfolding inner_of
same-heads rule [] = refl
same-heads rule (b ∷ bs) = ap (λ (l : List ℕ). key_in rule b ∷ l) (same-heads rule bs)

-- ---- what a page shows

pub shown-here : {E : Type 0} (rule : ℕ → ℕ) (size : ℕ) (entry_of : List ℕ → E) (find : Bref → Option (List ℕ)) (at : Bref) (body : List ℕ) (page : Page) → find at ≡ Some body → page_of rule size body ≡ Ok page
    → shapes rule size entry_of find at ≡ Some (shape_of rule entry_of page)
shown-here rule size entry_of find at body page found reads = ap (shown rule size entry_of) found ∙ ap (seen rule entry_of) reads

pub some-same : {A : Type 0} (o : Option A) (x y : A) → o ≡ Some x → o ≡ Some y → x ≡ y
some-same {A} o x y e h = let both_are : ◌≡◌ {A = Option A} (Some x) (Some y) = sym e ∙ h in cc

pub leaf-shape : {E : Type 0} (rule : ℕ → ℕ) (entry_of : List ℕ → E) (page : Page) → page.level ≡ 0 → shape_of rule entry_of page ≡ leaf (map entry_of page.entries)
leaf-shape rule entry_of page e = rw (eq-eqb page.level 0 e) refl

pub inner-shape : {E : Type 0} (rule : ℕ → ℕ) (entry_of : List ℕ → E) (page : Page) (n : ℕ) → page.level ≡ suc n → shape_of {E = E} rule entry_of page ≡ inner (suc n) (map (child_in rule) page.entries)
inner-shape {E} rule entry_of page n e = rw (ne_eqb page.level 0 (λ z. absurd (omega (arith, z, e)))) (ap (λ (m : ℕ). inner {E = E} m (map (child_in rule) page.entries)) e)

module _ {E : Type 0} (rule : ℕ → ℕ) (size : ℕ) (entry_of : List ℕ → E) (key : E → ℕ) (find : Bref → Option (List ℕ)) (at : Bref) (body : List ℕ) (page : Page) (found : find at ≡ Some body) (reads : page_of rule size body ≡ Ok page) where
  pub leaf-entries : (level low high : ℕ) (es : List E) (ps : List Bref) → level ≡ 0 → page.level ≡ level → IsTree (shapes rule size entry_of find) key level low high at es ps → map entry_of page.entries ≡ es
  leaf-entries level low high es ps is same tree =
      let t : HasLeaf (shapes rule size entry_of find) key 1 low high at es ps = subst (λ (m : ℕ). IsTree (shapes rule size entry_of find) key m low high at es ps) is tree in
      let here : shapes rule size entry_of find at ≡ Some (leaf (map entry_of page.entries)) = shown-here rule size entry_of find at body page found reads ∙ ap Some (leaf-shape rule entry_of page (same ∙ is)) in
      ap (λ (s : Shape E). s.entries) (some-same _ (leaf (map entry_of page.entries)) (leaf es) here t.shown)

  pub inner-below : (n level low high : ℕ) (es : List E) (ps : List Bref) → level ≡ suc n → page.level ≡ level → IsTree (shapes rule size entry_of find) key level low high at es ps
      → (below : List Bref) × AreBelow (IsTree (shapes rule size entry_of find) key n) high (map (child_in rule) page.entries) es below
  inner-below n level low high es ps is same tree =
      let t : HasInner (shapes rule size entry_of find) (IsTree (shapes rule size entry_of find) key n) (suc n) 1 low high at es ps = subst (λ (m : ℕ). IsTree (shapes rule size entry_of find) key m low high at es ps) is tree in
      let here : shapes rule size entry_of find at ≡ Some (inner (suc n) (map (child_in rule) page.entries)) =
      shown-here rule size entry_of find at body page found reads ∙ ap Some (inner-shape rule entry_of page n (same ∙ is)) in
      let kids : t.children ≡ map (child_in rule) page.entries = ap (λ (s : Shape E). s.children) (some-same _ (inner (suc n) t.children) (inner (suc n) (map (child_in rule) page.entries)) t.shown here) in
      (t.below, subst (λ (l : List (ℕ × Bref)). AreBelow (IsTree (shapes rule size entry_of find) key n) high l es t.below) kids t.are)

  -- a leaf that is freed, and its entries after edits
  pub leaf-read : (level low high : ℕ) (pages : List (PlanPage E)) (freed gone : List Bref) (made : List E) (children : List (ℕ × Child)) (edits : List (ℕ × Option E)) (es : List E) (ps : List Bref) → level ≡ 0 → page.level ≡ level → gone ≡ freed ++ (at ∷ [])
      → made ≡ edited key (map entry_of page.entries) edits → IsTree (shapes rule size entry_of find) key level low high at es ps
      → Becomes (shapes rule size entry_of find) (StandsFor key level high made children) pages pages freed gone (edited key es edits) ps
  leaf-read level low high pages freed gone made children edits es ps is same is_gone is_made tree =
      let t : HasLeaf (shapes rule size entry_of find) key 1 low high at es ps = subst (λ (m : ℕ). IsTree (shapes rule size entry_of find) key m low high at es ps) is tree in
      let entries : edited key es edits ≡ made = ap (λ (l : List E). edited key l edits) (sym (leaf-entries level low high es ps is same tree)) ∙ sym is_made in
      subst (λ (m : ℕ). Becomes (shapes rule size entry_of find) (StandsFor key m high made children) pages pages freed gone (edited key es edits) ps) (sym is) (record {
        more = [];
        gone = at ∷ [];
        kept = [];
        pages = sym (append-nil pages);
        freed = is_gone;
        counted = λ ib. zero-first _ _ (ap (tally ib) (sym t.alone));
        tree = λ after name k s. ([], (entries, refl), λ ib. refl);
      })

  -- an inner page that is freed, and its children after edits
  pub inner-read : (n level low high : ℕ) (old mid : List (PlanPage E)) (freed first gone : List Bref) (entries : List E) (ds : List (ℕ × Child)) (edits : List (ℕ × Option E)) (es : List E) (ps : List Bref) → level ≡ suc n → page.level ≡ level
      → first ≡ freed ++ (at ∷ [])
      → ((fs : List E) (qs : List Bref) → AreBelow (IsTree (shapes rule size entry_of find) key n) high (map (child_in rule) page.entries) fs qs
      → Replaces (shapes rule size entry_of find) key n high old mid first gone ds (edited key fs edits) qs)
      → IsTree (shapes rule size entry_of find) key level low high at es ps → Becomes (shapes rule size entry_of find) (StandsFor key level high entries ds) old mid freed gone (edited key es edits) ps
  inner-read n level low high old mid freed first gone entries ds edits es ps is same is_first children tree =
      let t : HasInner (shapes rule size entry_of find) (IsTree (shapes rule size entry_of find) key n) (suc n) 1 low high at es ps = subst (λ (m : ℕ). IsTree (shapes rule size entry_of find) key m low high at es ps) is tree in
      let here : shapes rule size entry_of find at ≡ Some (inner (suc n) (map (child_in rule) page.entries)) =
      shown-here rule size entry_of find at body page found reads ∙ ap Some (inner-shape rule entry_of page n (same ∙ is)) in
      let kids : t.children ≡ map (child_in rule) page.entries = ap (λ (s : Shape E). s.children) (some-same _ (inner (suc n) t.children) (inner (suc n) (map (child_in rule) page.entries)) t.shown here) in
      let r = children es t.below (subst (λ (l : List (ℕ × Bref)). AreBelow (IsTree (shapes rule size entry_of find) key n) high l es t.below) kids t.are) in
      subst (λ (m : ℕ). Becomes (shapes rule size entry_of find) (StandsFor key m high entries ds) old mid freed gone (edited key es edits) ps) (sym is) (record {
        more = r.more;
        gone = at ∷ r.gone;
        kept = r.kept;
        pages = r.pages;
        freed = r.freed ∙ ap (λ (l : List Bref). l ++ r.gone) is_first ∙ append_assoc freed (at ∷ []) r.gone;
        counted = λ ib. let a = r.counted ib in let b = tally-join ib (at ∷ []) r.gone in let d = tally-join ib (at ∷ []) t.below in let e = ap (tally ib) t.first in
            gone_sum (tally ib r.kept) (tally ib r.gone) (tally ib t.below) (tally ib (at ∷ [])) (tally ib (at ∷ r.gone)) (tally ib (at ∷ t.below)) (tally ib ps) a b d e;
        tree = r.tree;
      })
    where
      gone_sum : (k g b o og ob p : ℕ) → k + g ≡ b → og ≡ o + g → ob ≡ o + b → p ≡ ob → k + og ≡ p
      gone_sum k g b o og ob p x y z w = omega arith

  -- how many there are
  pub leaf-count : (level low high pages freed gone : ℕ) (made : List E) (children : List (ℕ × Child)) (edits : List (ℕ × Option E)) (es : List E) (ps : List Bref) → level ≡ 0 → page.level ≡ level → length page.entries * size_at size page.level ≤ 488 → AreEdits key 0 (2 ^ 64) edits
      → gone ≡ freed + 1 → made ≡ edited key (map entry_of page.entries) edits → IsTree (shapes rule size entry_of find) key level low high at es ps → IsRead size level (puts key es edits) (size_of level made children) pages pages freed gone
  leaf-count level low high pages freed gone made children edits es ps is same fits are one is_made tree =
      let entries = leaf-entries level low high es ps is same tree in
      let short = edited-length key 0 (2 ^ 64) (map entry_of page.entries) edits are in
      let len = length-map page.entries entry_of in
      let long = ap (λ (l : List E). length l) is_made in
      let put = ap (λ (l : List E). puts key l edits) entries in
      subst (λ (m : ℕ). IsRead size m (puts key es edits) (size_of m made children) pages pages freed gone) (sym is) (record {
        few = λ most all. let whole = all.whole (length page.entries) (subst (λ (m : ℕ). length page.entries * size_at size m ≤ 488) (same ∙ is) fits) in omega (arith, short, len, long, put, whole);
        spare = omega (arith, one);
      })

  pub inner-count : (n level low high old mid freed first gone : ℕ) (entries : List E) (ds : List (ℕ × Child)) (edits : List (ℕ × Option E)) (es : List E) (ps : List Bref) → level ≡ suc n → page.level ≡ level → length page.entries * size_at size page.level ≤ 488 → first ≡ freed + 1
      → ((fs : List E) (qs : List Bref) → AreBelow (IsTree (shapes rule size entry_of find) key n) high (map (child_in rule) page.entries) fs qs → IsSpare n (length page.entries) (puts key fs edits) old mid first gone (length ds))
      → IsTree (shapes rule size entry_of find) key level low high at es ps → IsRead size level (puts key es edits) (size_of level entries ds) old mid freed gone
  inner-count n level low high old mid freed first gone entries ds edits es ps is same fits one children tree =
      let below = inner-below n level low high es ps is same tree in
      let s = children es below.0 below.1 in
      let few = s.few in
      let spare = s.spare in
      subst (λ (m : ℕ). IsRead size m (puts key es edits) (size_of m entries ds) old mid freed gone) (sym is) (record {
        few = λ most all. let whole = all.whole (length page.entries) (subst (λ (m : ℕ). length page.entries * size_at size m ≤ 488) (same ∙ is) fits) in let here = size-inner n entries ds in omega (arith, few, whole, here);
        spare = omega (arith, spare, one);
      })

-- by the edits alone
pub leaf-few : {E : Type 0} (size level entries e : ℕ) (made : List E) (children : List (ℕ × Child)) → level ≡ 0 → entries * size_at size level ≤ 488 → length made ≤ entries + e → (most : ℕ) → IsMost size level most → size_of level made children ≤ most + e
leaf-few {E} size level entries e made children is fits short most all =
    let whole = all.whole entries fits in
    let here : size_of level made children ≡ length made = subst (λ (m : ℕ). size_of m made children ≡ length made) (sym is) refl in
    omega (arith, whole, short, here)

pub inner-few : {E : Type 0} (size n level entries e : ℕ) (made : List E) (children : List (ℕ × Child)) → level ≡ suc n → entries * size_at size level ≤ 488 → length children ≤ entries + e → (most : ℕ) → IsMost size level most → size_of level made children ≤ most + e
inner-few {E} size n level entries e made children is fits short most all =
    let whole = all.whole entries fits in
    let here : size_of level made children ≡ length children = subst (λ (m : ℕ). size_of m made children ≡ length children) (sym is) (size-inner n made children) in
    omega (arith, whole, short, here)

-- ---- one child

-- the number from which on the keys from a child on lie
abbrev pub floor_at : ℕ → ℕ → List (ℕ × Bref) → ℕ → ℕ
floor_at low high kids zero = low
floor_at low high kids (suc i) = up_to high (drop (suc i) kids)

-- where a child stands among the others
pub record Stands (low high : ℕ) (kids : List (ℕ × Bref)) (i : ℕ) (c : ℕ × Bref) : Type 0 where
  pub here : drop i kids ≡ c ∷ drop (i + 1) kids
  pub bottom : low ≤ floor_at low high kids i
  pub floor : floor_at low high kids i ≤ c.0
  pub next : c.0 < up_to high (drop (i + 1) kids)
  pub top : up_to high (drop (i + 1) kids) ≤ high
  pub rising : RiseIn (up_to high (drop (i + 1) kids)) high (heads (drop (i + 1) kids))
  pub step : floor_at low high kids (i + 1) ≡ up_to high (drop (i + 1) kids)

next-facts : (k high : ℕ) (rest : List (ℕ × Bref)) → k < high → RiseIn (k + 1) high (heads rest) → (k < up_to high rest) × (up_to high rest ≤ high) × RiseIn (up_to high rest) high (heads rest)
next-facts k high [] less r = (less, omega arith, tt)
next-facts k high (d ∷ rest) less r = let x = r.0 in let y = r.1 in (omega arith, omega arith, (omega arith, y, r.2))

heads-drop : (low high i : ℕ) (kids : List (ℕ × Bref)) → RiseIn low high (heads kids) → RiseIn low high (heads (drop i kids))
heads-drop low high i kids r = rise-drop (λ (c : ℕ × Bref). c.0) low high i kids r

pub child-stands : (low high : ℕ) (kids : List (ℕ × Bref)) (i : ℕ) (c : ℕ × Bref) → RiseIn low high (heads kids) → drop i kids ≡ c ∷ drop (i + 1) kids → Stands low high kids i c
child-stands low high kids i c r here =
    let rises : RiseIn low high (heads (c ∷ drop (i + 1) kids)) = subst (λ (l : List (ℕ × Bref)). RiseIn low high (heads l)) here (heads-drop low high i kids r) in
    let facts = next-facts c.0 high (drop (i + 1) kids) rises.1 rises.2 in
    let e : i + 1 ≡ suc i = omega arith in
    record {
      here = here;
      bottom = over i here rises.0;
      floor = under i here rises.0;
      next = facts.0;
      top = facts.1;
      rising = facts.2;
      step = ap (floor_at low high kids) e ∙ ap (λ (n : ℕ). up_to high (drop n kids)) (sym e);
    }
  where
    over : (j : ℕ) → drop j kids ≡ c ∷ drop (j + 1) kids → low ≤ c.0 → low ≤ floor_at low high kids j
    over zero e le = omega arith
    over (suc j) e le = let f : up_to high (drop (suc j) kids) ≡ c.0 = ap (up_to high) e in omega arith

    under : (j : ℕ) → drop j kids ≡ c ∷ drop (j + 1) kids → low ≤ c.0 → floor_at low high kids j ≤ c.0
    under zero e le = le
    under (suc j) e le = let f : up_to high (drop (suc j) kids) ≡ c.0 = ap (up_to high) e in omega arith

-- the seat that a child's entry makes
pub record Seated (low high : ℕ) (kids : List (ℕ × Bref)) (i : ℕ) (c : ℕ × Bref) (seat_low seat_high : ℕ) : Type 0 where
  pub stands : Stands low (high + 1) kids i c
  pub low_is : seat_low ≡ floor_at low (high + 1) kids i
  pub high_is : seat_high + 1 ≡ up_to (high + 1) (drop (i + 1) kids)

pub child-seated : (rule : ℕ → ℕ) (low high : ℕ) (entries : List (List ℕ)) (i key seat_low seat_high : ℕ) (at : Bref) → i < length entries → RiseIn low (high + 1) (keys rule entries)
    → (key, at) ≡ child_in rule (get_or entries i []) → (i ≡ 0 → seat_low ≡ low) → (1 ≤ i → seat_low ≡ key) → (i + 1 ≡ length entries → seat_high ≡ high)
    → (i + 1 < length entries → seat_high ≡ (child_in rule (get_or entries (i + 1) [])).0 - 1) → Seated low high (map (child_in rule) entries) i (key, at) seat_low seat_high
child-seated rule low high entries i key seat_low seat_high at inside rises is first later last next =
    let kids : List (ℕ × Bref) = map (child_in rule) entries in
    let here : drop i kids ≡ (key, at) ∷ drop (i + 1) kids = drop-here (child_in rule) entries i [] inside ∙ ap (λ (c : ℕ × Bref). c ∷ drop (i + 1) kids) (sym is) in
    let s = child-stands low (high + 1) kids i (key, at) (subst (RiseIn low (high + 1)) (sym (same-heads rule entries)) rises) here in
    record { stands = s; low_is = low_of i here first later; high_is = high_of s.next }
  where
    low_of : (j : ℕ) → drop j (map (child_in rule) entries) ≡ (key, at) ∷ drop (j + 1) (map (child_in rule) entries) → (j ≡ 0 → seat_low ≡ low) → (1 ≤ j → seat_low ≡ key) → seat_low ≡ floor_at low (high + 1) (map (child_in rule) entries) j
    low_of zero e a b = a refl
    low_of (suc j) e a b = b (omega arith) ∙ sym (ap (up_to (high + 1)) e)

    high_of : key < up_to (high + 1) (drop (i + 1) (map (child_in rule) entries)) → seat_high + 1 ≡ up_to (high + 1) (drop (i + 1) (map (child_in rule) entries))
    high_of less = elim (cases_lt (i + 1) (length entries)) [
      | inl more ↦ let e = ap (up_to (high + 1)) (drop-here (child_in rule) entries (i + 1) [] more) in let f = next more in omega (arith, e, f, less)
      | inr end ↦ let len = length-map entries (child_in rule) in let e = ap (up_to (high + 1)) (drop_all (i + 1) (map (child_in rule) entries) (omega (arith, len, end))) in let f = last (omega arith) in omega (arith, e, f)
    ]
