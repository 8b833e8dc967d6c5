-- Where the first entry from a key on is.
use Rattle.std.proofs.Common.{Bool, true, false, ◌≡◌, ℕ, zero, suc, ◌+◌, ◌-◌, ◌^◌, ◌≤◌, ◌<◌, leb, if◌then◌else◌, List, [], ◌∷◌, ◌++◌, map, length, drop, take, get_or, refl, sym, ap, subst, ◌∙◌, arith, Option, Some, None, Ok, inl, inr, take-append-drop, length-drop}
use Rattle.std.proofs.lemmas.Bool.{le-leb, lt-leb}
use Rattle.std.proofs.lemmas.List.{drop_all, length-map}
use Rattle.pst_base.specs.declared.ids.Bref.{Bref}
use Rattle.pst_base.specs.declared.stops.MemOr.{MemOr}
use Rattle.pst_base.specs.declared.stops.MemOr.TheVariants.{Memory, Refused}
use Rattle.pst_base.specs.declared.stops.SourceStop.{SourceStop}
use Rattle.pst_base.specs.declared.stops.SourceStop.TheVariants.{Failed, Changed}
use Rattle.pst_base.specs.Fields.{number_at}
use Rattle.btree_pages.specs.Entries.{inner_of}
use Rattle.btree_pages.specs.Pages.{Page, keys, page_of}
use Rattle.tree_edit.specs.Shapes.{Shape, leaf, inner, RiseIn, heads, up_to, OneThen, AreBelow, HasLeaf, HasInner, IsTree, IsRootOf, IsWhole}
use Rattle.tree_edit.specs.Pages.{child_in, shape_of, shown, shapes}
use Rattle.tree_edit.specs.Source.{Source, Rose, Later}
use Rattle.tree_edit.proofs.ShapeLaws.{tree-rise, below-rise, below-part, Parted, rise-part, map-join}
use Rattle.tree_edit.proofs.EditLaws.{AreUnder, rise-under}
use Rattle.tree_edit.proofs.MergeLaws.{drop-here}
use Rattle.tree_edit.proofs.StepLaws.{same-heads, same-keys, shown-here, some-same, leaf-shape, inner-shape}
use Rattle.tree_edit.proofs.RootLaws.{shape-level}
use Rattle.tree_edit.proofs.LoopLaws.{later-then}
use Rattle.tree_search.specs.Search.{first_from, IsAny, IsTop, StopsIn, IsStart}
-- ---- lists

-- Where the first entry from a key on is.
use Rattle.std.proofs.Common.{Bool, true, false, ◌≡◌, ℕ, zero, suc, ◌+◌, ◌-◌, ◌^◌, ◌≤◌, ◌<◌, leb, if◌then◌else◌, List, [], ◌∷◌, ◌++◌, map, length, drop, take, get_or, refl, sym, ap, subst, ◌∙◌, arith, Option, Some, None, Ok, inl, inr, take-append-drop}
use Rattle.std.proofs.lemmas.Bool.{le-leb, lt-leb}
use Rattle.std.proofs.lemmas.List.{drop_all, length-map}
use Rattle.pst_base.specs.declared.ids.Bref.{Bref}
use Rattle.pst_base.specs.declared.stops.MemOr.{MemOr}
use Rattle.pst_base.specs.declared.stops.MemOr.TheVariants.{Memory, Refused}
use Rattle.pst_base.specs.declared.stops.SourceStop.{SourceStop}
use Rattle.pst_base.specs.declared.stops.SourceStop.TheVariants.{Failed, Changed}
use Rattle.pst_base.specs.Fields.{number_at}
use Rattle.btree_pages.specs.Entries.{inner_of}
use Rattle.btree_pages.specs.Pages.{Page, keys, page_of}
use Rattle.tree_edit.specs.Shapes.{Shape, leaf, inner, RiseIn, heads, up_to, OneThen, AreBelow, HasLeaf, HasInner, IsTree, IsRootOf, IsWhole}
use Rattle.tree_edit.specs.Pages.{child_in, shape_of, shown, shapes}
use Rattle.tree_edit.specs.Source.{Source, Rose, Later}
use Rattle.tree_edit.proofs.ShapeLaws.{tree-rise, below-rise, below-part, Parted, rise-part, map-join}
use Rattle.tree_edit.proofs.EditLaws.{AreUnder, rise-under}
use Rattle.tree_edit.proofs.MergeLaws.{drop-here}
use Rattle.tree_edit.proofs.StepLaws.{same-heads, same-keys, shown-here, some-same, leaf-shape, inner-shape}
use Rattle.tree_edit.proofs.RootLaws.{shape-level}
use Rattle.tree_edit.proofs.LoopLaws.{later-then}
use Rattle.tree_search.specs.Search.{first_from, IsAny, IsTop, StopsIn, IsStart}

-- ---- lists

pub first-under : {E : Type 0} (key : E → ℕ) (low : ℕ) (xs ys : List E) → AreUnder key low xs → first_from key low (xs ++ ys) ≡ first_from key low ys
first-under key low [] ys a = refl
first-under key low (x ∷ xs) ys a = rw (lt-leb low (key x) a.0) (first-under key low xs ys a.1)

-- what the first part has, or else the second
abbrev pub or_else : {E : Type 0} → Option E → Option E → Option E
or_else None more = more
or_else (Some e) more = Some e

pub first-join : {E : Type 0} (key : E → ℕ) (low : ℕ) (xs ys : List E) → first_from key low (xs ++ ys) ≡ or_else (first_from key low xs) (first_from key low ys)
first-join key low [] ys = refl
first-join {E} key low (x ∷ xs) ys = by_key (leb low (key x)) (first-join key low xs ys)
  where
    by_key : (b : Bool) → first_from key low (xs ++ ys) ≡ or_else (first_from key low xs) (first_from key low ys)
        → (if b then Some x else first_from key low (xs ++ ys)) ≡ or_else (if b then Some x else first_from key low xs) (first_from key low ys)
    by_key true e = refl
    by_key false e = e

pub rise-at : (low high n : ℕ) (ks : List ℕ) → RiseIn low high ks → n < length ks → low ≤ get_or ks n 0
rise-at low high n [] r h = absurd (omega (arith, h))
rise-at low high zero (k ∷ ks) r h = r.0
rise-at low high (suc n) (k ∷ ks) r h =
    let a = r.0 in
    let b = rise-at (k + 1) high n ks r.2 (omega (arith, h)) in
    omega (arith, a, b)

-- entries before the start are below the key
started-at : {E : Type 0} (key : E → ℕ) (low lo hi start : ℕ) (xs : List E) → RiseIn lo hi (map key xs) → start < length (map key xs) → get_or (map key xs) start 0 ≤ low → first_from key low (drop start xs) ≡ first_from key low xs
started-at key low lo hi zero xs r h at = refl
started-at key low lo hi (suc n) [] r h at = refl
started-at key low lo hi (suc n) (x ∷ xs) r h at =
    let here : n < length (map key xs) = omega (arith, h) in
    let reached = rise-at (key x + 1) hi n (map key xs) r.2 here in
    let less : key x < low = omega (arith, reached, at) in
    rw (lt-leb low (key x) less) (started-at key low (key x + 1) hi n xs r.2 here at)

pub started : {E : Type 0} (key : E → ℕ) (low lo hi start : ℕ) (xs : List E) → RiseIn lo hi (map key xs) → IsStart (map key xs) low start → first_from key low (drop start xs) ≡ first_from key low xs
started key low lo hi start xs rises (inl z) = ap (λ (i : ℕ). first_from key low (drop i xs)) z
started key low lo hi start xs rises (inr at) = started-at key low lo hi start xs rises at.0 at.1

-- ---- what a page of a tree shows

module _ {E : Type 0} (rule : ℕ → ℕ) (size : ℕ) (entry_of : List ℕ → E) (key : E → ℕ) (law : (b : List ℕ) → key (entry_of b) ≡ rule (number_at 8 0 b)) (find : Bref → Option (List ℕ)) (at : Bref) (body : List ℕ)
    (found : find at ≡ Some body) (most : ℕ) (es : List E) (t : IsTop (shapes rule size entry_of find) key most at es) where
  module _ (page : Page) (reads : page_of rule size body ≡ Ok page) where
    pub top-level : page.level ≡ t.level
    top-level = go t.level t.tree
      where
        go : (n : ℕ) → IsAny (shapes rule size entry_of find) key n t.least t.low t.high at es t.pages → page.level ≡ n
        go zero l = sym (shape-level {E = E} rule entry_of page) ∙ ap (λ (s : Shape E). s.level) (some-same _ (shape_of rule entry_of page) (leaf es) (shown-here rule size entry_of find at body page found reads) l.shown)
        go (suc n) l = sym (shape-level {E = E} rule entry_of page) ∙ ap (λ (s : Shape E). s.level) (some-same _ (shape_of rule entry_of page) (inner (suc n) l.children) (shown-here rule size entry_of find at body page found reads) l.shown)

    -- a leaf has the entries
    pub top-leaf : (low start : ℕ) → page.level ≡ 0 → IsStart (keys rule page.entries) low start → first_from key low (drop start (map entry_of page.entries)) ≡ first_from key low es
    top-leaf low start z begins =
        let l : HasLeaf (shapes rule size entry_of find) key t.least t.low t.high at es t.pages = subst (λ (n : ℕ). IsAny (shapes rule size entry_of find) key n t.least t.low t.high at es t.pages) (sym top-level ∙ z) t.tree in
        let same : map entry_of page.entries ≡ es = ap (λ (s : Shape E). s.entries) (some-same _ (leaf (map entry_of page.entries)) (leaf es) (shown-here rule size entry_of find at body page found reads ∙ ap Some (leaf-shape rule entry_of page z)) l.shown) in
        let named : keys rule page.entries ≡ map key es = sym (same-keys rule entry_of key law page.entries) ∙ ap (map key) same in
        ap (λ (l : List E). first_from key low (drop start l)) same ∙ started key low t.low t.high start es l.rises (subst (λ (ks : List ℕ). IsStart ks low start) named begins)

    -- an inner page has children with them
    pub top-inner : (n : ℕ) → page.level ≡ suc n → HasInner (shapes rule size entry_of find) (IsTree (shapes rule size entry_of find) key n) (suc n) t.least t.low t.high at es t.pages
    top-inner n e = subst (λ (m : ℕ). IsAny (shapes rule size entry_of find) key m t.least t.low t.high at es t.pages) (sym top-level ∙ e) t.tree

    pub top-kids : (n : ℕ) (e : page.level ≡ suc n) → (top-inner n e).children ≡ map (child_in rule) page.entries
    top-kids n e = let i = top-inner n e in
        ap (λ (s : Shape E). s.children) (some-same _ (inner (suc n) i.children) (inner (suc n) (map (child_in rule) page.entries)) i.shown (shown-here rule size entry_of find at body page found reads ∙ ap Some (inner-shape rule entry_of page n e)))

-- ---- going on through the children of a page

-- the children from a place on have all entries from the key on
pub record Behind {E : Type 0} (find : Bref → Option (Shape E)) (key : E → ℕ) (n high low : ℕ) (kids : List (ℕ × Bref)) (es : List E) : Type 0 where
  pub behind : List E
  pub pages : List Bref
  pub are : AreBelow (IsTree find key n) high kids behind pages
  pub same : first_from key low behind ≡ first_from key low es

pub behind-start : {E : Type 0} (find : Bref → Option (Shape E)) (key : E → ℕ) (n lo high low start : ℕ) (kids : List (ℕ × Bref)) (es : List E) (ps : List Bref) → RiseIn lo high (heads kids) → IsStart (heads kids) low start
    → AreBelow (IsTree find key n) high kids es ps → Behind find key n high low (drop start kids) es
behind-start {E} find key n lo high low start kids es ps rises (inl z) are =
    subst (λ (i : ℕ). Behind find key n high low (drop i kids) es) (sym z) (record { behind = es; pages = ps; are = are; same = refl })
behind-start {E} find key n lo high low start kids es ps rises (inr at) are = go (drop start kids) refl
  where
    split : (rest : List (ℕ × Bref)) → drop start kids ≡ rest → kids ≡ take start kids ++ rest
    split rest is = sym (take-append-drop start kids) ∙ ap (λ (l : List (ℕ × Bref)). take start kids ++ l) is

    head-low : (ks : List (ℕ × Bref)) (i : ℕ) (c : ℕ × Bref) (rest : List (ℕ × Bref)) → drop i ks ≡ c ∷ rest → get_or (heads ks) i 0 ≡ c.0
    head-low [] zero c rest is = absurd (cc)
    head-low [] (suc i) c rest is = absurd (cc)
    head-low (k ∷ ks) zero c rest is = let same : k ≡ c = cc in ap (λ (x : ℕ × Bref). x.0) same
    head-low (k ∷ ks) (suc i) c rest is = head-low ks i c rest is

    go : (rest : List (ℕ × Bref)) → drop start kids ≡ rest → Behind find key n high low rest es
    go [] is =
        let len = length-map kids (λ (c : ℕ × Bref). c.0) in
        let h = at.0 in
        let size = ap (λ (l : List (ℕ × Bref)). length l) is in
        let cut = length-drop start kids in
        absurd (omega (arith, len, h, size, cut))
    go (c ∷ rest) is =
        let whole = split (c ∷ rest) is in
        let parted : Parted (IsTree find key n) high (take start kids) (c ∷ rest) es ps = below-part (IsTree find key n) high (take start kids) (c ∷ rest) es ps (subst (λ (l : List (ℕ × Bref)). AreBelow (IsTree find key n) high l es ps) whole are) in
        let all_rise : RiseIn lo high (heads (take start kids) ++ (c.0 ∷ heads rest)) = subst (RiseIn lo high) (ap heads whole ∙ map-join (λ (x : ℕ × Bref). x.0) (take start kids) (c ∷ rest)) rises in
        let parts = rise-part lo high c.0 (heads (take start kids)) (heads rest) all_rise in
        let before_rise = below-rise (IsTree find key n) key (λ l h at es ps t. tree-rise find key n l h at es ps t) lo c.0 (take start kids) parted.before parted.before_pages parts.0 parted.here in
        let low_enough : c.0 ≤ low = subst (λ (k : ℕ). k ≤ low) (head-low kids start c rest is) at.1 in
        record {
          behind = parted.behind;
          pages = parted.behind_pages;
          are = parted.there;
          same = sym (ap (first_from key low) parted.entries ∙ first-under key low parted.before parted.behind (rise-under key lo c.0 low parted.before before_rise low_enough));
        }

-- the next child, and what it has
pub behind-one : {E : Type 0} (find : Bref → Option (Shape E)) (key : E → ℕ) (n high low : ℕ) (c : ℕ × Bref) (rest : List (ℕ × Bref)) (es : List E) → Behind find key n high low (c ∷ rest) es
    → (first : List E) × IsTop find key n c.1 first × (first_from key low first ≡ None → Behind find key n high low rest es) × ((e : E) → first_from key low first ≡ Some e → first_from key low es ≡ Some e)
behind-one {E} find key n high low c rest es b =
    let o : OneThen (IsTree find key n) (AreBelow (IsTree find key n) high rest) c.0 (up_to high rest) c.1 b.behind b.pages = b.are in
    let join : first_from key low b.behind ≡ or_else (first_from key low o.first) (first_from key low o.later) = ap (first_from key low) o.entries ∙ first-join key low o.first o.later in (
      o.first,
      record { level = n; low_enough = omega arith; least = 1; low = c.0; high = up_to high rest; pages = o.first_pages; tree = any_of n c.0 (up_to high rest) c.1 o.first o.first_pages o.one },
      (λ none. record { behind = o.later; pages = o.later_pages; are = o.rest; same = sym (join ∙ ap (λ (x : Option E). or_else x (first_from key low o.later)) none) ∙ b.same }),
      (λ e some. sym b.same ∙ join ∙ ap (λ (x : Option E). or_else x (first_from key low o.later)) some),
    )
  where
    any_of : (m lo hi : ℕ) (at : Bref) (fs : List E) (qs : List Bref) → IsTree find key m lo hi at fs qs → IsAny find key m 1 lo hi at fs qs
    any_of zero lo hi at fs qs t = t
    any_of (suc m) lo hi at fs qs t = t

-- the tree of a root
pub root-top : {E : Type 0} (find : Bref → Option (Shape E)) (key : E → ℕ) (root : Bref) (es : List E) (ps : List Bref) → IsWhole find key root es ps → IsTop find key 7 root es
root-top {E} find key root es ps whole = record { level = whole.level; low_enough = whole.low_enough; least = 0; low = 0; high = 2 ^ 64; pages = ps; tree = any_root whole.level whole.tree }
  where
    any_root : (m : ℕ) → IsRootOf find key m 0 (2 ^ 64) root es ps → IsAny find key m 0 0 (2 ^ 64) root es ps
    any_root zero t = t
    any_root (suc m) t = t

-- ---- stops

rose-before : (a b c : ℕ) → a ≤ b → Rose b c → Rose a c
rose-before a b c h r = omega (arith, h, r)

-- a stop below, after some calls
pub below-stops : {A : Type 0} (old mid new : Source A) (Whole Part : (Bref → Option (List ℕ)) → Type 0) → Later old mid → ((find : Bref → Option (List ℕ)) → old.holds find → Whole find → Part find)
    → (stop : MemOr SourceStop) → StopsIn mid new Part stop → StopsIn old new Whole stop
below-stops old mid new Whole Part first part Memory stops = tt
below-stops old mid new Whole Part first part (Refused Failed) stops = rose-before old.fails mid.fails new.fails first.fails stops
below-stops old mid new Whole Part first part (Refused (Changed ib stored computed)) stops = λ find told is. stops find (first.told find told) (part find told is)

-- ---- the loop

pub record Onward {A E : Type 0} (rule : ℕ → ℕ) (size : ℕ) (entry_of : List ℕ → E) (key : E → ℕ) (first now : Source A) (most : ℕ) (at : Bref) (low : ℕ) (page : Page) (i : ℕ) : Type 0 where
  pub later : Later first now
  pub so_far : (find : Bref → Option (List ℕ)) → first.holds find → (es : List E) → IsTop (shapes rule size entry_of find) key most at es
      → (n : ℕ) × (high : ℕ) × (page.level ≡ suc n) × (suc n ≤ most) × Behind (shapes rule size entry_of find) key n high low (drop i (map (child_in rule) page.entries)) es

-- ---- a leaf

pub leaf-next : {E : Type 0} (key : E → ℕ) (entry_of : List ℕ → E) (low i : ℕ) (bs : List (List ℕ)) → i < length bs → key (entry_of (get_or bs i [])) < low
    → first_from key low (drop i (map entry_of bs)) ≡ first_from key low (drop (i + 1) (map entry_of bs))
leaf-next key entry_of low i bs h less = ap (first_from key low) (drop-here entry_of bs i [] h) ∙ rw (lt-leb low (key (entry_of (get_or bs i []))) less) refl

pub leaf-here : {E : Type 0} (key : E → ℕ) (entry_of : List ℕ → E) (low i : ℕ) (bs : List (List ℕ)) → i < length bs → low ≤ key (entry_of (get_or bs i []))
    → first_from key low (drop i (map entry_of bs)) ≡ Some (entry_of (get_or bs i []))
leaf-here key entry_of low i bs h le = ap (first_from key low) (drop-here entry_of bs i [] h) ∙ rw (le-leb low (key (entry_of (get_or bs i []))) le) refl

pub leaf-end : {E : Type 0} (key : E → ℕ) (entry_of : List ℕ → E) (low i : ℕ) (bs : List (List ℕ)) → length bs ≤ i → first_from key low (drop i (map entry_of bs)) ≡ None
leaf-end key entry_of low i bs h = let len = length-map bs entry_of in ap (first_from key low) (drop_all i (map entry_of bs) (omega (arith, len, h)))

-- ---- the loop's steps

module _ {A E : Type 0} (rule : ℕ → ℕ) (size : ℕ) (entry_of : List ℕ → E) (key : E → ℕ) (law : (b : List ℕ) → key (entry_of b) ≡ rule (number_at 8 0 b)) (first now : Source A) (most : ℕ) (at : Bref) (low : ℕ) (page : Page) where
  pub onward-start : (start : ℕ) (body : List ℕ) → Later first now → ((find : Bref → Option (List ℕ)) → first.holds find → find at ≡ Some body) → page_of rule size body ≡ Ok page → (page.level ≡ 0 → ⊥)
      → IsStart (keys rule page.entries) low start → Onward rule size entry_of key first now most at low page start
  onward-start start body later found reads inner_level begins = record {
    later = later;
    so_far = λ find told es t.
        let n = page.level - 1 in
        let e : page.level ≡ suc n = level_is page.level inner_level in
        let is = top-level rule size entry_of key law find at body (found find told) most es t page reads in
        let up = t.low_enough in
        let i = top-inner rule size entry_of key law find at body (found find told) most es t page reads n e in
        let kids : i.children ≡ map (child_in rule) page.entries = top-kids rule size entry_of key law find at body (found find told) most es t page reads n e in
        let rises : RiseIn t.low t.high (heads (map (child_in rule) page.entries)) = subst (λ (l : List (ℕ × Bref)). RiseIn t.low t.high (heads l)) kids i.rises in
        let are : AreBelow (IsTree (shapes rule size entry_of find) key n) t.high (map (child_in rule) page.entries) es i.below = subst (λ (l : List (ℕ × Bref)). AreBelow (IsTree (shapes rule size entry_of find) key n) t.high l es i.below) kids i.are in (
          n,
          t.high,
          e,
          omega (arith, is, up, e),
          behind-start (shapes rule size entry_of find) key n t.low t.high low start (map (child_in rule) page.entries) es i.below rises (subst (λ (ks : List ℕ). IsStart ks low start) (sym (same-heads rule page.entries)) begins) are,
        );
  }
    where
      level_is : (l : ℕ) → (l ≡ 0 → ⊥) → l ≡ suc (l - 1)
      level_is zero no_zero = absurd (no_zero refl)
      level_is (suc l) no_zero = omega arith

  -- what the next child is the top of
  pub onward-part : (i : ℕ) → Onward rule size entry_of key first now most at low page i → i < length page.entries → (find : Bref → Option (List ℕ)) → first.holds find → (es : List E) → IsTop (shapes rule size entry_of find) key most at es
      → (part : List E) × IsTop (shapes rule size entry_of find) key (most - 1) (inner_of (get_or page.entries i [])).page part
      × (first_from key low part ≡ None → (n : ℕ) × (high : ℕ) × (page.level ≡ suc n) × (suc n ≤ most) × Behind (shapes rule size entry_of find) key n high low (drop (i + 1) (map (child_in rule) page.entries)) es)
      × ((e : E) → first_from key low part ≡ Some e → first_from key low es ≡ Some e)
  onward-part i o h find told es t =
      let s = o.so_far find told es t in
      let n = s.0 in
      let high = s.1 in
      let up = s.3 in
      let b : Behind (shapes rule size entry_of find) key n high low (child_in rule (get_or page.entries i []) ∷ drop (i + 1) (map (child_in rule) page.entries)) es =
      subst (λ (l : List (ℕ × Bref)). Behind (shapes rule size entry_of find) key n high low l es) (drop-here (child_in rule) page.entries i [] h) s.4 in
      let one = behind-one (shapes rule size entry_of find) key n high low (child_in rule (get_or page.entries i [])) (drop (i + 1) (map (child_in rule) page.entries)) es b in
      let top = one.1 in
      let some = top.low_enough in (
        one.0,
        record { level = top.level; low_enough = omega (arith, up, some); least = top.least; low = top.low; high = top.high; pages = top.pages; tree = top.tree },
        (λ none. (n, high, s.2, s.3, one.2 none)),
        one.3,
      )

  pub onward-next : (i : ℕ) (next : Source A) (found : Option E) → Onward rule size entry_of key first now most at low page i → i < length page.entries → Later now next
      → ((find : Bref → Option (List ℕ)) → now.holds find → (part : List E) → IsTop (shapes rule size entry_of find) key (most - 1) (inner_of (get_or page.entries i [])).page part → found ≡ first_from key low part)
      → found ≡ None → Onward rule size entry_of key first next most at low page (i + 1)
  onward-next i next found o h later is none = record {
    later = later-then o.later later;
    so_far = λ find told es t.
        let p = onward-part i o h find told es t in
        p.2 (sym (is find (o.later.told find told) p.0 p.1) ∙ none);
  }

  pub onward-found : (i : ℕ) (found : Option E) → Onward rule size entry_of key first now most at low page i → i < length page.entries
      → ((find : Bref → Option (List ℕ)) → now.holds find → (part : List E) → IsTop (shapes rule size entry_of find) key (most - 1) (inner_of (get_or page.entries i [])).page part → found ≡ first_from key low part)
      → (found ≡ None → ⊥) → (find : Bref → Option (List ℕ)) → first.holds find → (es : List E) → IsTop (shapes rule size entry_of find) key most at es → found ≡ first_from key low es
  onward-found i found o h is some find told es t = by_found found refl
    where
      p : (part : List E) × IsTop (shapes rule size entry_of find) key (most - 1) (inner_of (get_or page.entries i [])).page part
          × (first_from key low part ≡ None → (n : ℕ) × (high : ℕ) × (page.level ≡ suc n) × (suc n ≤ most) × Behind (shapes rule size entry_of find) key n high low (drop (i + 1) (map (child_in rule) page.entries)) es)
          × ((e : E) → first_from key low part ≡ Some e → first_from key low es ≡ Some e)
      p = onward-part i o h find told es t

      by_found : (f : Option E) → found ≡ f → found ≡ first_from key low es
      by_found None e = absurd (some e)
      by_found (Some x) e = e ∙ sym (p.3 x (sym (is find (o.later.told find told) p.0 p.1) ∙ e))

  pub onward-end : (i : ℕ) → Onward rule size entry_of key first now most at low page i → length page.entries ≤ i → (find : Bref → Option (List ℕ)) → first.holds find → (es : List E) → IsTop (shapes rule size entry_of find) key most at es
      → None ≡ first_from key low es
  onward-end i o h find told es t =
      let s = o.so_far find told es t in
      let n = s.0 in
      let high = s.1 in
      let len = length-map page.entries (child_in rule) in
      let b : Behind (shapes rule size entry_of find) key n high low [] es = subst (λ (l : List (ℕ × Bref)). Behind (shapes rule size entry_of find) key n high low l es) (drop_all i (map (child_in rule) page.entries) (omega (arith, len, h))) s.4 in
      let none : first_from key low b.behind ≡ None = ap (first_from key low) b.are.0 in
      sym (sym b.same ∙ none)
