-- Pages of a packed tree are the tree of its entries.
use Rattle.std.proofs.Common.{◌≡◌, ◌∙◌, ℕ, zero, suc, ◌+◌, ◌^◌, ◌≤◌, ◌<◌, List, [], ◌∷◌, ◌++◌, map, length, Option, Some, refl, sym, ap, subst, arith}
use Rattle.std.proofs.lemmas.List.{append-nil}
use Rattle.pst_base.specs.declared.ids.Bref.{Bref}
use Rattle.data_tree.proofs.PieceLaws.{Each, cut-some, joined, joined-cut}
use Rattle.tree_edit.specs.Plans.{tally}
use Rattle.tree_edit.specs.Shapes.{AreBelow, IsRootOf, IsTree, RiseIn, Shape, heads, inner, leaf, up_to}
use Rattle.tree_edit.proofs.PlanLaws.{tally-join}
use Rattle.tree_edit.proofs.ShapeLaws.{below-part, map-join, rise-part, rise-widen}
use Rattle.packed_tree.specs.Packed.{ArePages, AreAbove, AreTree, IsPacked, children, groups, head}

-- a group that isn't empty
abbrev pub Has : {X : Type 0} → List X → Type 0
Has g = 0 < length g

-- ---- groups

pub groups-joined : {X : Type 0} (most : ℕ) (xs : List X) → 0 < most → joined (groups most xs) ≡ xs
groups-joined most [] some = refl
groups-joined most (x ∷ xs) some = joined-cut most (x ∷ xs) some

pub groups-some : {X : Type 0} (most : ℕ) (xs : List X) → 0 < most → 0 < length xs → Each Has (groups most xs)
groups-some most [] some has = absurd (omega (arith, has))
groups-some most (x ∷ xs) some has = cut-some most (x ∷ xs) some

-- ---- keys

rise-behind : (low high : ℕ) (xs ys : List ℕ) → RiseIn low high (xs ++ ys) → RiseIn low high ys
rise-behind low high [] ys r = r
rise-behind low high (x ∷ xs) ys r =
    let a = r.0 in rise-widen (x + 1) high low high ys (rise-behind (x + 1) high xs ys r.2) (omega (arith, a)) (omega arith)

-- the first keys of groups rise where all keys do
pub heads-rise : {X : Type 0} (key : X → ℕ) (low high : ℕ) (gs : List (List X)) (ats : List Bref) → Each Has gs → RiseIn low high (map key (joined gs)) → RiseIn low high (map head (children key gs ats))
heads-rise key low high [] ats some r = tt
heads-rise key low high (g ∷ gs) [] some r = tt
heads-rise key low high ([] ∷ gs) (at ∷ ats) some r = absurd (let a = some.0 in omega (arith, a))
heads-rise key low high ((x ∷ g) ∷ gs) (at ∷ ats) some r =
    (r.0, r.1, heads-rise key (key x + 1) high gs ats some.1 (rise-behind (key x + 1) high (map key g) (map key (joined gs)) (subst (RiseIn (key x + 1) high) (map-join key g (joined gs)) r.2)))

-- what rises over a group and those behind it rises in the group below the next one's first key, and behind it
record Splits {X : Type 0} (key : X → ℕ) (low high : ℕ) (g : List X) (gs : List (List X)) (ats : List Bref) : Type 0 where
  here : RiseIn low (up_to high (children key gs ats)) (map key g)
  floor : ℕ
  there : RiseIn floor high (map key (joined gs))

split-rise : {X S : Type 0} (key : X → ℕ) (low high : ℕ) (g : List X) (gs : List (List X)) (find : Bref → Option (Shape S)) (shape : List X → Shape S) (ats : List Bref) → Each Has gs → ArePages find (map shape gs) ats
    → RiseIn low high (map key (g ++ joined gs)) → Splits key low high g gs ats
split-rise {X} key low high g [] find shape ats some are r = record { here = subst (λ (l : List X). RiseIn low high (map key l)) (append-nil g) r; floor = 0; there = tt }
split-rise key low high g (h ∷ gs) find shape [] some are r = absurd are
split-rise key low high g ([] ∷ gs) find shape (at ∷ ats) some are r = absurd (let a = some.0 in omega (arith, a))
split-rise key low high g ((y ∷ h) ∷ gs) find shape (at ∷ ats) some are r =
    let parts = rise-part low high (key y) (map key g) (map key (h ++ joined gs)) (subst (RiseIn low high) (map-join key g ((y ∷ h) ++ joined gs)) r) in
    record { here = parts.0; floor = key y; there = parts.2 }

-- ---- leaves

below-leaves : {E : Type 0} (find : Bref → Option (Shape E)) (key : E → ℕ) (low high : ℕ) (gs : List (List E)) (ats : List Bref) → Each Has gs → RiseIn low high (map key (joined gs)) → ArePages find (map leaf gs) ats
    → AreBelow (IsTree find key 0) high (children key gs ats) (joined gs) ats
below-leaves find key low high [] ats some r are = (refl, are)
below-leaves find key low high (g ∷ gs) [] some r are = absurd are
below-leaves find key low high ([] ∷ gs) (at ∷ ats) some r are = absurd (let a = some.0 in omega (arith, a))
below-leaves find key low high ((x ∷ g) ∷ gs) (at ∷ ats) some r are =
    let s = split-rise key low high (x ∷ g) gs find leaf ats some.1 are.1 r in
    record {
      first = x ∷ g;
      later = joined gs;
      first_pages = at ∷ [];
      later_pages = ats;
      one = record { shown = are.0; rises = (omega arith, s.here.1, s.here.2); some = omega arith; alone = refl };
      rest = below-leaves find key s.floor high gs ats some.1 s.there are.1;
      entries = refl;
      pages = refl;
    }

-- ---- a level above another

-- the level's pages stand for what those below stand for
record Raised {E : Type 0} (find : Bref → Option (Shape E)) (key : E → ℕ) (n high : ℕ) (cs : List (ℕ × Bref)) (es : List E) (qs ats : List Bref) : Type 0 where
  pages : List Bref
  below : AreBelow (IsTree find key n) high cs es pages
  counted : (ib : ℕ) → tally ib pages ≡ tally ib qs + tally ib ats

-- what lies before the groups behind one is below their first key
up-same : {S : Type 0} (high : ℕ) (gs : List (List (ℕ × Bref))) (find : Bref → Option (Shape S)) (shape : List (ℕ × Bref) → Shape S) (ats : List Bref) → Each Has gs → ArePages find (map shape gs) ats
    → up_to high (joined gs) ≡ up_to high (children head gs ats)
up-same high [] find shape ats some are = refl
up-same high (g ∷ gs) find shape [] some are = absurd are
up-same high ([] ∷ gs) find shape (at ∷ ats) some are = absurd (let a = some.0 in omega (arith, a))
up-same high ((y ∷ h) ∷ gs) find shape (at ∷ ats) some are = refl

below-inners : {E : Type 0} (find : Bref → Option (Shape E)) (key : E → ℕ) (n low high : ℕ) (gs : List (List (ℕ × Bref))) (ats : List Bref) (es : List E) (qs : List Bref) → Each Has gs → RiseIn low high (map head (joined gs))
    → ArePages find (map (inner (suc n)) gs) ats → AreBelow (IsTree find key n) high (joined gs) es qs → Raised find key (suc n) high (children head gs ats) es qs ats
below-inners find key n low high [] ats es qs some r are below =
    record { pages = []; below = (below.0, refl); counted = λ ib. let a = ap (tally ib) below.1 in let b = ap (tally ib) are in omega (arith, a, b) }
below-inners find key n low high (g ∷ gs) [] es qs some r are below = absurd are
below-inners find key n low high ([] ∷ gs) (at ∷ ats) es qs some r are below = absurd (let a = some.0 in omega (arith, a))
below-inners find key n low high ((x ∷ g) ∷ gs) (at ∷ ats) es qs some r are below =
    let s = split-rise head low high (x ∷ g) gs find (inner (suc n)) ats some.1 are.1 r in
    let part = below-part (IsTree find key n) high (x ∷ g) (joined gs) es qs below in
    let more = below-inners find key n s.floor high gs ats part.behind part.behind_pages some.1 s.there are.1 part.there in
    record {
      pages = (at ∷ part.before_pages) ++ more.pages;
      below = record {
        first = part.before;
        later = part.behind;
        first_pages = at ∷ part.before_pages;
        later_pages = more.pages;
        one = record {
          children = x ∷ g;
          below = part.before_pages;
          shown = are.0;
          rises = (omega arith, s.here.1, s.here.2);
          some = omega arith;
          are = subst (λ (h : ℕ). AreBelow (IsTree find key n) h (x ∷ g) part.before part.before_pages) (up-same high gs find (inner (suc n)) ats some.1 are.1) part.here;
          first = refl;
        };
        rest = more.below;
        entries = part.entries;
        pages = refl;
      };
      counted = λ ib.
          let a = tally-join ib (at ∷ part.before_pages) more.pages in
          let b = more.counted ib in
          let c = ap (tally ib) part.pages in
          let d = tally-join ib part.before_pages part.behind_pages in
          omega (arith, a, b, c, d);
    }

-- ---- up to the root

-- the one page above all is a tree
record Topped {E : Type 0} (find : Bref → Option (Shape E)) (key : E → ℕ) (level : ℕ) (root : Bref) (es : List E) (qs ats : List Bref) : Type 0 where
  low : ℕ
  pages : List Bref
  tree : IsTree find key level low (2 ^ 64) root es pages
  counted : (ib : ℕ) → tally ib pages ≡ tally ib qs + tally ib ats

alone : {E : Type 0} (find : Bref → Option (Shape E)) (key : E → ℕ) (n k : ℕ) (root : Bref) (es : List E) (qs : List Bref) → AreBelow (IsTree find key n) (2 ^ 64) ((k, root) ∷ []) es qs → Topped find key n root es qs []
alone {E} find key n k root es qs below = record {
  low = k;
  pages = below.first_pages;
  tree = subst (λ (l : List E). IsTree find key n k (2 ^ 64) root l below.first_pages) (sym (below.entries ∙ ap (λ (l : List E). below.first ++ l) below.rest.0 ∙ append-nil below.first)) below.one;
  counted = λ ib.
      let a = ap (tally ib) below.pages in
      let b = tally-join ib below.first_pages below.later_pages in
      let c = ap (tally ib) below.rest.1 in
      omega (arith, a, b, c);
}

topped : {E : Type 0} (find : Bref → Option (Shape E)) (key : E → ℕ) (n : ℕ) (cs : List (ℕ × Bref)) (levels : List (List Bref)) (root : Bref) (es : List E) (qs : List Bref) → RiseIn 0 (2 ^ 64) (map head cs)
    → AreBelow (IsTree find key n) (2 ^ 64) cs es qs → AreAbove find n cs levels root → Topped find key (n + length levels) root es qs (joined levels)
topped find key n cs [] root es qs r below above =
    let e : n ≡ n + 0 = omega arith in
    subst (λ (m : ℕ). Topped find key m root es qs []) e (alone find key n above.0 root es qs (subst (λ (l : List (ℕ × Bref)). AreBelow (IsTree find key n) (2 ^ 64) l es qs) above.1 below))
topped find key n cs (ats ∷ levels) root es qs r below above =
    let two = above.0 in
    let some = groups-some 20 cs (omega arith) (omega (arith, two)) in
    let same = groups-joined 20 cs (omega arith) in
    let rises : RiseIn 0 (2 ^ 64) (map head (joined (groups 20 cs))) = subst (λ (l : List (ℕ × Bref)). RiseIn 0 (2 ^ 64) (map head l)) (sym same) r in
    let up = below-inners find key n 0 (2 ^ 64) (groups 20 cs) ats es qs some rises above.1 (subst (λ (l : List (ℕ × Bref)). AreBelow (IsTree find key n) (2 ^ 64) l es qs) (sym same) below) in
    let top = topped find key (suc n) (children head (groups 20 cs) ats) levels root es up.pages (heads-rise head 0 (2 ^ 64) (groups 20 cs) ats some rises) up.below above.2 in
    let e : suc n + length levels ≡ n + length (ats ∷ levels) = omega arith in
    subst (λ (m : ℕ). Topped find key m root es qs (joined (ats ∷ levels))) e (record {
      low = top.low;
      pages = top.pages;
      tree = top.tree;
      counted = λ ib. let a = top.counted ib in let b = up.counted ib in let c = tally-join ib ats (joined levels) in omega (arith, a, b, c);
    })

tree-root : {E : Type 0} (find : Bref → Option (Shape E)) (key : E → ℕ) (n low : ℕ) (at : Bref) (es : List E) (ps : List Bref) → IsTree find key n low (2 ^ 64) at es ps → IsRootOf find key n 0 (2 ^ 64) at es ps
tree-root find key zero low at es ps t = record { shown = t.shown; rises = rise-widen low (2 ^ 64) 0 (2 ^ 64) (map key es) t.rises (omega arith) (omega arith); some = omega arith; alone = t.alone }
tree-root find key (suc n) low at es ps t = record {
  children = t.children;
  below = t.below;
  shown = t.shown;
  rises = rise-widen low (2 ^ 64) 0 (2 ^ 64) (heads t.children) t.rises (omega arith) (omega arith);
  some = omega arith;
  are = t.are;
  first = t.first;
}

-- ---- the whole

-- a tree without entries: its root alone
empty-whole : {E : Type 0} (find : Bref → Option (Shape E)) (key : E → ℕ) (leaves : List Bref) (above : List (List Bref)) (root : Bref) → ArePages find (leaf {E = E} [] ∷ []) leaves
    → AreAbove find 0 (children key ([] ∷ []) leaves) above root → AreTree find key [] (leaves ∷ above) root
empty-whole find key [] above root are names = absurd are
empty-whole find key (at ∷ ats) (level ∷ levels) root are names = absurd (let a = names.0 in omega (arith, a))
empty-whole {E} find key (at ∷ ats) [] root are names =
    let same : at ≡ root = ap (λ (cs : List (ℕ × Bref)). second cs) names.1 in
    record {
      pages = root ∷ [];
      whole = record { level = 0; low_enough = omega arith; tree = record { shown = subst (λ (b : Bref). find b ≡ Some (leaf {E = E} [])) same are.0; rises = tt; some = omega arith; alone = refl } };
      counted = λ ib.
          let a = ap (λ (b : Bref). tally ib (b ∷ [])) (sym same) in
          let b = tally-join ib (at ∷ ats) [] in
          let c = ap (tally ib) are.1 in
          let d = tally-join ib (at ∷ []) ats in
          omega (arith, a, b, c, d);
    }
  where
    second : List (ℕ × Bref) → Bref
    second [] = root
    second (c ∷ cs) = c.1

full-whole : {E : Type 0} (find : Bref → Option (Shape E)) (key : E → ℕ) (most : ℕ) (es : List E) (leaves : List Bref) (above : List (List Bref)) (root : Bref) → 0 < most → 0 < length es → RiseIn 0 (2 ^ 64) (map key es)
    → length above ≤ 7 → ArePages find (map leaf (groups most es)) leaves → AreAbove find 0 (children key (groups most es) leaves) above root → AreTree find key es (leaves ∷ above) root
full-whole {E} find key most es leaves above root some has r low are names =
    let gs = groups most es in
    let each = groups-some most es some has in
    let same = groups-joined most es some in
    let rises : RiseIn 0 (2 ^ 64) (map key (joined gs)) = subst (λ (l : List E). RiseIn 0 (2 ^ 64) (map key l)) (sym same) r in
    let below = subst (λ (l : List E). AreBelow (IsTree find key 0) (2 ^ 64) (children key gs leaves) l leaves) same (below-leaves find key 0 (2 ^ 64) gs leaves each rises are) in
    let top = topped find key 0 (children key gs leaves) above root es leaves (heads-rise key 0 (2 ^ 64) gs leaves each rises) below names in
    record {
      pages = top.pages;
      whole = record { level = 0 + length above; low_enough = omega (arith, low); tree = tree-root find key (0 + length above) top.low root es top.pages top.tree };
      counted = λ ib. let a = top.counted ib in let b = tally-join ib leaves (joined above) in omega (arith, a, b);
    }

-- pages that show what stands on the levels of a packed tree are the tree of its entries
pub packed-whole : {E : Type 0} (find : Bref → Option (Shape E)) (key : E → ℕ) (most : ℕ) (es : List E) (levels : List (List Bref)) (root : Bref) → 0 < most → RiseIn 0 (2 ^ 64) (map key es) → IsPacked find key most es levels root
    → AreTree find key es levels root
packed-whole find key most [] levels root some r is = subst (λ (l : List (List Bref)). AreTree find key [] l root) (sym is.are) (empty-whole find key is.leaves is.above root is.entries is.names)
packed-whole find key most (e ∷ es) levels root some r is =
    subst (λ (l : List (List Bref)). AreTree find key (e ∷ es) l root) (sym is.are) (full-whole find key most (e ∷ es) is.leaves is.above root some (omega arith) r is.low_enough is.entries is.names)
