-- A tree that is written anew: how many pages the old one has, level by level, and how many the new one takes.
use Rattle.std.proofs.Common.{◌≡◌, ◌⊎◌, ⊎_elim, inl, inr, ℕ, zero, suc, ◌+◌, ◌-◌, ◌*◌, ◌^◌, ◌≤◌, ◌<◌, List, [], ◌∷◌, map, length, refl, sym, ap, subst, ◌∙◌, arith, length-append, Option, Some, None}
use Rattle.std.specs.Prelude.{IfSome, IfNone}
use Rattle.std.proofs.Math.Nat.{pow-le-pow_right, pow-suc}
use Rattle.std.proofs.lemmas.Bool.{cases_lt}
use Rattle.std.proofs.lemmas.List.{length-map}
use Rattle.pst_base.specs.declared.ids.Bref.{Bref}
use Rattle.btree_pages.specs.Pages.{Page, page_of, size_at}
use Rattle.tree_edit.specs.Shapes.{Shape, leaf, inner, AreBelow, IsTree}
use Rattle.tree_edit.specs.Joins.{IsMost}
use Rattle.tree_edit.specs.Steps.{AreFew, IsUnder, weigh}
use Rattle.tree_change.specs.Tops.{Narrows, room}
use Rattle.tree_edit.specs.Pages.{child_in, shape_of, shown, shapes}
use Rattle.tree_edit.proofs.StepLaws.{leaf-shape, inner-shape}
use Rattle.tree_edit.proofs.RootLaws.{shape-level}
use Rattle.tree_edit.proofs.CountLaws.{page-fits, inner-fits, plus-times}
use Rattle.tree_change.proofs.CountLaws.{weigh-is}
use Rattle.tree_edit.proofs.StopLaws.{seen-page}

pub of-some : {A : Type 0} (P : A → Type 0) (o : Option A) (x : A) → o ≡ Some x → IfSome o P → P x
of-some P o x is h = subst (λ (p : Option _). IfSome p P) is h

pub of-none : {A : Type 0} (P : Type 0) (o : Option A) → ((x : A) → o ≡ Some x → ⊥) → IfNone o P → P
of-none P None none h = h
of-none P (Some x) none h = absurd (none x refl)

-- ---- what the pages of a tree hold

shown-page : {E : Type 0} (rule : ℕ → ℕ) (size : ℕ) (entry_of : List ℕ → E) (o : Option (List ℕ)) (s : Shape E) → shown rule size entry_of o ≡ Some s → (page : Page) × (length page.entries * size_at size page.level ≤ 488) × (shape_of rule entry_of page ≡ s)
shown-page rule size entry_of None s e = absurd (cc)
shown-page rule size entry_of (Some body) s e = let p = seen-page rule entry_of (page_of rule size body) s e in (p.0, page-fits rule size body p.0 p.1, p.2)

leaf-holds : {E : Type 0} (rule : ℕ → ℕ) (size most : ℕ) (entry_of : List ℕ → E) (o : Option (List ℕ)) (es : List E) → IsMost size 0 most → shown rule size entry_of o ≡ Some (leaf es) → length es ≤ most
leaf-holds {E} rule size most entry_of o es is_most e =
    let p = shown-page rule size entry_of o (leaf es) e in
    let level : (p.0).level ≡ 0 = sym (shape-level {E = E} rule entry_of p.0) ∙ ap (λ (x : Shape E). x.level) p.2 in
    let entries = ap (λ (x : Shape E). length x.entries) (sym (leaf-shape rule entry_of p.0 level) ∙ p.2) in
    let len = length-map (p.0).entries entry_of in
    let fits = is_most.whole (length (p.0).entries) (subst (λ (n : ℕ). length (p.0).entries * size_at size n ≤ 488) level p.1) in
    omega (arith, entries, len, fits)

inner-holds : {E : Type 0} (rule : ℕ → ℕ) (size n : ℕ) (entry_of : List ℕ → E) (o : Option (List ℕ)) (cs : List (ℕ × Bref)) → shown {E = E} rule size entry_of o ≡ Some (inner (suc n) cs) → length cs ≤ 20
inner-holds {E} rule size n entry_of o cs e =
    let p = shown-page rule size entry_of o (inner (suc n) cs) e in
    let level : (p.0).level ≡ suc n = sym (shape-level {E = E} rule entry_of p.0) ∙ ap (λ (x : Shape E). x.level) p.2 in
    let kids = ap (λ (x : Shape E). length x.children) (sym (inner-shape rule entry_of p.0 n level) ∙ p.2) in
    let len = length-map (p.0).entries (child_in rule) in
    let fits = inner-fits size (p.0).level (length (p.0).entries) (omega (arith, level)) p.1 in
    omega (arith, kids, len, fits)

-- ---- how wide a tree is at each level

-- so many pages of a level stand above others that have this
pub record OnTop (Below : ℕ → ℕ → Type 0) (n pages : ℕ) : Type 0 where
  pub children : ℕ
  pub others : ℕ
  pub few : children ≤ n * 20
  pub all : pages ≡ n + others
  pub below : Below children others

-- n pages of a level have so many entries below them, and are so many pages with those below them
abbrev pub Widths : ℕ → ℕ → ℕ → ℕ → ℕ → Type 0
Widths most zero n entries pages = (entries ≤ n * most) × (pages ≡ n)
Widths most (suc k) n entries pages = OnTop (λ m others. Widths most k m entries others) n pages

pub widths-same : (most k n m e f p q : ℕ) → n ≡ m → e ≡ f → p ≡ q → Widths most k n e p → Widths most k m f q
widths-same most k n m e f p q a b c w = subst (λ (x : ℕ). Widths most k x f q) a (subst (λ (x : ℕ). Widths most k n x q) b (subst (λ (x : ℕ). Widths most k n e x) c w))

widths-none : (most k : ℕ) → Widths most k 0 0 0
widths-none most zero = (omega arith, refl)
widths-none most (suc k) = record { children = 0; others = 0; few = omega arith; all = omega arith; below = widths-none most k }

widths-join : (most k n m e f p q : ℕ) → Widths most k n e p → Widths most k m f q → Widths most k (n + m) (e + f) (p + q)
widths-join most zero n m e f p q a b =
    let x = a.0 in let y = b.0 in let s = a.1 in let t = b.1 in let z : (n + m) * most ≡ n * most + m * most = plus-times n m most in (omega (arith, x, y, z), omega (arith, s, t))
widths-join most (suc k) n m e f p q a b =
    let x = a.few in
    let y = b.few in
    let s = a.all in
    let t = b.all in
    record { children = a.children + b.children; others = a.others + b.others; few = omega (arith, x, y); all = omega (arith, s, t); below = widths-join most k a.children b.children e f a.others b.others a.below b.below }

widths-below : {E : Type 0} (most k : ℕ) (P : ℕ → ℕ → Bref → List E → List Bref → Type 0) → ((low high : ℕ) (at : Bref) (es : List E) (ps : List Bref) → P low high at es ps → Widths most k 1 (length es) (length ps))
    → (high : ℕ) (cs : List (ℕ × Bref)) (es : List E) (ps : List Bref) → AreBelow P high cs es ps → Widths most k (length cs) (length es) (length ps)
widths-below {E} most k P each high [] es ps a =
    let e : 0 ≡ length es = ap (λ (l : List E). length l) (sym a.0) in
    let p : 0 ≡ length ps = ap (λ (l : List Bref). length l) (sym a.1) in
    widths-same most k 0 0 0 (length es) 0 (length ps) refl e p (widths-none most k)
widths-below {E} most k P each high (c ∷ cs) es ps a =
    let n : 1 + length cs ≡ suc (length cs) = omega arith in
    let e : length a.first + length a.later ≡ length es = sym (ap (λ (l : List E). length l) a.entries ∙ length-append a.first a.later) in
    let p : length a.first_pages + length a.later_pages ≡ length ps = sym (ap (λ (l : List Bref). length l) a.pages ∙ length-append a.first_pages a.later_pages) in
    widths-same most k (1 + length cs) (suc (length cs)) (length a.first + length a.later) (length es) (length a.first_pages + length a.later_pages) (length ps) n e p
    (widths-join most k 1 (length cs) (length a.first) (length a.later) (length a.first_pages) (length a.later_pages) (each c.0 _ c.1 a.first a.first_pages a.one) (widths-below most k P each high cs a.later a.later_pages a.rest))

widths-tree : {E : Type 0} (rule : ℕ → ℕ) (size most : ℕ) (entry_of : List ℕ → E) (key : E → ℕ) (find : Bref → Option (List ℕ)) → IsMost size 0 most → (k low high : ℕ) (at : Bref) (es : List E) (ps : List Bref)
    → IsTree (shapes rule size entry_of find) key k low high at es ps → Widths most k 1 (length es) (length ps)
widths-tree {E} rule size most entry_of key find is_most zero low high at es ps t =
    let few = leaf-holds rule size most entry_of (find at) es is_most t.shown in
    let one = ap (λ (l : List Bref). length l) t.alone in
    (omega (arith, few), omega (arith, one))
widths-tree {E} rule size most entry_of key find is_most (suc k) low high at es ps t =
    let few = inner-holds {E = E} rule size k entry_of (find at) t.children t.shown in
    let all = ap (λ (l : List Bref). length l) t.first in
    record {
      children = length t.children;
      others = length t.below;
      few = omega (arith, few);
      all = omega (arith, all);
      below = widths-below most k (IsTree (shapes rule size entry_of find) key k) (λ l h at es ps t. widths-tree rule size most entry_of key find is_most k l h at es ps t) high t.children es t.below t.are;
    }

-- those of a root's tree
pub widths-under : {E : Type 0} (rule : ℕ → ℕ) (size most : ℕ) (entry_of : List ℕ → E) (key : E → ℕ) (find : Bref → Option (List ℕ)) → IsMost size 0 most → (page : Page) (es : List E) (ps : List Bref) → length page.entries * size_at size page.level ≤ 488
    → IsUnder (shapes rule size entry_of find) key rule entry_of page es ps → Widths most page.level 1 (length es) (1 + length ps)
widths-under {E} rule size most entry_of key find is_most page es ps fits under = go page.level refl
  where
    go : (k : ℕ) → page.level ≡ k → Widths most k 1 (length es) (1 + length ps)
    go zero e =
        let here = under.of_leaf e in
        let entries = ap (λ (l : List E). length l) here.0 in
        let none = ap (λ (l : List Bref). length l) here.1 in
        let len = length-map page.entries entry_of in
        let few = is_most.whole (length page.entries) (subst (λ (n : ℕ). length page.entries * size_at size n ≤ 488) e fits) in
        (omega (arith, entries, len, few), omega (arith, none))
    go (suc k) e =
        let len = length-map page.entries (child_in rule) in
        let few = inner-fits size page.level (length page.entries) (omega (arith, e)) fits in
        record {
          children = length (map (child_in rule) page.entries);
          others = length ps;
          few = omega (arith, len, few);
          all = omega arith;
          below = widths-below most k (IsTree (shapes rule size entry_of find) key k) (λ l h at es ps t. widths-tree rule size most entry_of key find is_most k l h at es ps t) (2 ^ 64) (map (child_in rule) page.entries) es ps (under.of_inner k e);
        }

-- ---- from the leaves on

-- the leaves, and the numbers of pages above them: with u more of each, and what stands above the top, they are so many
pub record FromLeaves (most entries u all : ℕ) : Type 0 where
  pub leaves : ℕ
  pub above : List ℕ
  pub fits : entries ≤ leaves * most
  pub narrows : Narrows leaves above
  pub total : leaves + u + room u above ≡ all

from-leaves : (most k n entries pages u : ℕ) (ms : List ℕ) → Widths most k n entries pages → Narrows n ms → FromLeaves most entries u (pages + weigh k u + room u ms)
from-leaves most zero n entries pages u ms w narrows = record { leaves = n; above = ms; fits = w.0; narrows = narrows; total = let a = w.1 in omega (arith, a) }
from-leaves most (suc k) n entries pages u ms w narrows =
    let f = from-leaves most k w.children entries w.others u (n ∷ ms) w.below (w.few, narrows) in
    let a = w.all in
    let b = f.total in
    record { leaves = f.leaves; above = f.above; fits = f.fits; narrows = f.narrows; total = omega (arith, a, b) }

weigh-within : (level u : ℕ) → weigh level u + u ≤ (level - 1 + 3) * u
weigh-within zero u = let e : (0 - 1 + 3) * u ≡ 3 * u = ap (λ (n : ℕ). n * u) (let f : 0 - 1 + 3 ≡ 3 = omega arith in f) in let t : 3 * u ≡ u + u + u = omega arith in omega (arith, e, t)
weigh-within (suc m) u =
    let w = weigh-is (suc m) u in
    let e : (suc m - 1 + 3) * u ≡ (suc m + 1) * u + 1 * u = ap (λ (n : ℕ). n * u) (let f : suc m - 1 + 3 ≡ (suc m + 1) + 1 = omega arith in f) ∙ plus-times (suc m + 1) 1 u in
    omega (arith, w, e)

-- New pages of a whole tree that is packed, beside those that are freed: its leaves, what was lifted from them, and a root.
pub spare-anew : (most level entries u one two three freed cs ds : ℕ) → Widths most level 1 entries freed → 1 ≤ freed → ((k : ℕ) → entries ≤ k * most → cs ≤ k + u) → one ≡ cs
    → two + ds ≤ one + cs → (1 ≤ cs → 1 ≤ ds) → ((n v : ℕ) (ms : List ℕ) → Narrows n ms → cs ≤ n + v → two ≤ one + room v ms) → three + ds ≤ two + 1 → three ≤ freed + (level - 1 + 3) * u
spare-anew most level entries u one two three freed cs ds widths some few is plain left narrow top =
    let f = from-leaves most level 1 entries freed u [] widths (omega arith) in
    let total : f.leaves + u + room u f.above ≡ freed + weigh level u + u = f.total in
    let pieces : cs ≤ f.leaves + u = few f.leaves f.fits in
    let w = weigh-within level u in
    let r = narrow f.leaves u f.above f.narrows pieces in
    elim (cases_lt 0 cs) [ inl h ↦ let s = left h in omega (arith, is, pieces, total, w, r, top, s) | inr h ↦ omega (arith, is, h, plain, top, some) ]

-- ---- level by level

-- so many pages, cs of them still without one above, so that no more come than a bound: by how few stand in each level above, or since each page more leaves one less
pub record IsNarrow (u cs pages bound : ℕ) : Type 0 where
  pub n : ℕ
  pub above : List ℕ
  pub narrows : Narrows n above
  pub few : cs ≤ n + u
  pub fits : pages + room u above ≤ bound

abbrev pub Within : ℕ → ℕ → ℕ → ℕ → Type 0
Within u cs pages bound = IsNarrow u cs pages bound ⊎ (pages + cs ≤ bound + 1)

pub within-start : (n u cs pages : ℕ) (ms : List ℕ) → Narrows n ms → cs ≤ n + u → Within u cs pages (pages + room u ms)
within-start n u cs pages ms narrows few = inl (record { n = n; above = ms; narrows = narrows; few = few; fits = omega arith })

pub within-step : (u cs pages next bound r : ℕ) → next ≡ pages + r → 2 * r ≤ cs → ((k e : ℕ) → cs ≤ k * 20 + e → r ≤ k + e) → Within u cs pages bound → Within u r next bound
within-step u cs pages next bound r is half few w =
    ⊎_elim (λ (a : IsNarrow u cs pages bound). go a.n a.above a.narrows a.few a.fits) (λ (a : pages + cs ≤ bound + 1). let x : Within u r next bound = inr (omega (arith, a, is, half)) in x) w
  where
    go : (n : ℕ) (ms : List ℕ) → Narrows n ms → cs ≤ n + u → pages + room u ms ≤ bound → Within u r next bound
    go n [] narrows le fits = inr (omega (arith, narrows, le, fits, is, half))
    go n (m ∷ ms) narrows le fits =
        let a = narrows.0 in
        let b = few m u (omega (arith, a, le)) in
        inl (record { n = m; above = ms; narrows = narrows.1; few = b; fits = omega (arith, b, fits, is) })

pub within-end : (u cs pages bound : ℕ) → 1 ≤ cs → Within u cs pages bound → pages ≤ bound
within-end u cs pages bound some w =
    ⊎_elim (λ (a : IsNarrow u cs pages bound). let x = a.fits in let y : pages ≤ bound = omega (arith, x) in y) (λ (a : pages + cs ≤ bound + 1). let y : pages ≤ bound = omega (arith, a, some) in y) w

-- as many as have room below a page of level 7
pub many-step : (level cs r : ℕ) → level + 1 ≤ 7 → ((k e : ℕ) → cs ≤ k * 20 + e → r ≤ k + e) → cs ≤ 20 ^ (7 - level) → r ≤ 20 ^ (7 - (level + 1))
many-step level cs r low few le =
    let e : 7 - level ≡ suc (7 - (level + 1)) = omega (arith, low) in
    let p : 20 ^ (7 - level) ≡ 20 ^ (7 - (level + 1)) * 20 = ap (λ (n : ℕ). 20 ^ n) e ∙ pow-suc 20 (7 - (level + 1)) in
    let h = few (20 ^ (7 - (level + 1))) 0 (omega (arith, le, p)) in
    omega (arith, h)

pub many-end : (start level first cs : ℕ) → level ≡ 7 → 2 ≤ cs → (first ≤ 20 ^ (7 - start) → cs ≤ 20 ^ (7 - level)) → 20 ^ (7 - start) < first
many-end start level first cs is two kept =
    elim (cases_lt (20 ^ (7 - start)) first) [
      | inl h ↦ h
      | inr h ↦
          let k = kept h in
          let e : 20 ^ (7 - level) ≡ 1 = ap (λ (n : ℕ). 20 ^ n) (let z : 7 - level ≡ 0 = omega (arith, is) in z) in
          absurd (omega (arith, k, e, two))
    ]

-- so many children of a level can only come of so many edits
pub many-edits : (level below e one cs : ℕ) → below ≤ level - 1 → AreFew level e 0 one cs → 20 ^ (7 - below) < cs → 20 ^ (7 - (level - 1)) < 20 + e
many-edits level below e one cs low few many =
    let p : 20 ^ (7 - (level - 1)) ≤ 20 ^ (7 - below) = pow-le-pow_right {n = 20} (omega arith) {i = 7 - (level - 1)} {j = 7 - below} (omega (arith, low)) in
    ⊎_elim (λ (a : (cs ≤ 1 + e) × (one ≡ 0 + cs)). let x = a.0 in let r : 20 ^ (7 - (level - 1)) < 20 + e = omega (arith, x, many, p) in r)
    (λ (a : (1 ≤ level) × (cs ≤ 20 + e) × (one ≤ 0 + (2 * level) * e)). let x = a.1 in let r : 20 ^ (7 - (level - 1)) < 20 + e = omega (arith, x, many, p) in r) few
