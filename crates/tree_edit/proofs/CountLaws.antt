-- How many pages and pieces there are.
use Rattle.std.proofs.Common.{Bool, true, false, not, ◌≡◌, inl, inr, ℕ, zero, suc, ◌+◌, ◌*◌, ◌-◌, ◌<◌, ◌≤◌, eqb, leb, ltb, ◌&&◌, if◌then◌else◌, List, [], ◌∷◌, ◌++◌, length, Option, Some, None, Ok, Err, refl, sym, ap, subst, ◌∙◌, arith, length-append}
use Rattle.std.proofs.lemmas.Bool.{and_parts, ne_eqb, leb-true, lt-ltb, le-ltb, cases_lt}
use Rattle.std.proofs.lemmas.Nat.{mul-le}
use Rattle.pst_base.specs.declared.stops.PageFault.TheVariants.{Count, Level, Key}
use Rattle.pst_base.specs.Fields.{number_at}
use Rattle.btree_pages.specs.Pages.{Page, pieces, size_at, is_counted, ascend, keys, page_of, page_with}
use Rattle.btree_pages.proofs.PageLaws.{length-pieces, size_at-inner}
use Rattle.tree_edit.specs.Edits.{under, over, given, edited}
use Rattle.tree_edit.specs.declared.plan.Child.{Child}
use Rattle.tree_edit.specs.Joins.{size_of}

-- ---- what a page of children has

pub size-inner : {E : Type 0} (n : ℕ) (entries : List E) (children : List (ℕ × Child)) → size_of (suc n) entries children ≡ length children
size-inner n entries children = rw (ne_eqb (suc n) 0 (λ z. absurd (omega (arith, z)))) refl

-- ---- how many pieces

-- pieces that are no more than it takes, where so many elements are left for more of them
abbrev pub FewSoFar : ℕ → ℕ → ℕ → ℕ → Type 0
FewSoFar most all out rest = (k : ℕ) → all ≤ k * most → (out ≤ k) × (rest ≤ (k - out) * most)

pub few-start : (most all out : ℕ) → out ≡ 0 → FewSoFar most all out all
few-start most all out none k le = (omega (arith, none), let e : k - out ≡ k = omega (arith, none) in subst (λ (m : ℕ). all ≤ m * most) (sym e) le)

pub few-next : (most all out rest taken out_now rest_now : ℕ) → FewSoFar most all out rest → ((k : ℕ) → rest ≤ suc k * most → rest - taken ≤ k * most) → out_now ≡ out + 1 → rest_now ≡ rest - taken → 1 ≤ rest → FewSoFar most all out_now rest_now
few-next most all out rest taken out_now rest_now so_far share more less some k le = by (k - out) refl (so_far k le).1
  where
    by : (j : ℕ) → k - out ≡ j → rest ≤ (k - out) * most → (out_now ≤ k) × (rest_now ≤ (k - out_now) * most)
    by zero e le = absurd (let f : rest ≤ zero * most = subst (λ (m : ℕ). rest ≤ m * most) e le in let z : zero * most ≡ 0 = omega arith in omega (arith, f, z, some))
    by (suc j) e le =
        let f : rest - taken ≤ j * most = share j (subst (λ (m : ℕ). rest ≤ m * most) e le) in
        let same : k - out_now ≡ j = omega (arith, e, more) in
        (omega (arith, e, more), subst (λ (n : ℕ). n ≤ (k - out_now) * most) (sym less) (subst (λ (m : ℕ). rest - taken ≤ m * most) (sym same) f))

pub few-end : (most all out rest : ℕ) → FewSoFar most all out rest → (k : ℕ) → all ≤ k * most → out ≤ k
few-end most all out rest so_far k le = (so_far k le).0

-- what the next page takes leaves no more than the pages after it hold
pub share-all : (most left : ℕ) → (k : ℕ) → left ≤ suc k * most → left - left ≤ k * most
share-all most left k le = let z : left - left ≡ 0 = omega arith in omega (arith, z)

pub share-some : (most left taken : ℕ) → most < left → left - taken ≤ most → (k : ℕ) → left ≤ suc k * most → left - taken ≤ k * most
share-some most left taken over few zero le = absurd (omega (arith, over, le))
share-some most left taken over few (suc k) le = let one : suc k * most ≡ most + k * most = omega arith in omega (arith, one, few)

pub share-most : (most left : ℕ) (k : ℕ) → left ≤ suc k * most → left - most ≤ k * most
share-most most left k le = let one : suc k * most ≡ most + k * most = omega arith in omega (arith, one, le)

-- ---- a page's entries fit

with-fits : (rule : ℕ → ℕ) (size level : ℕ) (b : List ℕ) (page : Page) → page_with rule size level b ≡ Ok page → (length page.entries * size ≤ 488) × (page.level ≡ level)
unfolding page_with is_counted
with-fits rule size level b page e = by_cases (eqb (number_at 1 490 b) size && leb (number_at 1 488 b * size) 488) (ltb 7 level) (ascend (keys rule (pieces size (number_at 1 488 b) b))) refl e
  where
    held : Page
    held = record { level = level; entries = pieces size (number_at 1 488 b) b }

    by_cases : (counted deep rising : Bool) → (eqb (number_at 1 490 b) size && leb (number_at 1 488 b * size) 488) ≡ counted
        → (if not counted then Err Count else (if deep then Err Level else (if not rising then Err Key else Ok held))) ≡ Ok page
        → (length page.entries * size ≤ 488) × (page.level ≡ level)
    by_cases false deep rising is e = absurd (cc)
    by_cases true true rising is e = absurd (cc)
    by_cases true false false is e = absurd (cc)
    by_cases true false true is e =
        let same : held ≡ page = cc in
        let both = and_parts (eqb (number_at 1 490 b) size) (leb (number_at 1 488 b * size) 488) is in
        let fits : number_at 1 488 b * size ≤ 488 = leb-true (number_at 1 488 b * size) 488 both.1 in
        let all : (length held.entries * size ≤ 488) × (held.level ≡ level) = (subst (λ (n : ℕ). n * size ≤ 488) (sym (length-pieces size (number_at 1 488 b) b)) fits, refl) in
        subst (λ (p : Page). (length p.entries * size ≤ 488) × (p.level ≡ level)) same all

pub page-fits : (rule : ℕ → ℕ) (leaf : ℕ) (b : List ℕ) (page : Page) → page_of rule leaf b ≡ Ok page → length page.entries * size_at leaf page.level ≤ 488
unfolding page_of
page-fits rule leaf b page e =
    let f = with-fits rule (size_at leaf (number_at 1 491 b)) (number_at 1 491 b) b page e in
    subst (λ (n : ℕ). length page.entries * size_at leaf n ≤ 488) (sym f.1) f.0

-- ---- edits of a list

under-short : {E : Type 0} (key : E → ℕ) (k : ℕ) (es : List E) → length (under key k es) + length (over key k es) ≤ length es
under-short key k [] = omega arith
under-short key k (e ∷ es) = let h = under-short key k es in elim (cases_lt (key e) k) [
  | inl a ↦ let b : key e ≤ k = omega arith in rw (lt-ltb _ _ a, le-ltb _ _ b) (omega arith)
  | inr a ↦ elim (cases_lt k (key e)) [ inl b ↦ rw (le-ltb _ _ a, lt-ltb _ _ b) (omega arith) | inr b ↦ rw (le-ltb _ _ a, le-ltb _ _ b) (omega arith) ]
]

given-short : {E : Type 0} (o : Option E) → length (given o) ≤ 1
given-short None = omega arith
given-short (Some e) = omega arith

pub edited-short : {E : Type 0} (key : E → ℕ) (es : List E) (ds : List (ℕ × Option E)) → length (edited key es ds) ≤ length es + length ds
edited-short key es [] = omega arith
edited-short key es (d ∷ ds) =
    let a = under-short key d.0 es in
    let b = given-short d.1 in
    let c = edited-short key (over key d.0 es) ds in
    let e = length-append (under key d.0 es) (given d.1 ++ edited key (over key d.0 es) ds) in
    let f = length-append (given d.1) (edited key (over key d.0 es) ds) in
    omega (arith, a, b, c, e, f)

-- ---- products

pub times-plus : (w a b : ℕ) → w * (a + b) ≡ w * a + w * b
times-plus zero a b = let x : zero * (a + b) ≡ 0 = omega arith in let y : zero * a ≡ 0 = omega arith in let z : zero * b ≡ 0 = omega arith in omega (arith, x, y, z)
times-plus (suc w) a b = let h = times-plus w a b in let x : suc w * (a + b) ≡ (a + b) + w * (a + b) = times-suc w (a + b) in let y = times-suc w a in let z = times-suc w b in omega (arith, h, x, y, z)
  where
    times-suc : (w n : ℕ) → suc w * n ≡ n + w * n
    times-suc w n = omega arith

pub times-one : (w e : ℕ) → 1 ≤ e → w ≤ w * e
times-one w zero h = absurd (omega arith)
times-one w (suc e) h = let x : suc e ≡ 1 + e = omega arith in let y : w * suc e ≡ w * 1 + w * e = ap (λ (n : ℕ). w * n) x ∙ times-plus w 1 e in omega (arith, y)

pub plus-times : (a b w : ℕ) → (a + b) * w ≡ a * w + b * w
plus-times a b zero = let x : (a + b) * zero ≡ 0 = omega arith in let y : a * zero ≡ 0 = omega arith in let z : b * zero ≡ 0 = omega arith in omega (arith, x, y, z)
plus-times a b (suc w) =
    let h = plus-times a b w in
    let x : (a + b) * suc w ≡ (a + b) * w + (a + b) = omega arith in
    let y : a * suc w ≡ a * w + a = omega arith in
    let z : b * suc w ≡ b * w + b = omega arith in
    omega (arith, h, x, y, z)

-- a page of children has room for twenty
pub most-inner : (leaf level most : ℕ) → ((n : ℕ) → n * size_at leaf level ≤ 488 → n ≤ most) → 1 ≤ level → 20 ≤ most
most-inner leaf level most all low = all 20 (subst (λ (s : ℕ). 20 * s ≤ 488) (sym (size_at-inner leaf level low)) (omega arith))

pub some-more : (most n k e all : ℕ) → 1 ≤ most → n ≤ most → all ≤ k * n + e → all ≤ (k + e) * most
some-more most n k e all some le few =
    let a : k * n ≤ k * most = mul-le k n k most (omega arith) le in
    let b : e ≤ e * most = times-one e most some in
    let c : (k + e) * most ≡ k * most + e * most = plus-times k e most in
    omega (arith, a, b, c, few)

pub inner-fits : (leaf level n : ℕ) → 1 ≤ level → n * size_at leaf level ≤ 488 → n ≤ 20
inner-fits leaf level n some fits =
    let e = size_at-inner leaf level some in
    let f : n * 24 ≤ 488 = subst (λ (s : ℕ). n * s ≤ 488) e fits in omega (arith, f)
