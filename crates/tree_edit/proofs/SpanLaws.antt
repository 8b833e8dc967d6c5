-- The keys of a page, one by one.
use Rattle.std.proofs.Common.{true, false, ◌≡◌, ℕ, suc, ◌+◌, ◌<◌, ◌≤◌, ltb, leb, ◌&&◌, List, [], ◌∷◌, length, drop, get_or, Ok, refl, sym, ap, ◌∙◌, arith}
use Rattle.std.proofs.lemmas.Bool.{le-leb, lt-leb, leb-true, ltb-true, and_parts}
use Rattle.std.proofs.lemmas.List.{get_or-map, length-map}
use Rattle.std.proofs.Math.Seq.{drop-cons}
use Rattle.btree_pages.specs.Pages.{Page, keys, key_in, ascend, rise_above, page_of, page_with}
use Rattle.tree_edit.specs.Shapes.{RiseIn}
use Rattle.tree_edit.specs.Pages.{in_span}

keys_here : (rule : ℕ → ℕ) (entries : List (List ℕ)) (i : ℕ) → i < length entries → drop i (keys rule entries) ≡ key_in rule (get_or entries i []) ∷ drop (i + 1) (keys rule entries)
keys_here rule entries i h =
    let ks : List ℕ = keys rule entries in
    let len : length ks ≡ length entries = length-map entries (key_in rule) in
    let e : suc i ≡ i + 1 = omega arith in
    drop-cons ks i 0 (omega (arith, len)) ∙ ap (λ (k : ℕ). k ∷ drop (suc i) ks) (get_or-map (key_in rule) entries i [] 0 h) ∙ ap (λ (k : ℕ). key_in rule (get_or entries i []) ∷ drop k ks) e

pub span-next : (rule : ℕ → ℕ) (entries : List (List ℕ)) (i low high key : ℕ) → i < length entries → key ≡ key_in rule (get_or entries i []) → low ≤ key → key ≤ high
    → in_span low high (drop i (keys rule entries)) ≡ in_span low high (drop (i + 1) (keys rule entries))
span-next rule entries i low high key h here above under =
    ap (in_span low high) (keys_here rule entries i h ∙ ap (λ (k : ℕ). k ∷ drop (i + 1) (keys rule entries)) (sym here))
    ∙ rw (le-leb low key above, le-leb key high under) refl

pub span-low : (rule : ℕ → ℕ) (entries : List (List ℕ)) (i low high key : ℕ) → i < length entries → key ≡ key_in rule (get_or entries i []) → key < low
    → in_span low high (drop i (keys rule entries)) ≡ false
span-low rule entries i low high key h here under =
    ap (in_span low high) (keys_here rule entries i h ∙ ap (λ (k : ℕ). k ∷ drop (i + 1) (keys rule entries)) (sym here))
    ∙ rw (lt-leb low key under) refl

pub span-high : (rule : ℕ → ℕ) (entries : List (List ℕ)) (i low high key : ℕ) → i < length entries → key ≡ key_in rule (get_or entries i []) → low ≤ key → high < key
    → in_span low high (drop i (keys rule entries)) ≡ false
span-high rule entries i low high key h here above over =
    ap (in_span low high) (keys_here rule entries i h ∙ ap (λ (k : ℕ). k ∷ drop (i + 1) (keys rule entries)) (sym here))
    ∙ rw (le-leb low key above, lt-leb key high over) refl

-- keys that ascend and lie in a span rise in it
rise-above : (k low high : ℕ) (ks : List ℕ) → rise_above k ks ≡ true → in_span low high ks ≡ true → RiseIn (k + 1) (high + 1) ks
rise-above k low high [] r s = tt
rise-above k low high (x ∷ xs) r s =
    let rs = and_parts (ltb k x) (rise_above x xs) r in
    let ss = and_parts (leb low x && leb x high) (in_span low high xs) s in
    let span = and_parts (leb low x) (leb x high) ss.0 in
    let a : k < x = ltb-true k x rs.0 in
    let b : x ≤ high = leb-true x high span.1 in
    (omega arith, omega arith, rise-above x low high xs rs.1 ss.1)

pub rises-in : (low high : ℕ) (ks : List ℕ) → ascend ks ≡ true → in_span low high ks ≡ true → RiseIn low (high + 1) ks
rises-in low high [] r s = tt
rises-in low high (x ∷ xs) r s =
    let ss = and_parts (leb low x && leb x high) (in_span low high xs) s in
    let span = and_parts (leb low x) (leb x high) ss.0 in
    let a : low ≤ x = leb-true low x span.0 in
    let b : x ≤ high = leb-true x high span.1 in
    (a, omega arith, rise-above x low high xs r ss.1)

pub spans-in : (low floor high : ℕ) (ks : List ℕ) → low ≤ floor → RiseIn floor (high + 1) ks → in_span low high ks ≡ true
spans-in low floor high [] le r = refl
spans-in low floor high (x ∷ xs) le r =
    let a = r.0 in
    let b = r.1 in
    let c : low ≤ x = omega arith in
    let d : x ≤ high = omega arith in
    rw (le-leb low x c, le-leb x high d) (spans-in low (x + 1) high xs (omega arith) r.2)

-- the keys of a page that reads ascend
with-ascends : (rule : ℕ → ℕ) (size level : ℕ) (b : List ℕ) (page : Page) → page_with rule size level b ≡ Ok page → ascend (keys rule page.entries) ≡ true
unfolding page_with
with-ascends rule size level b page e = grind (arith, nothing)
  where
    nothing : Unit {0}
    nothing = tt

pub page-ascends : (rule : ℕ → ℕ) (leaf : ℕ) (b : List ℕ) (page : Page) → page_of rule leaf b ≡ Ok page → ascend (keys rule page.entries) ≡ true
unfolding page_of
page-ascends rule leaf b page e = with-ascends rule _ _ b page e
