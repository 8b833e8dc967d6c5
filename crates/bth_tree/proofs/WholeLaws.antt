-- The whole tree, from its header on.
use Rattle.std.proofs.Common.{◌≡◌, ◌≤◌, ◌<◌, ◌==◌, ◌&&◌, ◌^◌, if◌then◌else◌, inl, inr, ◌⊎◌, nat_lt, nat_le, ℕ, zero, suc, true, false, List, [], ◌∷◌, ◌++◌, length, Option, Some, None, refl, sym, ap, ◌∙◌, arith}
use Rattle.std.proofs.lemmas.Bool.{cases_Bool, cases_eq, and_left, and_right, lt-leb, and_parts, and_from, eq-eqb, ne_eqb, le-leb, leb-true, lt-ltb, ltb-true}
use Rattle.std.specs.Option.{option_and_then}
use Rattle.byteorder.specs.Endian.{little_number}
use Rattle.pst_base.specs.Fields.{number_at}
use Rattle.bth_tree.specs.Records.{ordered, whole, within}
use Rattle.bth_tree.specs.Tree.{any_bth, bth, children, end_of, filled, gather, is_header, leaf, root, tree, under}
use Rattle.bth_tree.proofs.OptionLaws.{bind-some, none-some, some-injective}

pub under-none : (get : ℕ → Option (List ℕ)) (k e : ℕ) (x : List ℕ) → number_at 4 4 x ≡ 0 → under get k e x ≡ Some []
unfolding under
under-none get k e x h = rw (eq-eqb (number_at 4 4 x) 0 h) refl

pub root-zero : (get : ℕ → Option (List ℕ)) (k e hid : ℕ) → root get k e 0 hid ≡ leaf get k e hid
unfolding root
root-zero get k e hid = refl

root-leaf : (get : ℕ → Option (List ℕ)) (k e n hid : ℕ) → n ≡ 0 → root get k e n hid ≡ leaf get k e hid
root-leaf get k e n hid z = ap (λ (m : ℕ). root get k e m hid) z ∙ root-zero get k e hid

pub root-suc : (get : ℕ → Option (List ℕ)) (k e n hid : ℕ) → root get k e (suc n) hid ≡ tree get k e (suc n) hid
unfolding root
root-suc get k e n hid = refl

root-tree : (get : ℕ → Option (List ℕ)) (k e n hid : ℕ) → 0 < n → root get k e n hid ≡ tree get k e n hid
root-tree get k e zero hid h = absurd (omega arith)
root-tree get k e (suc n) hid h = root-suc get k e n hid

pub under-root : (get : ℕ → Option (List ℕ)) (k e : ℕ) (x : List ℕ) → (number_at 4 4 x ≡ 0 → ⊥) → under get k e x ≡ root get k e (number_at 1 3 x) (number_at 4 4 x)
unfolding under
under-root get k e x h = rw (ne_eqb (number_at 4 4 x) 0 h) refl

leaf-at : (get : ℕ → Option (List ℕ)) (k e hid : ℕ) (y : List ℕ) → get hid ≡ Some y → leaf get k e hid ≡ ordered k e 0 (2 ^ 32) y
unfolding leaf
leaf-at get k e hid y h = rw h refl

leaf-none : (get : ℕ → Option (List ℕ)) (k e hid : ℕ) → get hid ≡ None → leaf get k e hid ≡ None
unfolding leaf
leaf-none get k e hid h = rw h refl

pub under-tree : (get : ℕ → Option (List ℕ)) (k e n hid : ℕ) (x : List ℕ) → n ≡ number_at 1 3 x → hid ≡ number_at 4 4 x → (hid ≡ 0 → ⊥) → 0 < n → under get k e x ≡ tree get k e n hid
under-tree get k e n hid x a b h low =
    under-root get k e x (λ z. h (b ∙ z)) ∙ ap (λ (m : ℕ). root get k e m (number_at 4 4 x)) (sym a) ∙ ap (root get k e n) (sym b) ∙ root-tree get k e n hid low

pub under-leaf : (get : ℕ → Option (List ℕ)) (k e n hid : ℕ) (x y : List ℕ) → n ≡ number_at 1 3 x → hid ≡ number_at 4 4 x → (hid ≡ 0 → ⊥) → n ≡ 0 → get hid ≡ Some y → under get k e x ≡ ordered k e 0 (2 ^ 32) y
under-leaf get k e n hid x y a b h z some =
    under-root get k e x (λ zz. h (b ∙ zz)) ∙ ap (λ (m : ℕ). root get k e m (number_at 4 4 x)) (sym a) ∙ ap (root get k e n) (sym b) ∙ root-leaf get k e n hid z ∙ leaf-at get k e hid y some

pub under-leaf_none : (get : ℕ → Option (List ℕ)) (k e n hid : ℕ) (x : List ℕ) → n ≡ number_at 1 3 x → hid ≡ number_at 4 4 x → (hid ≡ 0 → ⊥) → n ≡ 0 → get hid ≡ None → under get k e x ≡ None
under-leaf_none get k e n hid x a b h z none =
    under-root get k e x (λ zz. h (b ∙ zz)) ∙ ap (λ (m : ℕ). root get k e m (number_at 4 4 x)) (sym a) ∙ ap (root get k e n) (sym b) ∙ root-leaf get k e n hid z ∙ leaf-none get k e hid none

pub bth-none : (get : ℕ → Option (List ℕ)) (hid k e : ℕ) → get hid ≡ None → bth get hid k e ≡ None
unfolding bth
bth-none get hid k e h = rw h refl

pub bth-other : (get : ℕ → Option (List ℕ)) (hid k e : ℕ) (x : List ℕ) → get hid ≡ Some x → is_header k e x ≡ false → bth get hid k e ≡ None
unfolding bth
bth-other get hid k e x h f = rw (h, f) refl

pub bth-at : (get : ℕ → Option (List ℕ)) (hid k e : ℕ) (x : List ℕ) → get hid ≡ Some x → is_header k e x ≡ true → bth get hid k e ≡ under get k e x
unfolding bth
bth-at get hid k e x h t = rw (h, t) refl

-- the records that a test lets through pass it
if-some : (low high : ℕ) (xs rs ys : List (ℕ × List ℕ)) → (if within low high xs then Some ys else None) ≡ Some rs → (within low high xs ≡ true) × (ys ≡ rs)
if-some low high xs rs ys h = elim (cases_Bool (within low high xs)) [
  | inl t ↦ (t, some-injective ys rs (rw t at h))
  | inr f ↦ absurd (none-some rs (rw f at h))
]

ordered-within : (k e low high : ℕ) (x : List ℕ) (rs : List (ℕ × List ℕ)) → ordered k e low high x ≡ Some rs → within low high rs ≡ true
unfolding ordered
ordered-within k e low high x rs h =
    let b = bind-some (λ (ws : List (ℕ × List ℕ)). if within low high ws then Some ws else None) (whole k e x) rs h in
    let p = if-some low high b.0 rs b.0 b.2 in
    ap (within low high) (sym p.1) ∙ p.0

pub filled-is : (xs rs : List (ℕ × List ℕ)) → filled xs ≡ Some rs → (xs ≡ rs) × (0 < length rs)
filled-is [] rs h = absurd (none-some rs h)
filled-is (x ∷ xs) rs h = let e : x ∷ xs ≡ rs = some-injective (x ∷ xs) rs h in (e, omega (arith, ap length e))

-- what a within of a first record says
pub first-within : (low high : ℕ) (r : ℕ × List ℕ) (rs : List (ℕ × List ℕ)) → within low high (r ∷ rs) ≡ true → (low ≤ r.0) × (r.0 < high) × (within (suc r.0) high rs ≡ true)
first-within low high r rs h =
    let a = and_parts (nat_le low r.0) (nat_lt r.0 high && within (suc r.0) high rs) h in
    let b = and_parts (nat_lt r.0 high) (within (suc r.0) high rs) a.1 in
    (leb-true low r.0 a.0, ltb-true r.0 high b.0, b.1)

pub within-first : (low high : ℕ) (r : ℕ × List ℕ) (rs : List (ℕ × List ℕ)) → low ≤ r.0 → r.0 < high → within (suc r.0) high rs ≡ true → within low high (r ∷ rs) ≡ true
within-first low high r rs a b h = and_from (nat_le low r.0) (nat_lt r.0 high && within (suc r.0) high rs) (le-leb low r.0 a) (and_from (nat_lt r.0 high) (within (suc r.0) high rs) (lt-ltb r.0 high b) h)

pub within-lower : (low less high : ℕ) (rs : List (ℕ × List ℕ)) → less ≤ low → within low high rs ≡ true → within less high rs ≡ true
within-lower low less high [] le h = refl
within-lower low less high (r ∷ rs) le h = let p = first-within low high r rs h in within-first less high r rs (omega (arith, p.0)) p.1 p.2

-- records below a bound, and others from it on
pub within-append : (a m h : ℕ) (xs ys : List (ℕ × List ℕ)) → a ≤ m → m ≤ h → within a m xs ≡ true → within m h ys ≡ true → within a h (xs ++ ys) ≡ true
within-append a m h [] ys low le p q = within-lower m a h ys low q
within-append a m h (x ∷ xs) ys low le p q =
    let f = first-within a m x xs p in
    within-first a h x (xs ++ ys) f.0 (omega (arith, f.1)) (within-append (suc x.0) m h xs ys (omega (arith, f.1)) le f.2 q)

pub some-within : (low high : ℕ) (rs : List (ℕ × List ℕ)) → 0 < length rs → within low high rs ≡ true → low < high
some-within low high [] n h = absurd (omega arith)
some-within low high (r ∷ rs) n h = let p = first-within low high r rs h in omega (arith, p.0, p.1)

-- what a gathering of some pairs is
pub gather-parts : (child : ℕ → Option (List (ℕ × List ℕ))) (p : ℕ × List ℕ) (ps rs : List (ℕ × List ℕ)) → gather child (p ∷ ps) ≡ Some rs
    → (first : List (ℕ × List ℕ)) × (others : List (ℕ × List ℕ)) × (child (little_number 4 p.1) ≡ Some first) × (gather child ps ≡ Some others) × (within p.0 (end_of ps) first ≡ true) × (first ++ others ≡ rs)
gather-parts child p ps rs h =
    let a = bind-some (λ (first : List (ℕ × List ℕ)). option_and_then (λ (others : List (ℕ × List ℕ)). if within p.0 (end_of ps) first then Some (first ++ others) else None) (gather child ps)) (child (little_number 4 p.1)) rs h in
    let b = bind-some (λ (others : List (ℕ × List ℕ)). if within p.0 (end_of ps) a.0 then Some (a.0 ++ others) else None) (gather child ps) rs a.2 in
    let c = if-some p.0 (end_of ps) a.0 rs (a.0 ++ b.0) b.2 in
    (a.0, b.0, a.1, b.1, c.0, c.1)

abbrev pub AreSome : (ℕ → Option (List (ℕ × List ℕ))) → Type 0
AreSome child = (hid : ℕ) (rs : List (ℕ × List ℕ)) → child hid ≡ Some rs → 0 < length rs

pub gather-low : (child : ℕ → Option (List (ℕ × List ℕ))) → AreSome child → (ps rs : List (ℕ × List ℕ)) → gather child ps ≡ Some rs → end_of ps ≤ 2 ^ 32
gather-low child some [] rs h = omega arith
gather-low child some (p ∷ ps) rs h =
    let g = gather-parts child p ps rs h in
    let next = gather-low child some ps g.1 g.3 in
    omega (arith, next, some-within p.0 (end_of ps) g.0 (some (little_number 4 p.1) g.0 g.2) g.4)

pub gather-within : (child : ℕ → Option (List (ℕ × List ℕ))) → AreSome child → (ps rs : List (ℕ × List ℕ)) → gather child ps ≡ Some rs → within (end_of ps) (2 ^ 32) rs ≡ true
gather-within child some [] rs h = ap (within (2 ^ 32) (2 ^ 32)) (sym (some-injective [] rs h))
gather-within child some (p ∷ ps) rs h =
    let g = gather-parts child p ps rs h in
    let first = some-within p.0 (end_of ps) g.0 (some (little_number 4 p.1) g.0 g.2) g.4 in
    ap (within p.0 (2 ^ 32)) (sym g.5)
    ∙ within-append p.0 (end_of ps) (2 ^ 32) g.0 g.1 (omega (arith, first)) (gather-low child some ps g.1 g.3) g.4 (gather-within child some ps g.1 g.3)

-- no tree is empty, and its keys ascend
pub tree-some : (get : ℕ → Option (List ℕ)) (k e n : ℕ) → AreSome (tree get k e n)
unfolding tree
tree-some get k e zero hid rs h = let b = bind-some filled (leaf get k e hid) rs h in (filled-is b.0 rs b.2).1
tree-some get k e (suc n) hid rs h =
    let a = bind-some (λ (x : List ℕ). option_and_then filled (children (tree get k e n) k x)) (get hid) rs h in
    let b = bind-some filled (children (tree get k e n) k a.0) rs a.2 in
    (filled-is b.0 rs b.2).1

leaf-within : (get : ℕ → Option (List ℕ)) (k e hid : ℕ) (rs : List (ℕ × List ℕ)) → leaf get k e hid ≡ Some rs → within 0 (2 ^ 32) rs ≡ true
unfolding leaf
leaf-within get k e hid rs h = let a = bind-some (ordered k e 0 (2 ^ 32)) (get hid) rs h in ordered-within k e 0 (2 ^ 32) a.0 rs a.2

children-within : (child : ℕ → Option (List (ℕ × List ℕ))) (k : ℕ) (x : List ℕ) (rs : List (ℕ × List ℕ)) → AreSome child → children child k x ≡ Some rs → within 0 (2 ^ 32) rs ≡ true
unfolding children
children-within child k x rs some h =
    let a = bind-some (gather child) (whole k 4 x) rs h in
    within-lower (end_of a.0) 0 (2 ^ 32) rs (omega arith) (gather-within child some a.0 rs a.2)

pub tree-within : (get : ℕ → Option (List ℕ)) (k e n hid : ℕ) (rs : List (ℕ × List ℕ)) → tree get k e n hid ≡ Some rs → within 0 (2 ^ 32) rs ≡ true
unfolding tree
tree-within get k e zero hid rs h =
    let b = bind-some filled (leaf get k e hid) rs h in
    ap (within 0 (2 ^ 32)) (sym (filled-is b.0 rs b.2).0) ∙ leaf-within get k e hid b.0 b.1
tree-within get k e (suc n) hid rs h =
    let a = bind-some (λ (x : List ℕ). option_and_then filled (children (tree get k e n) k x)) (get hid) rs h in
    let b = bind-some filled (children (tree get k e n) k a.0) rs a.2 in
    ap (within 0 (2 ^ 32)) (sym (filled-is b.0 rs b.2).0) ∙ children-within (tree get k e n) k a.0 b.0 (tree-some get k e n) b.1

root-within : (get : ℕ → Option (List ℕ)) (k e n hid : ℕ) (rs : List (ℕ × List ℕ)) → root get k e n hid ≡ Some rs → within 0 (2 ^ 32) rs ≡ true
root-within get k e zero hid rs h = leaf-within get k e hid rs (sym (root-zero get k e hid) ∙ h)
root-within get k e (suc n) hid rs h = tree-within get k e (suc n) hid rs (sym (root-suc get k e n hid) ∙ h)

under-within : (get : ℕ → Option (List ℕ)) (k e : ℕ) (x : List ℕ) (rs : List (ℕ × List ℕ)) → under get k e x ≡ Some rs → within 0 (2 ^ 32) rs ≡ true
under-within get k e x rs h = elim (cases_eq (number_at 4 4 x) 0) [
  | inl z ↦ ap (within 0 (2 ^ 32)) (sym (some-injective [] rs (sym (under-none get k e x z) ∙ h)))
  | inr n ↦ root-within get k e (number_at 1 3 x) (number_at 4 4 x) rs (sym (under-root get k e x n) ∙ h)
]

-- the keys of a whole tree ascend
pub bth-within : (get : ℕ → Option (List ℕ)) (hid k e : ℕ) (rs : List (ℕ × List ℕ)) → bth get hid k e ≡ Some rs → within 0 (2 ^ 32) rs ≡ true
unfolding bth
bth-within get hid k e rs h =
    let a = bind-some (λ (x : List ℕ). if is_header k e x then under get k e x else None) (get hid) rs h in
    elim (cases_Bool (is_header k e a.0)) [
      | inl t ↦ under-within get k e a.0 rs (rw t at a.2)
      | inr f ↦ absurd (none-some rs (rw f at a.2))
    ]

-- the tree with its own lengths
pub any-none : (get : ℕ → Option (List ℕ)) (hid : ℕ) → get hid ≡ None → any_bth get hid ≡ None
unfolding any_bth
any-none get hid h = rw h refl

any-own : (get : ℕ → Option (List ℕ)) (hid : ℕ) (x : List ℕ) → get hid ≡ Some x → 1 ≤ number_at 1 1 x → number_at 1 1 x ≤ 4 → any_bth get hid ≡ bth get hid (number_at 1 1 x) (number_at 1 2 x)
unfolding any_bth
any-own get hid x h low high = rw (h, le-leb 1 (number_at 1 1 x) low, le-leb (number_at 1 1 x) 4 high) refl

pub any-at : (get : ℕ → Option (List ℕ)) (hid k e : ℕ) (x : List ℕ) → get hid ≡ Some x → k ≡ number_at 1 1 x → e ≡ number_at 1 2 x → 1 ≤ k → k ≤ 4 → any_bth get hid ≡ bth get hid k e
any-at get hid k e x h a b low high =
    any-own get hid x h (omega arith) (omega arith) ∙ ap (λ (n : ℕ). bth get hid n (number_at 1 2 x)) (sym a) ∙ ap (bth get hid k) (sym b)

pub any-out : (get : ℕ → Option (List ℕ)) (hid : ℕ) (x : List ℕ) → get hid ≡ Some x → (number_at 1 1 x < 1) ⊎ (4 < number_at 1 1 x) → any_bth get hid ≡ None
unfolding any_bth
any-out get hid x h out =
    let f : (nat_le 1 (number_at 1 1 x) && nat_le (number_at 1 1 x) 4) ≡ false = elim out [
      | inl a ↦ and_left (nat_le 1 (number_at 1 1 x)) (nat_le (number_at 1 1 x) 4) (lt-leb 1 (number_at 1 1 x) a)
      | inr b ↦ and_right (nat_le 1 (number_at 1 1 x)) (nat_le (number_at 1 1 x) 4) (lt-leb (number_at 1 1 x) 4 b)
    ] in
    rw (h, f) refl

pub any-short : (get : ℕ → Option (List ℕ)) (hid : ℕ) (x : List ℕ) → get hid ≡ Some x → length x < 8 → any_bth get hid ≡ None
unfolding any_bth
any-short get hid x h short =
    let f : is_header (number_at 1 1 x) (number_at 1 2 x) x ≡ false =
    and_left (nat_le 8 (length x)) (number_at 1 0 x == 0xB5 && (number_at 1 1 x == number_at 1 1 x && number_at 1 2 x == number_at 1 2 x)) (lt-leb 8 (length x) short) in
    let none = bth-other get hid (number_at 1 1 x) (number_at 1 2 x) x h f in
    rw h (elim (cases_Bool (nat_le 1 (number_at 1 1 x) && nat_le (number_at 1 1 x) 4)) [
      | inl t ↦ rw t none
      | inr g ↦ rw g refl
    ])
