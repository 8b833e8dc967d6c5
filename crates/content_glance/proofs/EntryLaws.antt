-- The entries of a tree have the length that its header gives.
use Rattle.std.proofs.Common.{◌≡◌, ◌≤◌, ◌<◌, ◌==◌, ◌&&◌, ◌+◌, ◌*◌, ◌/◌, ◌%◌, ◌^◌, if◌then◌else◌, inl, inr, nat_le, ℕ, zero, suc, true, List, [], ◌∷◌, ◌++◌, length, take, drop, Option, Some, None, sym, ap, ◌∙◌, subst, length-drop, length-take, arith}
use Rattle.std.proofs.lemmas.Bool.{cases_Bool, cases_eq, and_parts, eqb-true}
use Rattle.std.specs.Option.{option_and_then}
use Rattle.pst_base.specs.Fields.{number_at}
use Rattle.bth_tree.specs.Records.{entry_of, ordered, records, whole, within}
use Rattle.bth_tree.specs.Tree.{any_bth, bth, children, filled, gather, is_header, leaf, root, tree, under}
use Rattle.bth_tree.proofs.OptionLaws.{bind-some, none-some, some-injective}
use Rattle.bth_tree.proofs.WholeLaws.{any-at, filled-is, gather-parts, root-suc, root-zero, under-none, under-root}

-- each entry has e bytes
abbrev pub AreLong : ℕ → List (ℕ × List ℕ) → Type 0
AreLong e [] = Unit {0}
AreLong e (r ∷ rs) = (length r.1 ≡ e) × AreLong e rs

long-along : (e : ℕ) (xs ys : List (ℕ × List ℕ)) → xs ≡ ys → AreLong e xs → AreLong e ys
long-along e xs ys same h = let P : List (ℕ × List ℕ) → Type 0 = λ rs. AreLong e rs in subst P same h

long-append : (e : ℕ) (xs ys : List (ℕ × List ℕ)) → AreLong e xs → AreLong e ys → AreLong e (xs ++ ys)
long-append e [] ys a b = b
long-append e (x ∷ xs) ys a b = (a.0, long-append e xs ys a.1 b)

records-long : (k e n : ℕ) (x : List ℕ) → n * (k + e) ≤ length x → AreLong e (records k e n x)
records-long k e zero x h = tt
records-long k e (suc n) x h = (
  omega (arith, length-drop k (take (k + e) x), length-take (k + e) x),
  records-long k e n (drop (k + e) x) (omega (arith, length-drop (k + e) x)),
)

whole-long : (k e : ℕ) (x : List ℕ) (rs : List (ℕ × List ℕ)) → 0 < k → whole k e x ≡ Some rs → AreLong e rs
unfolding whole
whole-long k e x rs low h = elim (cases_Bool (length x % (k + e) == 0)) [
  | inl t ↦
      let some : Some (records k e (length x / (k + e)) x) ≡ Some rs = rw t at h in
      let pos : 0 < k + e = omega arith in
      let all : (k + e) * (length x / (k + e)) + length x % (k + e) ≡ length x = omega arith in
      long-along e (records k e (length x / (k + e)) x) rs (some-injective _ _ some) (records-long k e (length x / (k + e)) x (omega arith))
  | inr f ↦ absurd (none-some rs (rw f at h))
]

ordered-long : (k e low high : ℕ) (x : List ℕ) (rs : List (ℕ × List ℕ)) → 0 < k → ordered k e low high x ≡ Some rs → AreLong e rs
unfolding ordered
ordered-long k e low high x rs pos h =
    let b = bind-some (λ (ws : List (ℕ × List ℕ)). if within low high ws then Some ws else None) (whole k e x) rs h in
    elim (cases_Bool (within low high b.0)) [
      | inl t ↦ long-along e b.0 rs (some-injective b.0 rs (rw t at b.2)) (whole-long k e x b.0 pos b.1)
      | inr f ↦ absurd (none-some rs (rw f at b.2))
    ]

leaf-long : (get : ℕ → Option (List ℕ)) (k e hid : ℕ) (rs : List (ℕ × List ℕ)) → 0 < k → leaf get k e hid ≡ Some rs → AreLong e rs
unfolding leaf
leaf-long get k e hid rs pos h = let b = bind-some (ordered k e 0 (2 ^ 32)) (get hid) rs h in ordered-long k e 0 (2 ^ 32) b.0 rs pos b.2

abbrev pub GivesLong : ℕ → (ℕ → Option (List (ℕ × List ℕ))) → Type 0
GivesLong e child = (hid : ℕ) (rs : List (ℕ × List ℕ)) → child hid ≡ Some rs → AreLong e rs

gather-long : (e : ℕ) (child : ℕ → Option (List (ℕ × List ℕ))) → GivesLong e child → (ps rs : List (ℕ × List ℕ)) → gather child ps ≡ Some rs → AreLong e rs
gather-long e child long [] rs h = long-along e [] rs (some-injective [] rs h) tt
gather-long e child long (p ∷ ps) rs h =
    let g = gather-parts child p ps rs h in
    long-along e (g.0 ++ g.1) rs g.5 (long-append e g.0 g.1 (long _ g.0 g.2) (gather-long e child long ps g.1 g.3))

children-long : (e : ℕ) (child : ℕ → Option (List (ℕ × List ℕ))) (k : ℕ) (x : List ℕ) (rs : List (ℕ × List ℕ)) → GivesLong e child → children child k x ≡ Some rs → AreLong e rs
unfolding children
children-long e child k x rs long h = let b = bind-some (gather child) (whole k 4 x) rs h in gather-long e child long b.0 rs b.2

tree-long : (get : ℕ → Option (List ℕ)) (k e n : ℕ) → 0 < k → GivesLong e (tree get k e n)
unfolding tree
tree-long get k e zero pos hid rs h =
    let b = bind-some filled (leaf get k e hid) rs h in
    long-along e b.0 rs (filled-is b.0 rs b.2).0 (leaf-long get k e hid b.0 pos b.1)
tree-long get k e (suc n) pos hid rs h =
    let a = bind-some (λ (x : List ℕ). option_and_then filled (children (tree get k e n) k x)) (get hid) rs h in
    let b = bind-some filled (children (tree get k e n) k a.0) rs a.2 in
    long-along e b.0 rs (filled-is b.0 rs b.2).0 (children-long e (tree get k e n) k a.0 b.0 (tree-long get k e n pos) b.1)

root-long : (get : ℕ → Option (List ℕ)) (k e n hid : ℕ) (rs : List (ℕ × List ℕ)) → 0 < k → root get k e n hid ≡ Some rs → AreLong e rs
root-long get k e zero hid rs pos h = leaf-long get k e hid rs pos (sym (root-zero get k e hid) ∙ h)
root-long get k e (suc n) hid rs pos h = tree-long get k e (suc n) pos hid rs (sym (root-suc get k e n hid) ∙ h)

under-long : (get : ℕ → Option (List ℕ)) (k e : ℕ) (x : List ℕ) (rs : List (ℕ × List ℕ)) → 0 < k → under get k e x ≡ Some rs → AreLong e rs
under-long get k e x rs pos h = elim (cases_eq (number_at 4 4 x) 0) [
  | inl z ↦ long-along e [] rs (some-injective [] rs (sym (under-none get k e x z) ∙ h)) tt
  | inr n ↦ root-long get k e (number_at 1 3 x) (number_at 4 4 x) rs pos (sym (under-root get k e x n) ∙ h)
]

bth-parts : (get : ℕ → Option (List ℕ)) (hid k e : ℕ) (rs : List (ℕ × List ℕ)) → bth get hid k e ≡ Some rs → (x : List ℕ) × (get hid ≡ Some x) × (is_header k e x ≡ true) × (under get k e x ≡ Some rs)
unfolding bth
bth-parts get hid k e rs h =
    let a = bind-some (λ (x : List ℕ). if is_header k e x then under get k e x else None) (get hid) rs h in
    elim (cases_Bool (is_header k e a.0)) [
      | inl t ↦ (a.0, a.1, t, rw t at a.2)
      | inr f ↦ absurd (none-some rs (rw f at a.2))
    ]

pub bth-long : (get : ℕ → Option (List ℕ)) (hid k e : ℕ) (rs : List (ℕ × List ℕ)) → 0 < k → bth get hid k e ≡ Some rs → AreLong e rs
bth-long get hid k e rs pos h = let p = bth-parts get hid k e rs h in under-long get k e p.0 rs pos p.3

-- the tree is that of its own lengths
pub any-bth : (get : ℕ → Option (List ℕ)) (hid k e : ℕ) (rs : List (ℕ × List ℕ)) → 1 ≤ k → k ≤ 4 → bth get hid k e ≡ Some rs → any_bth get hid ≡ Some rs
any-bth get hid k e rs low high h =
    let p = bth-parts get hid k e rs h in
    let a = and_parts (nat_le 8 (length p.0)) (number_at 1 0 p.0 == 0xB5 && (number_at 1 1 p.0 == k && number_at 1 2 p.0 == e)) p.2 in
    let b = and_parts (number_at 1 0 p.0 == 0xB5) (number_at 1 1 p.0 == k && number_at 1 2 p.0 == e) a.1 in
    let c = and_parts (number_at 1 1 p.0 == k) (number_at 1 2 p.0 == e) b.1 in
    any-at get hid k e p.0 p.1 (sym (eqb-true (number_at 1 1 p.0) k c.0)) (sym (eqb-true (number_at 1 2 p.0) e c.1)) low high ∙ h

pub entry-long : (e key : ℕ) (rs : List (ℕ × List ℕ)) (x : List ℕ) → AreLong e rs → entry_of key rs ≡ Some x → length x ≡ e
entry-long e key [] x long h = absurd (none-some x h)
entry-long e key (r ∷ rs) x long h = elim (cases_Bool (r.0 == key)) [
  | inl t ↦ ap length (sym (some-injective r.1 x (rw t at h))) ∙ long.0
  | inr f ↦ entry-long e key rs x long.1 (rw f at h)
]
