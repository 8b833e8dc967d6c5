-- The first entry from a key on, by keys.
use Rattle.std.proofs.Common.{Bool, true, false, ◌≡◌, ℕ, zero, suc, ◌+◌, ◌^◌, ◌≤◌, ◌<◌, leb, if◌then◌else◌, List, [], ◌∷◌, map, refl, subst, arith, Option, Some, None}
use Rattle.std.proofs.lemmas.Bool.{eq-eqb, ne_eqb, leb-true, leb-false}
use Rattle.pst_base.specs.declared.ids.Bref.{Bref}
use Rattle.tree_edit.specs.Shapes.{Shape, RiseIn, IsTree, IsRootOf, IsWhole}
use Rattle.tree_edit.specs.Edits.{entry_with}
use Rattle.tree_edit.proofs.ShapeLaws.{tree-rise, below-rise}
use Rattle.tree_search.specs.Search.{first_from}

-- the entries of a root's tree ascend
pub whole-rise : {E : Type 0} (find : Bref → Option (Shape E)) (key : E → ℕ) (root : Bref) (es : List E) (ps : List Bref) → IsWhole find key root es ps → RiseIn 0 (2 ^ 64) (map key es)
whole-rise {E} find key root es ps whole = go whole.level whole.tree
  where
    go : (n : ℕ) → IsRootOf find key n 0 (2 ^ 64) root es ps → RiseIn 0 (2 ^ 64) (map key es)
    go zero t = t.rises
    go (suc n) t = below-rise (IsTree find key n) key (λ l h at fs qs t. tree-rise find key n l h at fs qs t) 0 (2 ^ 64) t.children es t.below t.rises t.are

none-below : {E : Type 0} (key : E → ℕ) (q lo hi : ℕ) (es : List E) → RiseIn lo hi (map key es) → q < lo → entry_with key q es ≡ None
none-below key q lo hi [] r h = refl
none-below key q lo hi (x ∷ xs) r h = let a = r.0 in rw (ne_eqb (key x) q (λ e. absurd (omega (arith, a, h, e)))) (none-below key q (key x + 1) hi xs r.2 (omega (arith, a, h)))

-- it has the least key from this one on
pub record IsFirst {E : Type 0} (key : E → ℕ) (low : ℕ) (es : List E) (e : E) : Type 0 where
  pub reached : low ≤ key e
  pub there : entry_with key (key e) es ≡ Some e
  pub least : (q : ℕ) → low ≤ q → q < key e → entry_with key q es ≡ None

pub first-some : {E : Type 0} (key : E → ℕ) (low lo hi : ℕ) (es : List E) (e : E) → RiseIn lo hi (map key es) → first_from key low es ≡ Some e → IsFirst key low es e
first-some key low lo hi [] e r is = absurd (cc)
first-some {E} key low lo hi (x ∷ xs) e r is = by_key (leb low (key x)) refl (λ i. first-some key low (key x + 1) hi xs e r.2 i) is
  where
    by_key : (b : Bool) → leb low (key x) ≡ b → (first_from key low xs ≡ Some e → IsFirst key low xs e) → (if b then Some x else first_from key low xs) ≡ Some e → IsFirst key low (x ∷ xs) e
    by_key true up more is =
        let same : x ≡ e = cc in
        subst (λ (y : E). IsFirst key low (x ∷ xs) y) same (record {
          reached = leb-true low (key x) up;
          there = rw (eq-eqb (key x) (key x) refl) refl;
          least = λ q le less. rw (ne_eqb (key x) q (λ e. absurd (omega (arith, less, e)))) (none-below key q (key x + 1) hi xs r.2 (omega (arith, less)));
        })
    by_key false down rest is =
        let more = rest is in
        let less = leb-false low (key x) down in
        let reached = more.reached in
        record {
          reached = reached;
          there = rw (ne_eqb (key x) (key e) (λ same. absurd (omega (arith, less, reached, same)))) more.there;
          least = λ q le under. rw (ne_eqb (key x) q (λ same. absurd (omega (arith, less, le, same)))) (more.least q le under);
        }

pub first-none : {E : Type 0} (key : E → ℕ) (low : ℕ) (es : List E) → first_from key low es ≡ None → (q : ℕ) → low ≤ q → entry_with key q es ≡ None
first-none key low [] is q le = refl
first-none {E} key low (x ∷ xs) is q le = by_key (leb low (key x)) refl (λ i. first-none key low xs i q le) is
  where
    by_key : (b : Bool) → leb low (key x) ≡ b → (first_from key low xs ≡ None → entry_with key q xs ≡ None) → (if b then Some x else first_from key low xs) ≡ None → entry_with key q (x ∷ xs) ≡ None
    by_key true up rest is = absurd (cc)
    by_key false down rest is = let less = leb-false low (key x) down in rw (ne_eqb (key x) q (λ same. absurd (omega (arith, less, le, same)))) (rest is)
