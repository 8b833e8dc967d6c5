-- Pages that may be written.
use Rattle.std.proofs.Common.{◌≡◌, ℕ, zero, suc, ◌+◌, ◌*◌, ◌≤◌, List, [], ◌∷◌, ◌++◌, map, length, take, drop, get_or, sym, ap, subst, ◌∙◌, arith, Option}
use Rattle.std.proofs.lemmas.Nat.{mul-le}
use Rattle.tree_edit.specs.declared.plan.Child.{Child}
use Rattle.tree_edit.specs.declared.plan.PlanPage.{PlanPage}
use Rattle.tree_edit.specs.Shapes.{RiseIn}
use Rattle.tree_edit.specs.Edits.{AreEdits}
use Rattle.tree_edit.specs.Plans.{AreKeys, IsWritable, AreWritable, keys_of}

pub writable-push : {E : Type 0} (key : E → ℕ) (rule : ℕ → ℕ) (size : ℕ) (ps : List (PlanPage E)) (p : PlanPage E) → AreWritable key rule size ps → IsWritable key rule size p → AreWritable key rule size (ps ++ (p ∷ []))
writable-push key rule size [] p a w = (w, tt)
writable-push key rule size (x ∷ ps) p a w = (a.0, writable-push key rule size ps p a.1 w)

pub rise-take : {A : Type 0} (key : A → ℕ) (low high n : ℕ) (xs : List A) → RiseIn low high (map key xs) → RiseIn low high (map key (take n xs))
rise-take key low high zero xs r = tt
rise-take key low high (suc n) [] r = tt
rise-take key low high (suc n) (x ∷ xs) r = (r.0, r.1, rise-take key (key x + 1) high n xs r.2)

pub fits-page : (n most size : ℕ) → n ≤ most → most * size ≤ 488 → n * size ≤ 488
fits-page n most size le fits = let a : n * size ≤ most * size = mul-le n size most size le (omega arith) in omega (arith, a, fits)

pub edits-widen : {E : Type 0} (key : E → ℕ) (low high low' high' : ℕ) (ds : List (ℕ × Option E)) → low' ≤ low → high ≤ high' → AreEdits key low high ds → AreEdits key low' high' ds
edits-widen key low high low' high' [] a b d = tt
edits-widen key low high low' high' (x ∷ ds) a b d =
    let p = d.0 in let q = d.1 in (omega arith, omega arith, d.2, edits-widen key (x.0 + 1) high (x.0 + 1) high' ds (omega arith) b d.3)

-- ---- keys that the tree's rule leaves as they are

pub keys-more : (rule : ℕ → ℕ) (cs ds out : List (ℕ × Child)) → AreKeys rule (keys_of cs) → AreKeys rule (keys_of ds) → out ≡ cs ++ ds → AreKeys rule (keys_of out)
keys-more rule cs ds out a b is = subst (λ (l : List (ℕ × Child)). AreKeys rule (keys_of l)) (sym is) (all cs a)
  where
    all : (xs : List (ℕ × Child)) → AreKeys rule (keys_of xs) → AreKeys rule (keys_of (xs ++ ds))
    all [] a = b
    all (x ∷ xs) a = (a.0, all xs a.1)

pub keys-take : (rule : ℕ → ℕ) (n : ℕ) (cs : List (ℕ × Child)) → AreKeys rule (keys_of cs) → AreKeys rule (keys_of (take n cs))
keys-take rule zero cs a = tt
keys-take rule (suc n) [] a = tt
keys-take rule (suc n) (c ∷ cs) a = (a.0, keys-take rule n cs a.1)

pub keys-drop : (rule : ℕ → ℕ) (n : ℕ) (cs : List (ℕ × Child)) → AreKeys rule (keys_of cs) → AreKeys rule (keys_of (drop n cs))
keys-drop rule zero cs a = a
keys-drop rule (suc n) [] a = tt
keys-drop rule (suc n) (c ∷ cs) a = keys-drop rule n cs a.1

pub first-key : (rule : ℕ → ℕ) (cs : List (ℕ × Child)) (d : ℕ × Child) → 1 ≤ length cs → AreKeys rule (keys_of cs) → rule (get_or cs 0 d).0 ≡ (get_or cs 0 d).0
first-key rule [] d some a = absurd (omega (arith, some))
first-key rule (c ∷ cs) d some a = a.0

-- the key that stands in an entry's bytes is one
pub own-key : (rule : ℕ → ℕ) (first key k : ℕ) → ((x : ℕ) → rule (rule x) ≡ rule x) → rule first ≡ key → k ≡ key → rule k ≡ k
own-key rule first key k steady h is = ap rule (is ∙ sym h) ∙ steady first ∙ h ∙ sym is
