-- What stands at an id after changes, and after a command.
use Rattle.std.proofs.Common.{◌≡◌, ℕ, ◌==◌, Bool, true, false, cond, Option, Some, refl, sym, ap, arith, ◌∙◌, inl, inr}
use Rattle.std.specs.Prelude.{nat_lt}
use Rattle.std.proofs.lemmas.Bool.{cases_Bool, cases_eq, eq-eqb, eqb-true, le-ltb, ne_eqb}
use Rattle.std.specs.Cmp.{nat_cmp_total}
use Rattle.std.specs.Ordering.{nat_cmp, eq_by_cmp}
use Rattle.std.specs.FinMap as map
use Rattle.mail_objects.specs.declared.object.Object.{Object}
use Rattle.mail_tree.specs.Tree.{Tree, object_at}
use Rattle.mail_tree.specs.Changing.{Changed, newest, nothing, now_at, with_object}
use Rattle.mail_tree.specs.Folders.{Outcome}
use Rattle.mail_tree.specs.Step.{after}
use Rattle.mail_tree.proofs.AfterLaws.{get-with_changes}
use Rattle.mail_tree.proofs.Nearly.{Puts}

pub tied : (b : Bool) (x y : ℕ) → (x == y) ≡ b → eq_by_cmp nat_cmp x y ≡ b
tied true x y e = let same : x ≡ y = eqb-true x y e in rw (le-ltb x y (omega arith), e) refl
tied false x y e = elim (cases_Bool (nat_lt x y)) [ inl t ↦ rw t refl | inr t ↦ rw (t, e) refl ]

newest_put : (b : Bool) (w : Option Object) (r : Option (Option Object)) (old : Option Object) → newest (cond b (Some w) r) old ≡ cond b w (newest r old)
newest_put true w r old = refl
newest_put false w r old = refl

-- an object that is put stands at its id, and elsewhere stands what stood there
now_put : (T : Tree) (D : Changed) (q x : ℕ) (o : Option Object) → newest (map.get (map.insert D.objects q o) x) (object_at T x) ≡ cond (eq_by_cmp nat_cmp x q) o (now_at T D x)
now_put T D q x o = ap (λ r. newest r (object_at T x)) (map.get-insert nat_cmp_total D.objects q o x) ∙ newest_put (eq_by_cmp nat_cmp x q) o (map.get D.objects x) (object_at T x)

pub puts_object : (T : Tree) (D : Changed) (q : ℕ) (o : Option Object) → Puts (now_at T D) (now_at T (with_object q o D)) q o
puts_object T D q o = record {
  here = rw (now_put T D q q o, tied true q q (eq-eqb q q refl)) refl;
  others = λ x other. rw (now_put T D q x o, tied false x q (ne_eqb x q other)) refl;
}

-- where what stands there is put as it is, all stands as it stood
pub same_now : (T : Tree) (D : Changed) (q : ℕ) (o : Object) → now_at T D q ≡ Some o → now_at T (with_object q (Some o) D) ≡ now_at T D
same_now T D q o at i x = stays x i
  where
    stays : (x : ℕ) → now_at T (with_object q (Some o) D) x ≡ now_at T D x
    stays x = elim (cases_eq x q) [
      | inl same ↦ ap (now_at T (with_object q (Some o) D)) same ∙ (puts_object T D q (Some o)).here ∙ sym at ∙ ap (now_at T D) (sym same)
      | inr other ↦ (puts_object T D q (Some o)).others x other
    ]

-- with no changes stands what stood there
pub now_nothing : (T : Tree) → now_at T nothing ≡ object_at T
now_nothing T i x = ap (λ r. newest r (object_at T x)) (map.get-empty nat_cmp x) i

-- the objects after a command are those that its changes leave
pub after_now : (T : Tree) (o : Outcome) → now_at T o.changed ≡ object_at (after T o)
after_now T o i q = sym (get-with_changes (map.entries o.changed.objects) T.objects q ∙ ap (λ r. newest r (object_at T q)) (sym (map.get-entries o.changed.objects q))) i
