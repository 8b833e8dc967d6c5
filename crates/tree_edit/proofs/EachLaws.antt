-- Parts of a tree that are replaced, one behind the other.
use Rattle.std.proofs.Common.{◌≡◌, ℕ, ◌+◌, List, [], ◌∷◌, refl, sym, arith, Option}
use Rattle.std.proofs.lemmas.List.{append-nil}
use Rattle.pst_base.specs.declared.ids.Bref.{Bref}
use Rattle.tree_edit.specs.declared.plan.Child.TheVariants.{Old}
use Rattle.tree_edit.specs.declared.plan.PlanPage.{PlanPage}
use Rattle.tree_edit.specs.Shapes.{Shape, IsTree}
use Rattle.tree_edit.specs.Steps.{Replaces}
use Rattle.tree_edit.proofs.PlanLaws.{tree-kept}

sums-start : (a b : ℕ) → a ≡ b → a + 0 ≡ b
sums-start a b e = omega arith

pub replaces-start : {E : Type 0} (find : Bref → Option (Shape E)) (key : E → ℕ) (n high : ℕ) (pages : List (PlanPage E)) (freed : List Bref) → Replaces find key n high pages pages freed freed [] [] []
replaces-start find key n high pages freed = record {
  more = [];
  gone = [];
  kept = [];
  pages = sym (append-nil pages);
  freed = sym (append-nil freed);
  counted = λ ib. refl;
  tree = λ after name k s. ([], (refl, refl), λ ib. refl);
}

pub replaces-kept : {E : Type 0} (find : Bref → Option (Shape E)) (key : E → ℕ) (n high k : ℕ) (pages : List (PlanPage E)) (freed : List Bref) (at : Bref) (es : List E) (ps : List Bref)
    → IsTree find key n k high at es ps → Replaces find key n high pages pages freed freed ((k, Old at) ∷ []) es ps
replaces-kept find key n high k pages freed at es ps t = record {
  more = [];
  gone = [];
  kept = ps;
  pages = sym (append-nil pages);
  freed = sym (append-nil freed);
  counted = λ ib. sums-start _ _ refl;
  tree = λ after name kept s. (
    ps,
    record { first = es; later = []; first_pages = ps; later_pages = []; one = tree-kept find after key n k high at es ps kept t; rest = (refl, refl); entries = sym (append-nil es); pages = sym (append-nil ps) },
    λ ib. sym (sums-start _ _ refl),
  );
}
