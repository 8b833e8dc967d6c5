-- What a root's page shows, and leaves in place of all that stands below it.
use Rattle.std.proofs.Common.{◌≡◌, ℕ, zero, suc, ◌+◌, List, [], ◌∷◌, ◌++◌, map, length, refl, sym, ap, ◌∙◌, arith, Option}
use Rattle.pst_base.specs.declared.ids.Bref.{Bref}
use Rattle.btree_pages.specs.Pages.{Page}
use Rattle.tree_edit.specs.declared.plan.Child.{Child}
use Rattle.tree_edit.specs.declared.plan.PlanPage.{PlanPage}
use Rattle.tree_edit.specs.Shapes.{Shape, RiseIn}
use Rattle.tree_edit.specs.Steps.{Replaces, Lays}
use Rattle.tree_edit.specs.Pages.{shape_of}
use Rattle.tree_edit.proofs.StepLaws.{leaf-shape, inner-shape}

zero-first : (a b : ℕ) → a ≡ b → 0 + a ≡ b
zero-first a b e = omega arith

-- all pages are freed, and leaves with the entries come in their place
pub replaces-root : {E : Type 0} (find : Bref → Option (Shape E)) (key : E → ℕ) (high : ℕ) (old new : List (PlanPage E)) (freed gone : List Bref) (cs : List (ℕ × Child)) (es : List E) (ps : List Bref)
    → gone ≡ freed ++ ps → RiseIn 0 high (map key es) → Lays key old new cs es → Replaces find key 0 high old new freed gone cs es ps
replaces-root find key high old new freed gone cs es ps is rises lays = record {
  more = lays.more;
  gone = ps;
  kept = [];
  pages = lays.pages;
  freed = is;
  counted = λ ib. zero-first _ _ refl;
  tree = λ after name k s. let t = lays.tree after name 0 high s rises in (t.0, t.1, λ ib. t.2 ib ∙ sym (zero-first _ _ refl));
}

pub no-items : {A : Type 0} (xs : List A) → length xs ≡ 0 → xs ≡ []
no-items [] e = refl
no-items (x ∷ xs) e = absurd (omega arith)

-- ---- what a root's page shows

pub shape-level : {E : Type 0} (rule : ℕ → ℕ) (entry_of : List ℕ → E) (page : Page) → (shape_of {E = E} rule entry_of page).level ≡ page.level
shape-level {E} rule entry_of page = go page.level refl
  where
    go : (n : ℕ) → page.level ≡ n → (shape_of {E = E} rule entry_of page).level ≡ page.level
    go zero e = ap (λ (s : Shape E). s.level) (leaf-shape rule entry_of page e) ∙ sym e
    go (suc n) e = ap (λ (s : Shape E). s.level) (inner-shape rule entry_of page n e) ∙ sym e
