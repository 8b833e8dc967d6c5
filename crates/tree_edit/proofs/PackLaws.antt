-- Packing, as far as it has come.
use Rattle.std.proofs.Common.{◌≡◌, ℕ, suc, ◌+◌, ◌≤◌, List, [], ◌∷◌, ◌++◌, length, take, drop, get_or, refl, sym, ap, subst, ◌∙◌, arith, append_assoc, take-append-drop}
use Rattle.tree_edit.specs.declared.plan.Child.{Child}
use Rattle.tree_edit.specs.declared.plan.Child.TheVariants.{New}
use Rattle.tree_edit.specs.declared.plan.PlanPage.{PlanPage}
use Rattle.pst_base.specs.declared.ids.Bref.{Bref}
use Rattle.tree_edit.specs.Shapes.{leaf, inner}
use Rattle.tree_edit.specs.Plans.{shape_in, resolved}
use Rattle.tree_edit.specs.Steps.{Lays, Packs}
use Rattle.tree_edit.proofs.PlanLaws.{lays-start, lays-next, packs-start, packs-next}

pub record LeavesSoFar {E : Type 0} (key : E → ℕ) (old pages : List (PlanPage E)) (cs : List (ℕ × Child)) (entries rest : List E) : Type 0 where
  pub done : List E
  pub split : entries ≡ done ++ rest
  pub lays : Lays key old pages cs done

pub leaves-start : {E : Type 0} (key : E → ℕ) (pages : List (PlanPage E)) (entries : List E) (cs : List (ℕ × Child)) → cs ≡ [] → LeavesSoFar key pages pages cs entries entries
leaves-start key pages entries cs e = record { done = []; split = refl; lays = subst (λ (l : List (ℕ × Child)). Lays key pages pages l []) (sym e) (lays-start key pages) }

pub leaves-next : {E : Type 0} (key : E → ℕ) (old pages next : List (PlanPage E)) (cs ds : List (ℕ × Child)) (entries rest front back : List E) (e : E) (page : PlanPage E) (k i : ℕ)
    → LeavesSoFar key old pages cs entries rest → rest ≡ front ++ back → 1 ≤ length front → e ≡ get_or front 0 e → next ≡ pages ++ (page ∷ []) → ds ≡ cs ++ ((k, New i) ∷ []) → i ≡ length pages
    → k ≡ key e → ((name : ℕ → Bref) → shape_in name page ≡ leaf front) → LeavesSoFar key old next ds entries back
leaves-next key old pages next cs ds entries rest [] back e page k i so_far cut some first grown named number keyed shows = absurd (omega arith)
leaves-next key old pages next cs ds entries rest (f ∷ front) back e page k i so_far cut some first grown named number keyed shows = record {
  done = so_far.done ++ (f ∷ front);
  split = so_far.split ∙ ap (λ (l : List _). so_far.done ++ l) cut ∙ sym (append_assoc so_far.done (f ∷ front) back);
  lays = lays-next key old pages next cs ds so_far.done f front page k so_far.lays grown (named ∙ ap (λ (n : ℕ). cs ++ ((k, New n) ∷ [])) number) (keyed ∙ ap key first) shows;
}

pub record InnersSoFar {E : Type 0} (key : E → ℕ) (level : ℕ) (old pages : List (PlanPage E)) (cs children rest : List (ℕ × Child)) : Type 0 where
  pub done : List (ℕ × Child)
  pub split : children ≡ done ++ rest
  pub packs : (n : ℕ) → level ≡ n + 1 → Packs key n old pages done cs

pub inners-start : {E : Type 0} (key : E → ℕ) (level : ℕ) (pages : List (PlanPage E)) (children cs : List (ℕ × Child)) → cs ≡ [] → InnersSoFar key level pages pages cs children children
inners-start key level pages children cs e =
    record { done = []; split = refl; packs = λ n is. subst (λ (l : List (ℕ × Child)). Packs key n pages pages [] l) (sym e) (packs-start key n pages) }

pub inners-next : {E : Type 0} (key : E → ℕ) (level : ℕ) (old pages next : List (PlanPage E)) (cs ds children rest front back : List (ℕ × Child)) (page : PlanPage E) (k i : ℕ) (d : ℕ × Child)
    → InnersSoFar key level old pages cs children rest → rest ≡ front ++ back → 1 ≤ length front → k ≡ (get_or front 0 d).0 → next ≡ pages ++ (page ∷ []) → ds ≡ cs ++ ((k, New i) ∷ []) → i ≡ length pages
    → ((name : ℕ → Bref) → shape_in name page ≡ inner level (resolved name front)) → InnersSoFar key level old next ds children back
inners-next key level old pages next cs ds children rest [] back page k i d so_far cut some first grown named number shows = absurd (omega arith)
inners-next key level old pages next cs ds children rest (f ∷ front) back page k i d so_far cut some first grown named number shows = record {
  done = so_far.done ++ (f ∷ front);
  split = so_far.split ∙ ap (λ (l : List (ℕ × Child)). so_far.done ++ l) cut ∙ sym (append_assoc so_far.done (f ∷ front) back);
  packs = λ n is.
      let e : level ≡ suc n = omega (arith, is) in
      packs-next key n old pages next so_far.done cs ds f front page k (so_far.packs n is) grown (named ∙ ap (λ (m : ℕ). cs ++ ((k, New m) ∷ [])) number) first (λ name. shows name ∙ ap (λ (m : ℕ). inner m (resolved name (f ∷ front))) e);
}

pub cut-again : {A : Type 0} (n : ℕ) (xs front back : List A) → front ≡ take n xs → back ≡ drop n xs → xs ≡ front ++ back
cut-again n xs front back a b = sym (ap (λ (l : List _). l ++ back) a ∙ ap (λ (l : List _). take n xs ++ l) b ∙ take-append-drop n xs)
