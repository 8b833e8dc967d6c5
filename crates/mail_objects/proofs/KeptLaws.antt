-- Subnodes that go or stay, one after the other.
use Rattle.std.proofs.Common.{◌≡◌, ◌∙◌, Bool, ℕ, true, false, List, [], ◌∷◌, ◌++◌, ◌==◌, inl, inr, refl, sym, ap, append_assoc}
use Rattle.std.proofs.lemmas.Bool.{cases_Bool}
use Rattle.pst_base.specs.Flat.{Flat}
use Rattle.pst_base.specs.Subs.{flattened}
use Rattle.pst_base.specs.declared.subs.Sub.{Sub}
use Rattle.mapi_values.specs.declared.part.Part.{Part}
use Rattle.mapi_values.specs.Messages.{are_others, is_other, is_own}
use Rattle.node_values.proofs.SubLaws.{flattened-append, without-first}
use Rattle.node_values.specs.Subnodes.{without}

-- one more that stays
pub one-stays : (test : ℕ → Bool) (out subs rest : List Sub) (s : Sub) (all : List Flat) → subs ≡ s ∷ rest → test s.nid.bits ≡ false
    → flattened out ++ without test false (flattened subs) ≡ all → flattened (out ++ s ∷ []) ++ without test false (flattened rest) ≡ all
one-stays test out subs rest s all is f so_far =
    ap (λ (fs : List Flat). fs ++ without test false (flattened rest)) (flattened-append out (s ∷ []))
    ∙ append_assoc (flattened out) (flattened (s ∷ [])) (without test false (flattened rest))
    ∙ ap (λ (fs : List Flat). flattened out ++ fs) (sym (ap (λ (ss : List Sub). without test false (flattened ss)) is ∙ without-first test s rest ∙ rw f refl))
    ∙ so_far

-- one more that goes
pub one-goes : (test : ℕ → Bool) (out subs rest : List Sub) (s : Sub) (all : List Flat) → subs ≡ s ∷ rest → test s.nid.bits ≡ true
    → flattened out ++ without test false (flattened subs) ≡ all → flattened out ++ without test false (flattened rest) ≡ all
one-goes test out subs rest s all is t so_far =
    ap (λ (fs : List Flat). flattened out ++ fs) (sym (ap (λ (ss : List Sub). without test false (flattened ss)) is ∙ without-first test s rest ∙ rw t refl))
    ∙ so_far

-- what stays isn't of the message's own
pub kept-others : (parts : List Part) (gone : Bool) (fs : List Flat) → are_others parts (without (is_own parts) gone fs) ≡ true
unfolding is_other
kept-others parts gone [] = refl
kept-others parts gone (f ∷ fs) = elim (cases_Bool (f.level == 0)) [
  | inl t ↦ rw t (elim (cases_Bool (is_own parts f.nid)) [ inl y ↦ rw y (kept-others parts true fs) | inr n ↦ rw (n, t, n) (kept-others parts false fs) ])
  | inr e ↦ rw e (elim (cases_Bool gone) [ inl y ↦ rw y (kept-others parts true fs) | inr n ↦ rw (n, e) (kept-others parts false fs) ])
]
