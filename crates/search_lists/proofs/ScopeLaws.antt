-- Which messages are listed as they were.
use Rattle.std.proofs.Common.{◌≡◌, ◌∙◌, ℕ, zero, suc, ◌==◌, ◌&&◌, Bool, true, false, List, [], ◌∷◌, Option, None, Some, ap, sym, refl, inl, inr, if◌then◌else◌, ◌||◌}
use Rattle.std.specs.List.{list_any}
use Rattle.std.specs.Option.{option_map}
use Rattle.std.proofs.lemmas.Bool.{eq-eqb, cases_Bool, false≢true, ne_eqb, or_parts, eqb-true}
use Rattle.std.proofs.lemmas.Option.{none-some}
use Rattle.mapi_values.specs.Messages.{Mes}
use Rattle.restr_eval.specs.Eval.{eval, holds_of, subject}
use Rattle.search_obj.specs.Scope.{is_among}
use Rattle.mail_tree.specs.declared.places.FolderPlace.{FolderPlace}
use Rattle.mail_tree.specs.Places.{ROOT, find_place, is_plain, is_within, onward, path, path_from}
use Rattle.mail_searches.specs.Searches.{Search, in_scope, is_listed, is_plain_at, looked_from}
use Rattle.search_lists.specs.Laws.{ScopesAreWithin}

-- places that differ at these folders alone
module _ (bad : ℕ → Bool) (places places' : List FolderPlace) (others : (g : ℕ) → bad g ≡ false → find_place g places' ≡ find_place g places) where
  abbrev meets : List ℕ → Bool
  meets ids = list_any bad ids

  -- what goes on from the folder above
  abbrev rest : (ℕ → List ℕ) → Bool → Option FolderPlace → List ℕ
  rest next b above = if b then [] else onward next (option_map (λ (q : FolderPlace). q.parent.bits) above)

  same-rest : (n : ℕ) → ((g : ℕ) → meets (path_from n places g) ≡ false → path_from n places' g ≡ path_from n places g)
      → (b : Bool) (a c : Option FolderPlace) → a ≡ c → meets (rest (path_from n places) b c) ≡ false → rest (path_from n places') b a ≡ rest (path_from n places) b c
  same-rest n same true a c e h = refl
  same-rest n same false a None e h = ap (rest (path_from n places') false) e
  same-rest n same false a (Some c) e h = ap (rest (path_from n places') false) e ∙ same c.parent.bits h

  -- a path that meets none of them is the same
  same-path : (n g : ℕ) → meets (path_from n places g) ≡ false → path_from n places' g ≡ path_from n places g
  unfolding path_from
  same-path zero g e = refl
  same-path (suc n) g e =
      let p = or_parts (bad g) _ e in
      ap (λ ids. g ∷ ids) (same-rest n (same-path n) (g == ROOT) (find_place g places') (find_place g places) (others g p.0) p.1)

  begins : (n g : ℕ) → meets (path_from n places g) ≡ false → bad g ≡ false
  unfolding path_from
  begins zero g e = (or_parts (bad g) false e).0
  begins (suc n) g e = (or_parts (bad g) _ e).0

  same-plain : (g : ℕ) → bad g ≡ false → is_plain_at places' g ≡ is_plain_at places g
  same-plain g e = ap (holds_of is_plain) (others g e)

  same-given : (s : Search) (ids : List ℕ) → meets ids ≡ false → list_any (λ g. is_among s.scope g && is_plain_at places' g) ids ≡ list_any (λ g. is_among s.scope g && is_plain_at places g) ids
  same-given s [] e = refl
  same-given s (g ∷ ids) e =
      let p = or_parts (bad g) (meets ids) e in
      ap (λ b. (is_among s.scope g && b) || list_any (λ g. is_among s.scope g && is_plain_at places' g) ids) (same-plain g p.0)
      ∙ ap (λ b. (is_among s.scope g && is_plain_at places g) || b) (same-given s ids p.1)

  -- the folders that a search looks from
  same-looked : (recursive : Bool) (g : ℕ) → meets (path places g) ≡ false → looked_from places' recursive g ≡ looked_from places recursive g
  same-looked true g e = same-path 64 g e
  same-looked false g e = refl

  looked-out : (recursive : Bool) (g : ℕ) → meets (path places g) ≡ false → meets (looked_from places recursive g) ≡ false
  looked-out true g e = e
  looked-out false g e = rw (begins 64 g e) refl

  same-scope : (s : Search) (g : ℕ) → meets (path places g) ≡ false → in_scope places' s g ≡ in_scope places s g
  same-scope s g e =
      let test : List FolderPlace → ℕ → Bool = λ ps h. is_among s.scope h && is_plain_at ps h in
      ap (λ b. b && list_any (test places') (looked_from places' s.recursive g)) (same-plain g (begins 64 g e))
      ∙ ap (λ ids. is_plain_at places g && list_any (test places') ids) (same-looked s.recursive g e)
      ∙ ap (λ b. is_plain_at places g && b) (same-given s (looked_from places s.recursive g) (looked-out s.recursive g e))

  -- a message whose folder's path meets none of them is listed as it was
  pub same-listed : (s : Search) (message : Option Mes) → ((m : Mes) → message ≡ Some m → list_any bad (path places m.folder) ≡ false) → is_listed places' s message ≡ is_listed places s message
  same-listed s None out = refl
  same-listed s (Some m) out = ap (λ b. b && eval s.restriction (subject m)) (same-scope s m.folder (out m refl))

pub meets-none : (ids : List ℕ) → list_any (λ (g : ℕ). false) ids ≡ false
meets-none [] = refl
meets-none (g ∷ ids) = meets-none ids

-- places where each folder's parent is placed, and one folder isn't
module _ (places : List FolderPlace) (parents : (g : ℕ) (p : FolderPlace) → find_place g places ≡ Some p → (g ≡ ROOT → ⊥) → (q : FolderPlace) × (find_place p.parent.bits places ≡ Some q))
    (f : ℕ) (none : find_place f places ≡ None) where
  apart : (g : ℕ) (p : FolderPlace) → find_place g places ≡ Some p → (g == f) ≡ false
  apart g p is = ne_eqb g f (λ e. none-some p (sym none ∙ ap (λ x. find_place x places) (sym e) ∙ is))

  -- the path of a folder that is placed doesn't meet it
  path-out : (n g : ℕ) (p : FolderPlace) → find_place g places ≡ Some p → list_any (λ h. h == f) (path_from n places g) ≡ false
  unfolding path_from
  path-out zero g p is = rw (apart g p is) refl
  path-out (suc n) g p is = elim (cases_Bool (g == ROOT)) [
    | inl t ↦ rw (apart g p is, t) refl
    | inr t ↦
        let up = parents g p is (λ e. false≢true (sym t ∙ eq-eqb g ROOT e)) in
        rw (apart g p is, t, is) (path-out n p.parent.bits up.0 up.1)
  ]

  pub placed-out : (g : ℕ) (p : FolderPlace) → find_place g places ≡ Some p → is_within places f g ≡ false
  placed-out g p is = path-out 64 g p is

-- given folders that are met on the way up
module _ (plain : ℕ → Bool) where
  none-given : (ids : List ℕ) → list_any (λ h. is_among [] h && plain h) ids ≡ false
  none-given [] = refl
  none-given (h ∷ ids) = none-given ids

  split : (g : ℕ) (gs ids : List ℕ) → list_any (λ h. is_among (g ∷ gs) h && plain h) ids ≡ (list_any (λ h. (g == h) && plain h) ids || list_any (λ h. is_among gs h && plain h) ids)
  split g gs [] = refl
  split g gs (h ∷ ids) = ap (λ b. (((g == h) || is_among gs h) && plain h) || b) (split g gs ids) ∙ mixed (g == h) (is_among gs h) (plain h) (list_any (λ h. (g == h) && plain h) ids) (list_any (λ h. is_among gs h && plain h) ids)
    where
      mixed : (a b p x y : Bool) → (((a || b) && p) || (x || y)) ≡ (((a && p) || x) || ((b && p) || y))
      mixed true true true x y = refl
      mixed true false true x y = refl
      mixed true true false x y = refl
      mixed true false false x y = refl
      mixed false true true true y = refl
      mixed false true true false y = refl
      mixed false false true x y = refl
      mixed false true false x y = refl
      mixed false false false x y = refl

  one-given : (g : ℕ) (ids : List ℕ) → list_any (λ h. (g == h) && plain h) ids ≡ (plain g && list_any (λ h. h == g) ids)
  one-given g [] = never (plain g)
    where
      never : (b : Bool) → false ≡ (b && false)
      never true = refl
      never false = refl
  one-given g (h ∷ ids) = elim (cases_Bool (g == h)) [
    | inl t ↦ let e : g ≡ h = eqb-true g h t in rw (t, eq-eqb h g (sym e)) (here (plain h) (plain g) (list_any (λ h. (g == h) && plain h) ids) (ap plain (sym e)) (one-given g ids))
    | inr f ↦ rw (f, ne_eqb h g (λ e. false≢true (sym f ∙ eq-eqb g h (sym e)))) (one-given g ids)
  ]
    where
      here : (p q x : Bool) → p ≡ q → x ≡ (q && list_any (λ h. h == g) ids) → (p || x) ≡ (q && true)
      here true true x e y = refl
      here false false x e y = y
      here true false x e y = cc
      here false true x e y = cc

  pub given-within : (scope ids : List ℕ) → list_any (λ h. is_among scope h && plain h) ids ≡ list_any (λ g. plain g && list_any (λ h. h == g) ids) scope
  given-within [] ids = none-given ids
  given-within (g ∷ gs) ids = split g gs ids ∙ ap (λ b. b || list_any (λ h. is_among gs h && plain h) ids) (one-given g ids) ∙ ap (λ b. (plain g && list_any (λ h. h == g) ids) || b) (given-within gs ids)

pub scopes_are_within : ScopesAreWithin
scopes_are_within = record {
  shallow = λ places s f r. rw r (once (is_plain_at places f) (is_among s.scope f));
  deep = λ places s f r. rw r (ap (λ b. is_plain_at places f && b) (given-within (is_plain_at places) s.scope (path places f)));
}
  where
    once : (p a : Bool) → (p && ((a && p) || false)) ≡ (p && a)
    once true true = refl
    once true false = refl
    once false a = refl
