-- The value of an id, found among the values of records.
use Rattle.std.proofs.Common.{◌≡◌, ◌==◌, ℕ, List, [], ◌∷◌, drop, Option, Some, None, refl, sym, ap, ◌∙◌, inl, inr}
use Rattle.std.proofs.lemmas.Bool.{cases_Bool, eqb-true}
use Rattle.pst_base.specs.Fields.{number_at}
use Rattle.mapi_values.specs.Values.{Val, in_field}
use Rattle.mapi_values.specs.Properties.{find}
use Rattle.bth_tree.specs.Records.{entry_of}
use Rattle.bth_tree.proofs.OptionLaws.{bind-some, none-some, some-injective}
use Rattle.property_context.specs.Context.{fitting, of_field, value_of, values_of}
use Rattle.property_context.proofs.ValueLaws.{fitting-some, value-parts, values-parts}

pub find-none : (get : ℕ → Option (List ℕ)) (sub : ℕ → Option (List (List ℕ))) (id : ℕ) (rs : List (ℕ × List ℕ)) (vs : List Val) → values_of get sub rs ≡ Some vs → entry_of id rs ≡ None → find id vs ≡ None
find-none get sub id [] vs h none = ap (find id) (sym (some-injective [] vs h))
find-none get sub id (r ∷ rs) vs h none =
    let p = values-parts get sub r rs vs h in
    let same = (value-parts get sub r p.0 p.2).0 in
    elim (cases_Bool (r.0 == id)) [
      | inl t ↦ absurd (none-some r.1 (sym (rw t at none)))
      | inr f ↦ ap (find id) p.4 ∙ rw (same, f) (find-none get sub id rs p.1 p.3 (rw f at none))
    ]

pub find-some : (get : ℕ → Option (List ℕ)) (sub : ℕ → Option (List (List ℕ))) (id : ℕ) (entry : List ℕ) (rs : List (ℕ × List ℕ)) (vs : List Val) → values_of get sub rs ≡ Some vs → entry_of id rs ≡ Some entry
    → find id vs ≡ value_of get sub (id, entry)
find-some get sub id entry [] vs h some = absurd (none-some entry some)
find-some get sub id entry (r ∷ rs) vs h some =
    let p = values-parts get sub r rs vs h in
    let same = (value-parts get sub r p.0 p.2).0 in
    elim (cases_Bool (r.0 == id)) [
      | inl t ↦
          let entry_is : r.1 ≡ entry = some-injective r.1 entry (rw t at some) in
          ap (find id) p.4 ∙ rw (same, t) (sym p.2
          ∙ ap (λ (n : ℕ). value_of get sub (n, r.1)) (eqb-true r.0 id t)
          ∙ ap (λ (x : List ℕ). value_of get sub (id, x)) entry_is)
      | inr f ↦ ap (find id) p.4 ∙ rw (same, f) (find-some get sub id entry rs p.1 p.3 (rw f at some))
    ]

-- a value has the kind that its record gives
value-kind : (get : ℕ → Option (List ℕ)) (sub : ℕ → Option (List (List ℕ))) (r : ℕ × List ℕ) (v : Val) → value_of get sub r ≡ Some v → v.kind ≡ number_at 2 0 r.1
unfolding value_of
value-kind get sub r v h =
    let p = bind-some (fitting r.0 (number_at 2 0 r.1)) (of_field get sub (in_field (number_at 2 0 r.1)) (drop 2 r.1)) v h in
    ap (λ (w : Val). w.kind) (fitting-some r.0 (number_at 2 0 r.1) p.0 v p.2).is

-- a value whose record is there is found, and has the kind that the record gives
pub record IsFound (id : ℕ) (entry : List ℕ) (vs : List Val) : Type 0 where
  pub value : Val
  pub found : find id vs ≡ Some value
  pub kind : value.kind ≡ number_at 2 0 entry

pub find-is : (get : ℕ → Option (List ℕ)) (sub : ℕ → Option (List (List ℕ))) (id : ℕ) (entry : List ℕ) (rs : List (ℕ × List ℕ)) (vs : List Val) → values_of get sub rs ≡ Some vs → entry_of id rs ≡ Some entry
    → IsFound id entry vs
find-is get sub id entry [] vs h some = absurd (none-some entry some)
find-is get sub id entry (r ∷ rs) vs h some =
    let p = values-parts get sub r rs vs h in
    let same = (value-parts get sub r p.0 p.2).0 in
    elim (cases_Bool (r.0 == id)) [
      | inl t ↦ record {
        value = p.0;
        found = ap (find id) p.4 ∙ rw (same, t) refl;
        kind = value-kind get sub r p.0 p.2 ∙ ap (number_at 2 0) (some-injective r.1 entry (rw t at some));
      }
      | inr f ↦
          let q = find-is get sub id entry rs p.1 p.3 (rw f at some) in
          record { value = q.value; found = ap (find id) p.4 ∙ rw (same, f) q.found; kind = q.kind }
    ]
