-- The values of records, one after the other.
use Rattle.std.proofs.Common.{◌≡◌, ℕ, suc, ◌+◌, ◌<◌, true, List, [], ◌∷◌, ◌++◌, length, map, drop, get_or, Option, Some, None, refl, sym, ap, ◌∙◌, inl, inr, append_assoc}
use Rattle.std.proofs.lemmas.Bool.{cases_Bool}
use Rattle.std.proofs.lemmas.List.{drop_more}
use Rattle.std.specs.Option.{option_and_then}
use Rattle.std.proofs.lemmas.Bool.{and_from, and_parts}
use Rattle.std.specs.Prelude.{nat_le, nat_lt, ◌^◌, ◌&&◌}
use Rattle.mapi_values.specs.Values.{Val, fits, in_field, value_fits}
use Rattle.mapi_values.specs.Properties.{IsProps, all_fit, ascend_from}
use Rattle.pst_base.specs.Fields.{number_at}
use Rattle.bth_tree.specs.declared.record.Record.{Record}
use Rattle.bth_tree.specs.Answers.{seen}
use Rattle.bth_tree.specs.Records.{within}
use Rattle.bth_tree.proofs.OptionLaws.{bind-some, none-some, some-injective}
use Rattle.bth_tree.proofs.ReadLaws.{no_record}
use Rattle.property_context.specs.Context.{fitting, of_field, value_of, values_of}

-- the values that were read, and those that a reading finds
abbrev pub behind : List Val → Option (List Val) → Option (List Val)
behind out o = option_and_then (λ (more : List Val). Some (out ++ more)) o

pub behind-none : (out : List Val) (o : Option (List Val)) → behind out o ≡ None → o ≡ None
behind-none out None h = refl
behind-none out (Some more) h = absurd (none-some (out ++ more) (sym h))

behind-cons : (out : List Val) (v : Val) (o : Option (List Val)) → behind (out ++ v ∷ []) o ≡ behind out (option_and_then (λ (vs : List Val). Some (v ∷ vs)) o)
behind-cons out v None = refl
behind-cons out v (Some vs) = ap Some (append_assoc out (v ∷ []) vs)

seen-more : (i : ℕ) (rs : List Record) → i < length rs → map seen (drop i rs) ≡ seen (get_or rs i no_record) ∷ map seen (drop (i + 1) rs)
seen-more i rs h = ap (map seen) (drop_more rs i no_record h)

-- one value more
pub values-step : (get : ℕ → Option (List ℕ)) (sub : ℕ → Option (List (List ℕ))) (i : ℕ) (rs : List Record) (out : List Val) (v : Val) → i < length rs
    → value_of get sub (seen (get_or rs i no_record)) ≡ Some v
    → behind (out ++ v ∷ []) (values_of get sub (map seen (drop (i + 1) rs))) ≡ behind out (values_of get sub (map seen (drop i rs)))
values-step get sub i rs out v h is =
    behind-cons out v (values_of get sub (map seen (drop (i + 1) rs)))
    ∙ sym (ap (λ (ws : List (ℕ × List ℕ)). behind out (values_of get sub ws)) (seen-more i rs h)
    ∙ ap (λ (o : Option Val). behind out (option_and_then (λ (w : Val). option_and_then (λ (vs : List Val). Some (w ∷ vs)) (values_of get sub (map seen (drop (i + 1) rs)))) o)) is)

-- a record without a value
pub values-none : (get : ℕ → Option (List ℕ)) (sub : ℕ → Option (List (List ℕ))) (i : ℕ) (rs : List Record) (out : List Val) → i < length rs
    → value_of get sub (seen (get_or rs i no_record)) ≡ None → behind out (values_of get sub (map seen (drop i rs))) ≡ None
values-none get sub i rs out h is =
    ap (λ (ws : List (ℕ × List ℕ)). behind out (values_of get sub ws)) (seen-more i rs h)
    ∙ ap (λ (o : Option Val). behind out (option_and_then (λ (w : Val). option_and_then (λ (vs : List Val). Some (w ∷ vs)) (values_of get sub (map seen (drop (i + 1) rs)))) o)) is

-- a value's id and kind, and that its length is one of its kind
pub record IsFitting (id kind : ℕ) (bytes : List ℕ) (v : Val) : Type 0 where
  pub is : v ≡ record { id = id; kind = kind; bytes = bytes }
  pub fit : fits kind (length bytes) ≡ true

pub fitting-some : (id kind : ℕ) (bytes : List ℕ) (v : Val) → fitting id kind bytes ≡ Some v → IsFitting id kind bytes v
unfolding fitting
fitting-some id kind bytes v h = elim (cases_Bool (fits kind (length bytes))) [
  | inl t ↦ let e : Some (record { id = id; kind = kind; bytes = bytes }) ≡ Some v = rw t at h in record { is = sym (some-injective _ _ e); fit = t }
  | inr f ↦ absurd (none-some v (rw f at h))
]

pub value-parts : (get : ℕ → Option (List ℕ)) (sub : ℕ → Option (List (List ℕ))) (r : ℕ × List ℕ) (v : Val) → value_of get sub r ≡ Some v → (v.id ≡ r.0) × (value_fits v ≡ true)
unfolding value_of
value-parts get sub r v h =
    let p = bind-some (fitting r.0 (number_at 2 0 r.1)) (of_field get sub (in_field (number_at 2 0 r.1)) (drop 2 r.1)) v h in
    let q = fitting-some r.0 (number_at 2 0 r.1) p.0 v p.2 in
    (ap (λ (w : Val). w.id) q.is, ap value_fits q.is ∙ q.fit)

pub values-parts : (get : ℕ → Option (List ℕ)) (sub : ℕ → Option (List (List ℕ))) (r : ℕ × List ℕ) (rs : List (ℕ × List ℕ)) (vs : List Val) → values_of get sub (r ∷ rs) ≡ Some vs
    → (v : Val) × (ws : List Val) × (value_of get sub r ≡ Some v) × (values_of get sub rs ≡ Some ws) × (vs ≡ v ∷ ws)
values-parts get sub r rs vs h =
    let p = bind-some (λ (v : Val). option_and_then (λ (ws : List Val). Some (v ∷ ws)) (values_of get sub rs)) (value_of get sub r) vs h in
    let q = bind-some (λ (ws : List Val). Some (p.0 ∷ ws)) (values_of get sub rs) vs p.2 in
    (p.0, q.0, p.1, q.1, sym (some-injective (p.0 ∷ q.0) vs q.2))

ids-ascend : (get : ℕ → Option (List ℕ)) (sub : ℕ → Option (List (List ℕ))) (low high : ℕ) (rs : List (ℕ × List ℕ)) (vs : List Val) → within low high rs ≡ true → values_of get sub rs ≡ Some vs → ascend_from low vs ≡ true
ids-ascend get sub low high [] vs w h = ap (ascend_from low) (sym (some-injective [] vs h))
ids-ascend get sub low high (r ∷ rs) vs w h =
    let p = values-parts get sub r rs vs h in
    let a = and_parts (nat_le low r.0) (nat_lt r.0 high && within (suc r.0) high rs) w in
    let b = and_parts (nat_lt r.0 high) (within (suc r.0) high rs) a.1 in
    let id = (value-parts get sub r p.0 p.2).0 in
    ap (ascend_from low) p.4 ∙ and_from (nat_le low (p.0).id) (ascend_from (suc (p.0).id) p.1) (rw id a.0)
    (ap (λ (n : ℕ). ascend_from (suc n) p.1) id ∙ ids-ascend get sub (suc r.0) high rs p.1 b.1 p.3)

lengths-fit : (get : ℕ → Option (List ℕ)) (sub : ℕ → Option (List (List ℕ))) (rs : List (ℕ × List ℕ)) (vs : List Val) → values_of get sub rs ≡ Some vs → all_fit vs ≡ true
lengths-fit get sub [] vs h = ap all_fit (sym (some-injective [] vs h))
lengths-fit get sub (r ∷ rs) vs h =
    let p = values-parts get sub r rs vs h in
    ap all_fit p.4 ∙ and_from (value_fits p.0) (all_fit p.1) (value-parts get sub r p.0 p.2).1 (lengths-fit get sub rs p.1 p.3)

-- the values of records that ascend are properties
pub are-props : (get : ℕ → Option (List ℕ)) (sub : ℕ → Option (List (List ℕ))) (rs : List (ℕ × List ℕ)) (vs : List Val) → within 0 (2 ^ 32) rs ≡ true → values_of get sub rs ≡ Some vs → IsProps vs
are-props get sub rs vs w h = record { ascend = ids-ascend get sub 0 (2 ^ 32) rs vs w h; fit = lengths-fit get sub rs vs h }
