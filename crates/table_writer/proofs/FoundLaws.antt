-- What stands directly in a flat list of subnodes, and what stays of it.
use Rattle.std.proofs.Common.{◌≡◌, ◌∙◌, ◌==◌, ℕ, true, false, List, [], ◌∷◌, ◌++◌, Some, None, refl, ap, inl, inr}
use Rattle.std.proofs.lemmas.Bool.{cases_Bool}
use Rattle.std.specs.Option.{option_map}
use Rattle.pst_base.specs.Subs.{flattened}
use Rattle.pst_base.specs.declared.subs.Sub.{Sub}
use Rattle.mapi_values.specs.Keyed.{find_key}
use Rattle.node_values.specs.Subnodes.{data_of, sub_id}
use Rattle.node_values.proofs.SubLaws.{data-first, without-first}
use Rattle.table_context.specs.Rows.{is_among, others}

pub data-found : (subs : List Sub) (nid : ℕ) → data_of (flattened subs) nid ≡ option_map (λ (s : Sub). s.blocks) (find_key sub_id nid subs)
data-found [] nid = refl
data-found (s ∷ subs) nid = data-first nid s subs ∙ elim (cases_Bool (s.nid.bits == nid)) [
  | inl t ↦ rw t refl
  | inr f ↦ rw f (data-found subs nid)
]

pub data-some : (subs : List Sub) (nid : ℕ) (s : Sub) → find_key sub_id nid subs ≡ Some s → data_of (flattened subs) nid ≡ Some s.blocks
data-some subs nid s e = data-found subs nid ∙ ap (option_map (λ (s : Sub). s.blocks)) e

pub data-none : (subs : List Sub) (nid : ℕ) → find_key sub_id nid subs ≡ None → data_of (flattened subs) nid ≡ None
data-none subs nid e = data-found subs nid ∙ ap (option_map (λ (s : Sub). s.blocks)) e

pub others-kept : (ids : List ℕ) (s : Sub) (subs : List Sub) → is_among ids s.nid.bits ≡ false → others ids (flattened (s ∷ subs)) ≡ flattened (s ∷ []) ++ others ids (flattened subs)
others-kept ids s subs out = without-first (is_among ids) s subs ∙ rw out refl

pub others-dropped : (ids : List ℕ) (s : Sub) (subs : List Sub) → is_among ids s.nid.bits ≡ true → others ids (flattened (s ∷ subs)) ≡ others ids (flattened subs)
others-dropped ids s subs out = without-first (is_among ids) s subs ∙ rw out refl
