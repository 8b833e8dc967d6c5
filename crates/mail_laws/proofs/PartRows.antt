-- Rows that mirror a message's attachments, and what steps leave of that.
use Rattle.std.proofs.Common.{◌≡◌, ℕ, ◌==◌, Bool, true, false, if◌then◌else◌, nat_lt, List, [], ◌∷◌, map, Option, None, Some, refl, sym, ap, ◌∙◌, inl, inr}
use Rattle.std.proofs.lemmas.Bool.{cases_Bool}
use Rattle.std.proofs.lemmas.Option.{none-some}
use Rattle.mapi_values.specs.Keyed.{drop_key, find_key, put_key}
use Rattle.mapi_values.specs.Messages.{Mes, part_id}
use Rattle.mapi_values.specs.Tables.{Tab}
use Rattle.mapi_values.specs.declared.column.Column.{Column}
use Rattle.mapi_values.specs.declared.part.Part.{Part}
use Rattle.mail_tree.specs.Parts.{attachments_for, part_in, part_row, with_attachment, with_part, without_attachment}
use Rattle.mail_laws.specs.AttachmentLaws.{MirrorParts, MirrorsAttachments}

put_rows : (columns : List Column) (part : Part) (parts : List Part) → put_key (λ r. r.0) (part_row columns part) (map (part_row columns) parts) ≡ map (part_row columns) (put_key part_id part parts)
put_rows columns part [] = refl
put_rows columns part (p ∷ ps) = elim (cases_Bool (nat_lt (part_id p) (part_id part))) [
  | inl t ↦ rw t (ap (λ l. part_row columns p ∷ l) (put_rows columns part ps))
  | inr t ↦ rw t (elim (cases_Bool (part_id p == part_id part)) [ inl u ↦ rw u refl | inr u ↦ rw u refl ])
]

drop_rows : (columns : List Column) (n : ℕ) (parts : List Part) → drop_key (λ r. r.0) n (map (part_row columns) parts) ≡ map (part_row columns) (drop_key part_id n parts)
drop_rows columns n [] = refl
drop_rows columns n (p ∷ ps) = elim (cases_Bool (part_id p == n)) [
  | inl t ↦ rw t refl
  | inr t ↦ rw t (ap (λ l. part_row columns p ∷ l) (drop_rows columns n ps))
]

-- a table that is completed mirrors them still
for_attachments : (parts : List Part) (o : Option Tab) → MirrorParts o parts → let t = attachments_for parts o in t.rows ≡ map (part_row t.columns) parts
for_attachments parts None e = ap (map (part_row (attachments_for parts None).columns)) (sym e)
for_attachments parts (Some t) e = either _ t _ e refl
  where
    either : (b : Bool) (x y : Tab) → x.rows ≡ map (part_row x.columns) parts → y.rows ≡ map (part_row y.columns) parts → let z = if b then x else y in z.rows ≡ map (part_row z.columns) parts
    either true x y e e' = e
    either false x y e e' = e'

pub with_one : (part : Part) (M : Mes) → MirrorsAttachments M → MirrorsAttachments (with_attachment part M)
with_one part M e =
    let t = attachments_for M.parts M.attachments in
    ap (put_key (λ r. r.0) (part_row t.columns part)) (for_attachments M.parts M.attachments e) ∙ put_rows t.columns part M.parts

pub with_other : (part : Part) (n : ℕ) (old : Part) (M : Mes) → part_in n M ≡ Some old → MirrorsAttachments M → MirrorsAttachments (with_part part M)
with_other part n old M there e = go M.attachments M.parts there e
  where
    go : (o : Option Tab) (parts : List Part) → find_key part_id n parts ≡ Some old → MirrorParts o parts → MirrorsAttachments (with_part part (record M { attachments = o; parts = parts }))
    go None parts there e = absurd (none-some old (ap (find_key part_id n) (sym e) ∙ there))
    go (Some t) parts there e = ap (put_key (λ r. r.0) (part_row t.columns part)) e ∙ put_rows t.columns part parts

pub without_one : (n : ℕ) (M : Mes) → MirrorsAttachments M → MirrorsAttachments (without_attachment n M)
without_one n M e = go M.attachments M.parts e
  where
    go : (o : Option Tab) (parts : List Part) → MirrorParts o parts → MirrorsAttachments (without_attachment n (record M { attachments = o; parts = parts }))
    go None parts e = ap (drop_key part_id n) e
    go (Some t) parts e = ap (drop_key (λ r. r.0) n) e ∙ drop_rows t.columns n parts
