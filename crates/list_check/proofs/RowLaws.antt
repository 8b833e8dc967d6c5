-- The ids of rows.
use Rattle.std.proofs.Common.{◌≡◌, ◌∙◌, ℕ, suc, ◌==◌, ◌&&◌, Bool, true, false, List, [], ◌∷◌, map, Option, None, Some, is_some, option_copied, Bor, ap, refl, if◌then◌else◌, ◌||◌}
use Rattle.std.specs.Prelude.{nat_le}
use Rattle.mapi_values.specs.Keyed.{find_key, keys_ascend}
use Rattle.mapi_values.specs.Tables.{IsTable, Tab}
use Rattle.mapi_values.specs.Values.{Val}
use Rattle.search_obj.specs.Scope.{is_among}
use Rattle.mail_searches.specs.Searches.{row_ids}
use Rattle.list_check.specs.declared.rows.RowId.{RowId}
use Rattle.list_check.specs.Rows.{row_id}

-- an id is found just where it is among the ids
pub found_among : (ids : List RowId) (k : ℕ) → is_some (find_key (λ i. i.bits) k ids) ≡ is_among (map (λ i. i.bits) ids) k
found_among [] k = refl
found_among (i ∷ ids) k = first (i.bits == k) (find_key (λ i. i.bits) k ids) (is_among (map (λ i. i.bits) ids) k) (found_among ids k)
  where
    first : (b : Bool) (o : Option RowId) (there : Bool) → is_some o ≡ there → is_some (if b then Some i else o) ≡ (b || there)
    first true o there e = refl
    first false o there e = e

-- the ids in memory are those of the rows
pub ids_are : (rows : List (ℕ × List Val)) → map (λ (i : RowId). i.bits) (map row_id rows) ≡ row_ids rows
ids_are [] = refl
ids_are (r ∷ rows) = ap (λ ids. r.0 ∷ ids) (ids_are rows)

-- they ascend where the rows do
pub ids_ascend : (low : ℕ) (rows : List (ℕ × List Val)) → keys_ascend (λ (i : RowId). i.bits) low (map row_id rows) ≡ keys_ascend (λ r. r.0) low rows
ids_ascend low [] = refl
ids_ascend low (r ∷ rows) = ap (λ b. nat_le low r.0 && b) (ids_ascend (suc r.0) rows)

-- the same of what a search for the id found
pub there_among : (o : Option (Bor RowId)) (ids items : List RowId) (k : ℕ) → option_copied o ≡ find_key (λ i. i.bits) k ids → ids ≡ items → is_some o ≡ is_among (map (λ (i : RowId). i.bits) items) k
there_among o ids items k found same = copied o ∙ ap is_some found ∙ ap (λ (is : List RowId). is_some (find_key (λ i. i.bits) k is)) same ∙ found_among items k
  where
    copied : (o : Option (Bor RowId)) → is_some o ≡ is_some (option_copied o)
    copied None = refl
    copied (Some x) = refl

-- the ids that were taken are those of the table's rows, and ascend
pub of_rows : (ids : List RowId) (rows table : List (ℕ × List Val)) → ids ≡ map row_id rows → rows ≡ table → map (λ (i : RowId). i.bits) ids ≡ row_ids table
of_rows ids rows table are same = ap (map (λ (i : RowId). i.bits)) are ∙ ids_are rows ∙ ap row_ids same

pub rows_ascend : (ids : List RowId) (rows : List (ℕ × List Val)) (t : Tab) → ids ≡ map row_id rows → rows ≡ t.rows → IsTable t → keys_ascend (λ (i : RowId). i.bits) 0 ids ≡ true
rows_ascend ids rows t are same is = ap (keys_ascend (λ (i : RowId). i.bits) 0) are ∙ ids_ascend 0 rows ∙ ap (keys_ascend (λ r. r.0) 0) same ∙ is.ascend
