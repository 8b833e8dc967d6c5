-- The rows of a table that a node shows ascend by id.
use Rattle.std.proofs.Common.{◌≡◌, ◌^◌, ℕ, true, List, Option, Some, subst}
use Rattle.std.specs.Option.{option_and_then}
use Rattle.pst_base.specs.Fields.{number_at}
use Rattle.pst_base.specs.Flat.{Flat}
use Rattle.mapi_values.specs.declared.column.Column.{Column}
use Rattle.mapi_values.specs.Keyed.{keys_ascend}
use Rattle.mapi_values.specs.Tables.{Tab}
use Rattle.mapi_values.specs.Values.{Val}
use Rattle.heap_on_node.specs.Heap.{item}
use Rattle.bth_tree.specs.Records.{within}
use Rattle.bth_tree.proofs.OptionLaws.{bind-some, some-injective}
use Rattle.bth_tree.proofs.WholeLaws.{bth-within}
use Rattle.node_values.specs.Subnodes.{data_of}
use Rattle.table_context.specs.Context.{IsTableContext, table_in, table_of}
use Rattle.table_context.specs.Header.{columns_of, ends_in, index_in, matrix_in, size_in}
use Rattle.table_context.specs.Rows.{others, raw_rows, row_in, rows_of, used}
use Rattle.table_context.proofs.ContextLaws.{raws-ascend, rows-ascend}

abbrev table_with : List ℕ → List Flat → List Column → List (ℕ × List ℕ) → List (ℕ × List Val) → Tab
table_with x subs columns raws rows = record { columns = columns; ends = ends_in x; rows = rows; kept = others (used (number_at 2 6 x) columns raws (matrix_in x)) subs }

made_rows : (get : ℕ → Option (List ℕ)) (subs : List Flat) (x : List ℕ) (columns : List Column) (recs : List (ℕ × List ℕ)) (t : Tab) → within 0 (2 ^ 32) recs ≡ true → table_of get subs x columns recs ≡ Some t
    → keys_ascend (λ r. r.0) 0 t.rows ≡ true
unfolding table_of
made_rows get subs x columns recs t rise e =
    let sub = data_of subs in
    let from = number_at 2 6 x in
    let raws = bind-some (λ (raws : List (ℕ × List ℕ)). option_and_then (λ (rows : List (ℕ × List Val)). Some (table_with x subs columns raws rows)) (rows_of get sub from columns raws)) (raw_rows (row_in get sub (size_in x) (matrix_in x)) recs) t e in
    let rows = bind-some (λ (rows : List (ℕ × List Val)). Some (table_with x subs columns raws.0 rows)) (rows_of get sub from columns raws.0) t raws.2 in
    subst (λ (u : Tab). keys_ascend (λ r. r.0) 0 u.rows ≡ true) (some-injective (table_with x subs columns raws.0 rows.0) t rows.2)
    (rows-ascend get sub from columns 0 raws.0 rows.0 rows.1 (raws-ascend (row_in get sub (size_in x) (matrix_in x)) 0 (2 ^ 32) recs raws.0 raws.1 rise))

pub rows_rise : (blocks : List (List ℕ)) (subs : List Flat) (t : Tab) → IsTableContext blocks subs t → keys_ascend (λ r. r.0) 0 t.rows ≡ true
unfolding table_in
rows_rise blocks subs t a =
    let columns = bind-some (λ (columns : List Column). table_of (item blocks) subs a.head columns a.recs) (columns_of a.head) t a.table in
    made_rows (item blocks) subs a.head columns.0 a.recs t (bth-within (item blocks) (index_in a.head) 4 4 a.recs a.index) columns.2
