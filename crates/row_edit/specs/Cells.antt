-- What stands in the cells of a row.
use Rattle.std.specs.Prelude.{ℕ, ◌≡◌, ◌≢◌, ◌<◌, ◌≤◌, ◌+◌, ◌*◌, ◌%◌, ◌++◌, ◌==◌, ◌&&◌, Bool, true, false, not, List, [], ◌∷◌, length, take, drop, get_or, nat_le, Option, None, Some, is_some, if◌then◌else◌}
use Rattle.pst_base.specs.Fields.{number_at, replaced}
use Rattle.mapi_values.specs.declared.column.Column.{Column}
use Rattle.mapi_values.specs.Columns.{cell_width, in_cell, is_apart, is_column, lies}
use Rattle.mapi_values.specs.Tags.{pid_tag_ltp_row_id}
use Rattle.mapi_values.specs.Values.{Val}
use Rattle.table_context.specs.Rows.{has_cell}
use Rattle.table_writer.specs.Bits.{bits}
use Rattle.table_writer.specs.Filling.{no_column}

-- the value of a column among these, if there is one
abbrev pub pick : List Val → Column → Option Val
pick [] c = None
pick (v ∷ vs) c = if is_column v.id v.kind c then Some v else pick vs c

-- a value, if it has this kind
abbrev pub of_kind : ℕ → Option Val → Option Val
of_kind kind None = None
of_kind kind (Some v) = if v.kind == kind then Some v else None

-- the value may stand in a heap
abbrev pub is_short : Val → Bool
is_short v = nat_le (length v.bytes) 3580

-- the id that a column's cell in a row holds, or 0 where it holds none
unfoldable pub held : ℕ → List ℕ → Column → ℕ
held third row c = if has_cell third row c && not (is_some (in_cell c.tag.kind)) then number_at 4 c.at row else 0

-- a column's cell in a row names a subnode
abbrev pub in_subnode : ℕ → List ℕ → Column → Bool
in_subnode third row c = not (held third row c % 32 == 0)

-- bytes stand at a place of a row where the kind has a width, or else the id that names them does
abbrev pub Stands : List ℕ → ℕ → Option ℕ → ℕ → List ℕ → Type 0
Stands row at (Some width) hnid bytes = take width (drop at row) ≡ bytes
Stands row at None hnid bytes = number_at 4 at row ≡ hnid

-- a value or the id that names it is put at a place of a row, and the rest stays
pub record PutsValue (at : ℕ) (v : Val) (hnid : ℕ) (row there : List ℕ) : Type 0 where
  pub bytes : List ℕ
  pub size : length bytes ≡ cell_width v.kind
  pub row_is : there ≡ replaced at bytes row
  pub stands : Stands there at (in_cell v.kind) hnid v.bytes

-- the column's cell in a row has what these values and this row id ask for; hnid names the value that doesn't stand in the row itself
pub record IsCell (third id hnid : ℕ) (values : List Val) (row : List ℕ) (c : Column) : Type 0 where
  pub small : c.tag.kind < 65536
  pub shown : is_column pid_tag_ltp_row_id.id pid_tag_ltp_row_id.kind c ≡ true → number_at 4 0 row ≡ id
  pub has : has_cell third row c ≡ is_some (pick values c)
  pub here : (v : Val) → pick values c ≡ Some v → Stands row c.at (in_cell c.tag.kind) hnid v.bytes

-- the cell of one more column is filled, and those of the columns apart from it are as they were
pub record FillsColumn (third n id hnid : ℕ) (values : List Val) (c : Column) (front there : List ℕ) (marks now_marks : List Bool) : Type 0 where
  pub here : IsCell third id hnid values (there ++ bits n 0 now_marks) c
  pub others : (d : Column) (k : ℕ) → is_apart d c ≡ true → lies third (third + n) d ≡ true
      → IsCell third id k values (front ++ bits n 0 marks) d → IsCell third id k values (there ++ bits n 0 now_marks) d
  pub clear : (bit : ℕ) → bit ≢ c.bit → get_or now_marks bit false ≡ get_or marks bit false
  pub front_size : length there ≡ length front
  pub marks_size : length now_marks ≡ length marks

-- the first i columns are filled, each with the id of its place, and the others have nothing yet
pub record Filled (third n id : ℕ) (values : List Val) (columns : List Column) (ids : List ℕ) (i : ℕ) (front : List ℕ) (marks : List Bool) : Type 0 where
  pub front_size : length front ≡ third
  pub marks_size : length marks ≡ 8 * n
  pub clear : (k : ℕ) → i ≤ k → k < length columns → get_or marks (get_or columns k no_column).bit false ≡ false
  pub cells : (k : ℕ) → k < i → IsCell third id (get_or ids k 0) values (front ++ bits n 0 marks) (get_or columns k no_column)
