-- Tables: rows by their ids, and the row that shows an object.
use Rattle.std.specs.Prelude.{ℕ, ◌==◌, ◌&&◌, Bool, IsTrue, not, List, [], ◌∷◌, length, nat_le, Option, if◌then◌else◌}
use Rattle.std.specs.List.{filter, list_all}
use Rattle.pst_base.specs.Flat.{Flat}
use Rattle.mapi_values.specs.declared.column.Column.{Column}
use Rattle.mapi_values.specs.Columns.{has_column, is_layout, suits_cell}
use Rattle.mapi_values.specs.Keyed.{keys_ascend, put_key, drop_key, find_key}
use Rattle.mapi_values.specs.Properties.{ascend_from, all_fit, put}
use Rattle.mapi_values.specs.Tags.{pid_tag_ltp_row_id, pid_tag_ltp_row_ver}
use Rattle.mapi_values.specs.Values.{Val}

-- a table's columns, the four end offsets of a row, its rows, an id and cells each, and the subnodes that none of its parts uses
pub record Tab : Type 0 where
  pub columns : List Column
  pub ends : List ℕ
  pub rows : List (ℕ × List Val)
  pub kept : List Flat

-- the value may stand in a cell: a column has its id and kind, it isn't the row id, and it has the cell's length where the cell is fixed
unfoldable pub value_suits : List Column → Val → Bool
value_suits columns v = has_column columns v.id v.kind && (not (v.id == pid_tag_ltp_row_id.id) && suits_cell v.kind (length v.bytes))

-- the values are properties that may all stand in cells
unfoldable pub cells_suit : List Column → List Val → Bool
cells_suit columns cells = ascend_from 0 cells && (all_fit cells && list_all (value_suits columns) cells)

-- the row's cells may stand in a row
abbrev pub row_suits : List Column → ℕ × List Val → Bool
row_suits columns row = cells_suit columns row.1

-- the columns have a layout in a row, and the rows ascend strictly by id and have cells that suit the columns
pub record IsTable (t : Tab) : Type 0 where
  pub layout : IsTrue (is_layout t.columns t.ends)
  pub ascend : IsTrue (keys_ascend (λ r. r.0) 0 t.rows)
  pub suit : IsTrue (list_all (row_suits t.columns) t.rows)

-- the cells of the row with this id
abbrev pub find_row : ℕ → List (ℕ × List Val) → Option (ℕ × List Val)
find_row id rows = find_key (λ r. r.0) id rows

-- the rows with one of this id and these cells, in place of the one with its id
abbrev pub put_row : ℕ → List Val → List (ℕ × List Val) → List (ℕ × List Val)
put_row id cells rows = put_key (λ r. r.0) (id, cells) rows

-- the rows without the one with this id
abbrev pub drop_row : ℕ → List (ℕ × List Val) → List (ℕ × List Val)
drop_row id rows = drop_key (λ r. r.0) id rows

-- the value stands in the row that shows its object: it may stand in a cell, isn't the row version, and has at most 3580 bytes
unfoldable pub is_mirrored : List Column → Val → Bool
is_mirrored columns v = value_suits columns v && (not (v.id == pid_tag_ltp_row_ver.id) && nat_le (length v.bytes) 3580)

-- the row version of a row that is written
abbrev pub version : Val
version = record { id = pid_tag_ltp_row_ver.id; kind = pid_tag_ltp_row_ver.kind; bytes = 0 ∷ 0 ∷ 0 ∷ 0 ∷ [] }

-- the cells of the row that shows an object: its values that stand in cells, and 0 as the row version where that is a column
unfoldable pub mirror : List Column → List Val → List Val
mirror columns props =
    if has_column columns pid_tag_ltp_row_ver.id pid_tag_ltp_row_ver.kind then put version (filter (is_mirrored columns) props) else filter (is_mirrored columns) props
