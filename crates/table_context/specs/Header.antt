-- The root item of a table ([MS-PST] 2.3.4.1): its columns, and where its rows stand.
use Rattle.std.specs.Prelude.{ℕ, zero, suc, ◌+◌, ◌*◌, ◌==◌, ◌&&◌, Bool, List, [], ◌∷◌, length, nat_le, Option, Some, None, if◌then◌else◌}
use Rattle.pst_base.specs.Fields.{number_at}
use Rattle.mapi_values.specs.declared.column.Column.{Column}
use Rattle.mapi_values.specs.Columns.{is_layout}

-- the item begins as a table does, and is long enough to name a row index
unfoldable pub names_index : List ℕ → Bool
names_index x = nat_le 22 (length x) && (number_at 1 0 x == 0x7C)

-- the heap id of the row index
abbrev pub index_in : List ℕ → ℕ
index_in x = number_at 4 10 x

-- what names the row matrix
abbrev pub matrix_in : List ℕ → ℕ
matrix_in x = number_at 4 14 x

-- the four end offsets of a row
abbrev pub ends_in : List ℕ → List ℕ
ends_in x = number_at 2 2 x ∷ number_at 2 4 x ∷ number_at 2 6 x ∷ number_at 2 8 x ∷ []

-- the column that 8 bytes from a place on describe
abbrev pub column_at : ℕ → List ℕ → Column
column_at at x = record {
  tag = record { id = number_at 2 (at + 2) x; kind = number_at 2 at x };
  at = number_at 2 (at + 4) x;
  width = number_at 1 (at + 6) x;
  bit = number_at 1 (at + 7) x;
}

-- n columns, one behind the other
abbrev pub columns_at : ℕ → ℕ → List ℕ → List Column
columns_at zero at x = []
columns_at (suc n) at x = column_at at x ∷ columns_at n (at + 8) x

-- the columns, as many as the item says
abbrev pub columns_in : List ℕ → List Column
columns_in x = columns_at (number_at 1 1 x) 22 x

-- the size of a row
abbrev pub size_in : List ℕ → ℕ
size_in x = number_at 2 8 x

-- the item ends with the last column, the columns have a layout, and a row fits a block
unfoldable pub has_form : List ℕ → Bool
has_form x = (length x == 22 + 8 * number_at 1 1 x) && (nat_le 1 (size_in x) && (nat_le (size_in x) 8176 && is_layout (columns_in x) (ends_in x)))

-- the columns of an item that is a table's header
unfoldable pub columns_of : List ℕ → Option (List Column)
columns_of x = if has_form x then Some (columns_in x) else None
