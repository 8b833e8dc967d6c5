-- A row that is filled column by column, from the last to the first.
use Rattle.std.specs.Prelude.{ℕ, ◌≡◌, ◌≤◌, ◌<◌, ◌+◌, ◌*◌, ◌++◌, Bool, true, false, List, [], length, get_or, drop, Some}
use Rattle.std.specs.List.{list_all}
use Rattle.mapi_values.specs.declared.column.Column.{Column}
use Rattle.mapi_values.specs.Columns.{all_apart, is_column, lies, tag_number}
use Rattle.mapi_values.specs.Keyed.{keys_ascend}
use Rattle.mapi_values.specs.Properties.{all_fit, ascend_from}
use Rattle.mapi_values.specs.Tables.{value_suits}
use Rattle.mapi_values.specs.Values.{Val}
use Rattle.write_limits.specs.Limits.{cells_bytes, long_values}
use Rattle.table_writer.specs.declared.value.Made.{Made}
use Rattle.table_writer.specs.Bits.{bits}
use Rattle.write_limits.specs.Space.{values_blocks, values_bytes}
use Rattle.table_writer.specs.Making.{Grows, IsMade, get_of, load, sub_blocks, sub_of, weight}
use Rattle.table_context.specs.Rows.{cells_of, row_names, shows_id}
use Rattle.table_writer.specs.Woven.{all_woven}

-- what a read past the end would give
abbrev pub no_column : Column
no_column = record { tag = record { id = 0; kind = 0 }; at = 0; width = 0; bit = 0 }

abbrev pub no_value : Val
no_value = record { id = 0; kind = 0; bytes = [] }

-- the columns lie in a row, the ids of the values ascend, and each has a column
pub record Suited (third n : ℕ) (columns : List Column) (cells : List Val) : Type 0 where
  pub lie : list_all (lies third (third + n)) columns ≡ true
  pub apart : all_apart columns ≡ true
  pub tags : keys_ascend tag_number 0 columns ≡ true
  pub ids : ascend_from 0 cells ≡ true
  pub suit : list_all (value_suits columns) cells ≡ true
  pub fit : all_fit cells ≡ true

-- the columns from i on are filled with the values from j on, and those before have nothing yet
pub record Filled (made : Made) (third n : ℕ) (columns : List Column) (id : ℕ) (cells : List Val) (i j : ℕ) (front : List ℕ) (marks : List Bool) : Type 0 where
  pub front_size : length front ≡ third
  pub marks_size : length marks ≡ 8 * n
  pub within : j ≤ length cells
  pub covered : (k : ℕ) → k < j → (m : ℕ) × (m < i) × (is_column (get_or cells k no_value).id (get_or cells k no_value).kind (get_or columns m no_column) ≡ true)
  pub clear : (k : ℕ) → k < i → get_or marks (get_or columns k no_column).bit false ≡ false
  pub read : cells_of (get_of made) (sub_of made) third (front ++ bits n 0 marks) (drop i columns) ≡ Some (drop j cells)
  pub shown : shows_id (drop i columns) id (front ++ bits n 0 marks) ≡ true

-- one more column is filled, with what that adds
pub record Steps (old new : Made) (third n : ℕ) (columns : List Column) (id : ℕ) (cells : List Val) (i j next : ℕ) (front there : List ℕ) (marks now_marks : List Bool) : Type 0 where
  pub filled : Filled new third n columns id cells i next there now_marks
  pub added : List ℕ
  pub grows : Grows old new added
  pub names : row_names third (drop i columns) (there ++ bits n 0 now_marks) ≡ added ++ row_names third (drop (i + 1) columns) (front ++ bits n 0 marks)
  pub weighs : weight new.maker + cells_bytes (drop j cells) ≤ weight old.maker + cells_bytes (drop next cells)
  pub count : length (all_woven new.subs) + long_values (drop j cells) ≤ length (all_woven old.subs) + long_values (drop next cells)
  pub loads : load new + 2 * values_bytes (drop j cells) ≤ load old + 2 * values_bytes (drop next cells)
  pub blocks : sub_blocks new + values_blocks (drop j cells) ≤ sub_blocks old + values_blocks (drop next cells)

-- the columns from i on are filled with the values from j on, with all that this added
pub record Filling (old new : Made) (third n : ℕ) (columns : List Column) (id : ℕ) (cells : List Val) (i j : ℕ) (front : List ℕ) (marks : List Bool) : Type 0 where
  pub inside : i ≤ length columns
  pub filled : Filled new third n columns id cells i j front marks
  pub made : IsMade new
  pub grows : Grows old new (row_names third (drop i columns) (front ++ bits n 0 marks))
  pub weighs : weight new.maker ≤ weight old.maker + cells_bytes (drop j cells)
  pub count : length (all_woven new.subs) ≤ length (all_woven old.subs) + long_values (drop j cells)
  pub loads : load new ≤ load old + 2 * values_bytes (drop j cells)
  pub blocks : sub_blocks new ≤ sub_blocks old + values_blocks (drop j cells)

-- the row has this id and these cells, with all that they added
pub record Fills (old new : Made) (third : ℕ) (columns : List Column) (id : ℕ) (cells : List Val) (row : List ℕ) : Type 0 where
  pub grows : Grows old new (row_names third columns row)
  pub read : cells_of (get_of new) (sub_of new) third row columns ≡ Some cells
  pub shown : shows_id columns id row ≡ true
  pub weighs : weight new.maker ≤ weight old.maker + cells_bytes cells
  pub count : length (all_woven new.subs) ≤ length (all_woven old.subs) + long_values cells
  pub loads : load new ≤ load old + 2 * values_bytes cells
  pub blocks : sub_blocks new ≤ sub_blocks old + values_blocks cells
