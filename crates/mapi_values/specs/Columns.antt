-- The columns of a table, and how their cells lie in a row.
use Rattle.std.specs.Prelude.{ℕ, ◌+◌, ◌*◌, ◌/◌, ◌==◌, ◌&&◌, Bool, true, not, List, [], ◌∷◌, get_or, nat_le, nat_lt, Option, None, Some, if◌then◌else◌, ◌||◌}
use Rattle.std.specs.Option.{unwrap_or}
use Rattle.std.specs.List.{list_all, list_any}
use Rattle.mapi_values.specs.declared.column.Column.{Column}
use Rattle.mapi_values.specs.Keyed.{keys_ascend}
use Rattle.mapi_values.specs.Kinds.{ptyp_currency, ptyp_floating_64, ptyp_floating_time, ptyp_integer_64, ptyp_time}
use Rattle.mapi_values.specs.Tags.{pid_tag_ltp_row_id, pid_tag_ltp_row_ver}
use Rattle.mapi_values.specs.Values.{in_field}

-- the width of the values of a kind that stand in a cell themselves
unfoldable pub in_cell : ℕ → Option ℕ
in_cell kind = if (kind == ptyp_floating_64) || ((kind == ptyp_currency) || ((kind == ptyp_floating_time) || ((kind == ptyp_integer_64) || (kind == ptyp_time)))) then Some 8 else in_field kind

-- the width of the cell of a kind: a value that doesn't stand there itself has a reference of 4 bytes
unfoldable pub cell_width : ℕ → ℕ
cell_width kind = unwrap_or (in_cell kind) 4

-- a value of so many bytes has the width, where there is one
abbrev pub has_width : Option ℕ → ℕ → Bool
has_width (Some width) len = width == len
has_width None len = true

-- a value of this kind and of so many bytes has the length of its cell, where it stands there itself
unfoldable pub suits_cell : ℕ → ℕ → Bool
suits_cell kind len = has_width (in_cell kind) len

-- the column is that of this id and kind
abbrev pub is_column : ℕ → ℕ → Column → Bool
is_column id kind c = (c.tag.id == id) && (c.tag.kind == kind)

-- some column is that of this id and kind
abbrev pub has_column : List Column → ℕ → ℕ → Bool
has_column columns id kind = list_any (is_column id kind) columns

-- the number of a column's tag, by which columns ascend
abbrev pub tag_number : Column → ℕ
tag_number c = c.tag.id * 65536 + c.tag.kind

-- the row id stands at the front of a row under bit 0, and the row version after it under bit 1
unfoldable pub is_placed : Column → Bool
is_placed c = if is_column pid_tag_ltp_row_id.id pid_tag_ltp_row_id.kind c then (c.at == 0) && (c.bit == 0)
    else if is_column pid_tag_ltp_row_ver.id pid_tag_ltp_row_ver.kind c then (c.at == 4) && (c.bit == 1)
    else true

-- the cell has the width of its kind and ends at or before the third end offset, and its existence bit lies from there to the fourth
unfoldable pub lies : ℕ → ℕ → Column → Bool
lies third fourth c = (c.width == cell_width c.tag.kind) && (nat_le (c.at + c.width) third && (nat_lt (third + c.bit / 8) fourth && is_placed c))

-- the cells of two columns don't meet, and their existence bits differ
unfoldable pub is_apart : Column → Column → Bool
is_apart c d = not (c.bit == d.bit) && (nat_le (c.at + c.width) d.at || nat_le (d.at + d.width) c.at)

-- each two columns are apart
abbrev pub all_apart : List Column → Bool
all_apart [] = true
all_apart (c ∷ cs) = list_all (is_apart c) cs && all_apart cs

-- the four end offsets of a row don't fall
unfoldable pub ends_rise : List ℕ → Bool
ends_rise ends = nat_le (get_or ends 0 0) (get_or ends 1 0) && (nat_le (get_or ends 1 0) (get_or ends 2 0) && nat_le (get_or ends 2 0) (get_or ends 3 0))

-- the columns ascend strictly by tag, and with these end offsets each cell and each existence bit has its own place in a row
unfoldable pub is_layout : List Column → List ℕ → Bool
is_layout columns ends = ends_rise ends && (keys_ascend tag_number 0 columns
    && (list_all (lies (get_or ends 2 0) (get_or ends 3 0)) columns && all_apart columns))
