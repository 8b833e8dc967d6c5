-- Tables that get columns, and how their rows are laid out then.
use Rattle.std.specs.Prelude.{◌≡◌, ◌⊎◌, ℕ, ◌+◌, ◌*◌, ◌/◌, ◌==◌, ◌&&◌, Bool, not, nat_le, nat_lt, List, [], ◌∷◌, map, if◌then◌else◌, ◌||◌}
use Rattle.std.specs.List.{list_all}
use Rattle.std.specs.Option.{is_some}
use Rattle.mapi_values.specs.declared.column.Column.{Column}
use Rattle.mapi_values.specs.declared.value.Tag.{Tag}
use Rattle.mapi_values.specs.Columns.{cell_width, has_column, is_column, tag_number}
use Rattle.mapi_values.specs.Keyed.{find_key, put_key}
use Rattle.mapi_values.specs.Tables.{Tab}

-- a column without a place
abbrev pub unplaced : Tag → Column
unplaced tag = record { tag = tag; at = 0; width = 0; bit = 0 }

-- there is a column of this tag
abbrev pub has_tag : List Column → Tag → Bool
has_tag columns tag = is_some (find_key tag_number (tag_number (unplaced tag)) columns)

-- the columns with one of this tag
abbrev pub with_column : List Column → Tag → List Column
with_column columns tag = if has_tag columns tag then columns else put_key tag_number (unplaced tag) columns

-- the columns and those of these tags, ascending by tag
abbrev pub with_columns : List Tag → List Column → List Column
with_columns [] columns = columns
with_columns (tag ∷ tags) columns = with_columns tags (with_column columns tag)

-- the column is one of these
abbrev pub IsOneOf : List Column → Column → Type 0
IsOneOf [] c = ⊥
IsOneOf (d ∷ ds) c = (c ≡ d) ⊎ IsOneOf ds c

-- the columns have one of each of these tags
abbrev pub has_columns : List Column → List Tag → Bool
has_columns columns tags = list_all (has_tag columns) tags

-- the row id and the row version have places of their own, before all others
abbrev pub is_row_id : Column → Bool
is_row_id c = is_column 0x67F2 0x0003 c

abbrev pub is_row_version : Column → Bool
is_row_version c = is_column 0x67F3 0x0003 c

unfoldable pub is_row_column : Column → Bool
is_row_column c = is_row_id c || is_row_version c

-- how wide a column's cell is
abbrev pub width_of : Column → ℕ
width_of c = cell_width c.tag.kind

-- cells of 8 and 4 bytes come first, then those of 2 bytes, then those of 1 byte
unfoldable pub group : Column → ℕ
group c = if nat_le 4 (width_of c) then 0 else (if width_of c == 2 then 1 else 2)

-- the cell of d stands before that of c, behind the row id and the row version: its group comes first, or its tag in the same group
unfoldable pub precedes : Column → Column → Bool
precedes c d = not (is_row_column d) && (nat_lt (group d) (group c) || ((group d == group c) && nat_lt (tag_number d) (tag_number c)))

-- the cell stands in one of the groups up to this one, behind the row id and the row version
unfoldable pub within_group : ℕ → Column → Bool
within_group last d = not (is_row_column d) && nat_le (group d) last

-- how many bytes the cells of the columns that pass a test take together
abbrev pub widths_where : (Column → Bool) → List Column → ℕ
widths_where test [] = 0
widths_where test (c ∷ cs) = (if test c then width_of c else 0) + widths_where test cs

-- how many columns pass a test
abbrev pub count_where : (Column → Bool) → List Column → ℕ
count_where test [] = 0
count_where test (c ∷ cs) = (if test c then 1 else 0) + count_where test cs

-- how many bits of existence bits the row id and the row version take, and how many cells of 4 bytes: to the end of the last one that is there
unfoldable pub first_bit : List Column → ℕ
first_bit columns = if has_column columns 0x67F3 0x0003 then 2 else (if has_column columns 0x67F2 0x0003 then 1 else 0)

-- the column with its place among these: the row id first, then the row version, and behind them each cell after those that precede it
unfoldable pub placed : List Column → Column → Column
placed columns c =
    if is_row_id c then record { tag = c.tag; at = 0; width = 4; bit = 0 }
    else (if is_row_version c then record { tag = c.tag; at = 4; width = 4; bit = 1 }
    else record { tag = c.tag; at = 4 * first_bit columns + widths_where (precedes c) columns; width = width_of c; bit = first_bit columns + count_where (precedes c) columns })

-- where the cells of the groups up to this one end
abbrev pub group_end : List Column → ℕ → ℕ
group_end columns last = 4 * first_bit columns + widths_where (within_group last) columns

-- how many existence bits there are
abbrev pub bits_of : List Column → ℕ
bits_of columns = first_bit columns + count_where (within_group 2) columns

-- the end offsets of a row: cells of 8 and 4 bytes, of 2 bytes, of 1 byte, and the existence bits
unfoldable pub placed_ends : List Column → List ℕ
placed_ends columns = group_end columns 0 ∷ group_end columns 1 ∷ group_end columns 2 ∷ (group_end columns 2 + (bits_of columns + 7) / 8) ∷ []

-- a table with these columns in place of its own, laid out anew
abbrev pub laid_out : List Column → Tab → Tab
laid_out columns t = record { columns = map (placed columns) columns; ends = placed_ends columns; rows = t.rows; kept = t.kept }

-- the table with the columns of these tags that it lacks: it is laid out anew, unless it has them all
abbrev pub completed : List Tag → Tab → Tab
completed tags t = if has_columns t.columns tags then t else laid_out (with_columns tags t.columns) t
