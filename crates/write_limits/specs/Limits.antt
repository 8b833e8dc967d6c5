-- Limits on what a command writes: on the tables, and on the subnodes directly in a node.
use Rattle.std.specs.Prelude.{ℕ, ◌+◌, ◌*◌, ◌==◌, ◌&&◌, Bool, true, List, [], ◌∷◌, length, get_or, nat_le, nat_lt, Option, None, Some, if◌then◌else◌, ◌||◌}
use Rattle.std.specs.Option.{is_some}
use Rattle.std.specs.List.{list_all}
use Rattle.pst_base.specs.Flat.{Flat}
use Rattle.mapi_values.specs.declared.part.Part.{Part}
use Rattle.mapi_values.specs.Columns.{in_cell}
use Rattle.mapi_values.specs.Messages.{Mes}
use Rattle.mapi_values.specs.Tables.{Tab}
use Rattle.mapi_values.specs.Values.{Val}

-- the value is too long for a heap, so it has a subnode of its own
abbrev pub is_long : Val → Bool
is_long v = nat_lt 3580 (length v.bytes)

-- one for a long value
unfoldable pub long_value : Val → ℕ
long_value v = if is_long v then 1 else 0

-- how many of the values are long
abbrev pub long_values : List Val → ℕ
long_values [] = 0
long_values (v ∷ vs) = long_value v + long_values vs

-- how many of the cells of these rows are long
abbrev pub long_cells : List (ℕ × List Val) → ℕ
long_cells [] = 0
long_cells (r ∷ rs) = long_values r.1 + long_cells rs

-- the bytes that a cell takes in the heap of its table, 4 of them for its place: none where it stands in the row itself, is empty, or is long
unfoldable pub heap_bytes : Val → ℕ
heap_bytes v = if is_some (in_cell v.kind) || ((length v.bytes == 0) || is_long v) then 0 else length v.bytes + 4

-- the bytes that these cells take in the heap
abbrev pub cells_bytes : List Val → ℕ
cells_bytes [] = 0
cells_bytes (v ∷ vs) = heap_bytes v + cells_bytes vs

-- the bytes that the cells of these rows take in the heap
abbrev pub rows_bytes : List (ℕ × List Val) → ℕ
rows_bytes [] = 0
rows_bytes (r ∷ rs) = cells_bytes r.1 + rows_bytes rs

-- how many of the subnodes of a flat list stand directly in it
abbrev pub direct : List Flat → ℕ
direct [] = 0
direct (f ∷ fs) = (if f.level == 0 then 1 else 0) + direct fs

-- a node may have so many subnodes directly in it
abbrev pub few_subnodes : ℕ → Bool
few_subnodes count = nat_le count 173400

-- a property context with these values and these other subnodes may be written
unfoldable pub props_fit : List Val → List Flat → Bool
props_fit props rest = few_subnodes (direct rest + long_values props)

-- one for the rows of a table, if they take more than a heap's item
unfoldable pub matrix : ℕ → ℕ → ℕ
matrix count size = if nat_lt 3580 (count * size) then 1 else 0

-- a row of this size may be written
abbrev pub size_fits : ℕ → Bool
size_fits size = nat_le 1 size && nat_le size 8176

-- how many subnodes stand directly in the node of a table
abbrev pub table_subnodes : Tab → ℕ
table_subnodes t = direct t.kept + (matrix (length t.rows) (get_or t.ends 3 0) + long_cells t.rows)

-- the table may be written: its rows, its columns, the size of a row, what its cells take in the heap, and its subnodes
unfoldable pub table_fits : Tab → Bool
table_fits t = nat_le (length t.rows) 500000 && (nat_le (length t.columns) 255 && (size_fits (get_or t.ends 3 0)
    && (nat_le (rows_bytes t.rows) 200000000 && few_subnodes (table_subnodes t))))

-- the table may be written, if there is one
abbrev pub option_fits : Option Tab → Bool
option_fits None = true
option_fits (Some t) = table_fits t

-- one for a table that is there
abbrev pub one_if_some : Option Tab → ℕ
one_if_some None = 0
one_if_some (Some t) = 1

-- the attachment may be written
abbrev pub part_fits : Part → Bool
part_fits part = props_fit part.props part.kept

-- how many subnodes stand directly in the node of a message
abbrev pub own_subnodes : Mes → ℕ
own_subnodes m = direct m.kept + (one_if_some m.recipients + (one_if_some m.attachments + (length m.parts + long_values m.props)))

-- the message may be written: its tables, its attachments, and the subnodes directly in it
unfoldable pub message_fits : Mes → Bool
message_fits m = option_fits m.recipients && (option_fits m.attachments && (list_all part_fits m.parts
    && few_subnodes (own_subnodes m)))
