-- The blocks for which a command asks room, for each object that it touches: no fewer than what is written takes.
use Rattle.std.specs.Prelude.{ℕ, ◌+◌, ◌*◌, ◌/◌, List, [], ◌∷◌, length, get_or, Option, None, Some, if◌then◌else◌}
use Rattle.pst_base.specs.Flat.{Flat}
use Rattle.mapi_values.specs.Messages.{Mes}
use Rattle.mapi_values.specs.Tables.{Tab}
use Rattle.mapi_values.specs.Values.{Val}
use Rattle.mapi_values.specs.declared.part.Part.{Part}
use Rattle.write_limits.specs.Limits.{is_long}

-- the bytes of a value that stands in a heap, at most 3580
unfoldable pub short_bytes : Val → ℕ
short_bytes v = if is_long v then 0 else length v.bytes

-- the blocks of a longer value: its subnode, and its bytes with a part at each end
unfoldable pub long_blocks : Val → ℕ
long_blocks v = if is_long v then length v.bytes / 8176 + 3 else 0

-- the bytes of these values that stand in a heap
abbrev pub values_bytes : List Val → ℕ
values_bytes [] = 0
values_bytes (v ∷ vs) = short_bytes v + values_bytes vs

-- the blocks of the longer ones
abbrev pub values_blocks : List Val → ℕ
values_blocks [] = 0
values_blocks (v ∷ vs) = long_blocks v + values_blocks vs

-- a property context with these values: their bytes, and 8 for each
unfoldable pub props_space : List Val → ℕ
props_space vs = 4 + (values_bytes vs + 8 * length vs) / 4080 + values_blocks vs

-- the bytes of these rows in their table, each of this size: 8 more for each, and those of its cells
abbrev pub rows_space : ℕ → List (ℕ × List Val) → ℕ
rows_space size [] = 0
rows_space size (r ∷ rs) = (values_bytes r.1 + 8 + size) + rows_space size rs

-- the blocks of the longer values in these rows
abbrev pub cells_blocks : List (ℕ × List Val) → ℕ
cells_blocks [] = 0
cells_blocks (r ∷ rs) = values_blocks r.1 + cells_blocks rs

-- subnodes that stay as they are, at all levels: the data blocks of each, and 3
abbrev pub kept_space : List Flat → ℕ
kept_space [] = 0
kept_space (f ∷ fs) = (length f.blocks + 3) + kept_space fs

-- a table, with the subnodes that none of its parts uses
unfoldable pub table_space : Tab → ℕ
table_space t = (4 + rows_space (get_or t.ends 3 0) t.rows / 4080 + cells_blocks t.rows) + kept_space t.kept

-- a table, if there is one
abbrev pub option_space : Option Tab → ℕ
option_space None = 0
option_space (Some t) = table_space t

-- attachments, each a property context
abbrev pub parts_space : List Part → ℕ
parts_space [] = 0
parts_space (p ∷ ps) = (props_space p.props + kept_space p.kept) + parts_space ps

-- a message: its values, its tables, its attachments and its other subnodes
unfoldable pub message_space : Mes → ℕ
message_space m = (props_space m.props + (option_space m.recipients + option_space m.attachments)) + (parts_space m.parts + kept_space m.kept)
