-- The tables that the store makes, without rows.
use Rattle.std.specs.Prelude.{ℕ, List, [], ◌∷◌}
use Rattle.mapi_values.specs.declared.column.Column.{Column}
use Rattle.mail_objects.specs.Forms.{Tbl}

abbrev pub column : ℕ → ℕ → ℕ → ℕ → ℕ → Column
column id kind at width bit = record { tag = record { id = id; kind = kind }; at = at; width = width; bit = bit }

-- a table of these columns and these ends of a row's parts, without rows, at a node without a parent
abbrev pub empty_table : List Column → List ℕ → Tbl
empty_table columns ends = record { parent = 0; table = record { columns = columns; ends = ends; rows = []; kept = [] } }

-- the table of a folder's folders: names, counts, and whether there are folders below
abbrev pub hierarchy_table : Tbl
hierarchy_table = empty_table
    (column 0x3001 0x001F 8 4 2 ∷ column 0x3602 0x0003 12 4 3 ∷ column 0x3603 0x0003 16 4 4 ∷ column 0x360A 0x000B 20 1 5
    ∷ column 0x67F2 0x0003 0 4 0 ∷ column 0x67F3 0x0003 4 4 1 ∷ [])
    (20 ∷ 20 ∷ 21 ∷ 22 ∷ [])

-- the table of a folder's messages: classes, subjects, times, flags and sizes
abbrev pub contents_table : Tbl
contents_table = empty_table
    (column 0x001A 0x001F 8 4 2 ∷ column 0x0037 0x001F 12 4 3 ∷ column 0x0039 0x0040 16 8 4 ∷ column 0x0E06 0x0040 24 8 5
    ∷ column 0x0E07 0x0003 32 4 6 ∷ column 0x0E08 0x0003 36 4 7 ∷ column 0x3007 0x0040 40 8 8 ∷ column 0x3008 0x0040 48 8 9
    ∷ column 0x67F2 0x0003 0 4 0 ∷ column 0x67F3 0x0003 4 4 1 ∷ [])
    (56 ∷ 56 ∷ 56 ∷ 58 ∷ [])

-- the table of a message's recipients: types, names, address types and addresses
abbrev pub recipients_table : Tbl
recipients_table = empty_table
    (column 0x0C15 0x0003 8 4 2 ∷ column 0x3001 0x001F 12 4 3 ∷ column 0x3002 0x001F 16 4 4 ∷ column 0x3003 0x001F 20 4 5
    ∷ column 0x67F2 0x0003 0 4 0 ∷ column 0x67F3 0x0003 4 4 1 ∷ [])
    (24 ∷ 24 ∷ 24 ∷ 25 ∷ [])

-- the table of a message's attachments: sizes, names, methods and places in the text
abbrev pub attachments_table : Tbl
attachments_table = empty_table
    (column 0x0E20 0x0003 8 4 2 ∷ column 0x3704 0x001F 12 4 3 ∷ column 0x3705 0x0003 16 4 4 ∷ column 0x370B 0x0003 20 4 5
    ∷ column 0x67F2 0x0003 0 4 0 ∷ column 0x67F3 0x0003 4 4 1 ∷ [])
    (24 ∷ 24 ∷ 24 ∷ 25 ∷ [])
