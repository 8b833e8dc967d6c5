-- What the reader's parts answer.
use Rattle.std.specs.Prelude.{ℕ, ◌≡◌, List, length}
use Rattle.table_context.specs.declared.rows.RawRow.{RawRow}

-- a row's id and bytes as clauses see them
abbrev pub raw_seen : RawRow → ℕ × List ℕ
raw_seen r = (r.id, r.bytes.now)

-- the row has so many bytes
abbrev pub HasSize : ℕ → RawRow → Type 0
HasSize size r = length r.bytes.now ≡ size
