-- The ids of rows, in memory.
use Rattle.std.specs.Prelude.{ℕ, List}
use Rattle.mapi_values.specs.Values.{Val}
use Rattle.list_check.specs.declared.rows.RowId.{RowId}

abbrev pub row_id : ℕ × List Val → RowId
row_id r = record { bits = r.0 }
