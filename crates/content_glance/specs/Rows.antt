-- What the data of a node tells of the rows of its table, without its subnodes.
use Rattle.std.specs.Prelude.{◌≡◌, ℕ, Bool, List, Option, Some, length}
use Rattle.std.specs.Option.{is_some}
use Rattle.pst_base.specs.Flat.{Flat}
use Rattle.heap_edit.specs.Known.{AreKnown, Known, blocks_now}
use Rattle.mapi_values.specs.Tables.{Tab, find_row}
use Rattle.mail_objects.specs.table_context.Context.{IsTableContext}
use Rattle.mail_objects.specs.table_context.Header.{index_in}

-- whatever the subnodes are with which the blocks are a table, it is told whether that has a row with the id; nothing is told only where there are none
abbrev pub TellsRow : List (List ℕ) → ℕ → Option Bool → Type 0
TellsRow blocks id told = (subs : List Flat) (t : Tab) → IsTableContext blocks subs t → told ≡ Some (is_some (find_row id t.rows))

-- the same of how many rows it has
abbrev pub TellsCount : List (List ℕ) → Option ℕ → Type 0
TellsCount blocks told = (subs : List Flat) (t : Tab) → IsTableContext blocks subs t → told ≡ Some (length t.rows)

-- the heap id is that of the row index, whatever the other blocks and the subnodes are with which those that are known are a table
abbrev pub NamesIndex : Known → ℕ → Type 0
NamesIndex h index = (old : List (List ℕ)) → AreKnown h old → (subs : List Flat) (t : Tab) → (c : IsTableContext (blocks_now h old) subs t) → index ≡ index_in c.head

-- whatever the other blocks and the subnodes are with which those that are known are a table, it is told whether that has a row with the id
abbrev pub TellsKnown : Known → ℕ → Bool → Type 0
TellsKnown h id has = (old : List (List ℕ)) → AreKnown h old → (subs : List Flat) (t : Tab) → IsTableContext (blocks_now h old) subs t → has ≡ is_some (find_row id t.rows)
