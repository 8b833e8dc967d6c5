-- What a table lists.
use Rattle.std.specs.Prelude.{ℕ, Bool, List, Option, Ok, length}
use Rattle.std.specs.Option.{is_some}
use Rattle.mapi_values.specs.Tables.{find_row}
use Rattle.mail_objects.specs.declared.object.Object.{Object}
use Rattle.mail_tree.specs.Changing.{Answer, ◌>>=◌, as_table, known, nothing, table_at}
use Rattle.mail_tree.specs.Settling.{message_ids}
use Rattle.mail_tree.specs.Tree.{Tree}

-- the ids of the messages that a table lists which stands there
abbrev pub listed_in : Option Object → Answer (List ℕ)
listed_in object = known (as_table object) >>= λ t. Ok (message_ids t.table)

-- whether the table at an id has a row
abbrev pub has_row : Tree → ℕ → ℕ → Answer Bool
has_row T q row = table_at T nothing q >>= λ t. Ok (is_some (find_row row t.table.rows))

-- how many rows the table at an id has
abbrev pub row_count : Tree → ℕ → Answer ℕ
row_count T q = table_at T nothing q >>= λ t. Ok (length t.table.rows)
