-- What is said to a line on transactions, on pins and on views, as text.
use Rattle.std.specs.Prelude.{ℕ, List, [], ◌∷◌, ◌++◌, codes, length, Option, None, Some}
use Rattle.std.specs.Fmt.{decimal}
use Rattle.std.specs.List.{flat_map}
use Rattle.mapi_values.specs.Values.{Val}
use Rattle.value_text.specs.Forms.{value_text}
use Rattle.command_text.specs.Replies.{id_text}
use Rattle.sorted_views.specs.Groups.{groups}
use Rattle.sorted_views.specs.declared.rows.ViewRow.{ViewRow}
use Rattle.session_lines.specs.declared.line.PinReply.{PinReply}
use Rattle.session_lines.specs.declared.line.PinReply.TheVariants.{Pinned, Unpinned, NoPin, PinsFull}
use Rattle.session_lines.specs.declared.line.TransactionReply.{TransactionReply}
use Rattle.session_lines.specs.declared.line.TransactionReply.TheVariants as transactions
use Rattle.session_lines.specs.declared.line.ViewReply.{ViewReply}
use Rattle.session_lines.specs.declared.line.ViewReply.TheVariants.{Opened, Closed, NoView, NoColumn, ViewsFull}

-- one line with its LF; the number of a pin is in decimal
unfoldable pub pin_text : PinReply → List ℕ
pin_text (Pinned pin) = codes "ok " ++ decimal pin ++ 10 ∷ []
pin_text Unpinned = codes "ok" ++ 10 ∷ []
pin_text NoPin = codes "no pin" ++ 10 ∷ []
pin_text PinsFull = codes "no limit pins" ++ 10 ∷ []

-- one line with its LF; the number of a view is in decimal
unfoldable pub view_text : ViewReply → List ℕ
view_text (Opened view) = codes "ok " ++ decimal view ++ 10 ∷ []
view_text Closed = codes "ok" ++ 10 ∷ []
view_text NoView = codes "no view" ++ 10 ∷ []
view_text NoColumn = codes "no column" ++ 10 ∷ []
view_text ViewsFull = codes "no limit views" ++ 10 ∷ []

-- one line with its LF
unfoldable pub transaction_text : TransactionReply → List ℕ
transaction_text transactions.Done = codes "ok" ++ 10 ∷ []
transaction_text transactions.Full = codes "no limit transaction" ++ 10 ∷ []

-- a cell, as `get` prints it
unfoldable pub cell_text : Option Val → List ℕ
cell_text None = codes "none"
cell_text (Some value) = value_text value

-- the line of a row: its id, and its cell
unfoldable pub row_text : ℕ → Option Val → List ℕ
row_text id cell = codes "- " ++ id_text id ++ codes " " ++ cell_text cell ++ 10 ∷ []

-- the line of a group: the cell of its first row, and how many rows it has
unfoldable pub group_text : Option Val → ℕ → List ℕ
group_text cell count = codes "- " ++ cell_text cell ++ codes " " ++ decimal count ++ 10 ∷ []

-- the last line: how many there are
unfoldable pub count_text : ℕ → List ℕ
count_text count = codes "ok " ++ decimal count ++ 10 ∷ []

-- the lines of rows with these cells
abbrev pub row_lines : (ℕ → Option Val) → List ViewRow → List ℕ
row_lines cells rows = flat_map (λ (row : ViewRow). row_text row.id (cells row.id)) rows

-- the rows of a view
abbrev pub rows_text : (ℕ → Option Val) → List ViewRow → List ℕ
rows_text cells rows = row_lines cells rows ++ count_text (length rows)

-- the lines of groups
abbrev pub group_lines : (ℕ → Option Val) → List (ViewRow × ℕ) → List ℕ
group_lines cells gs = flat_map (λ (g : ViewRow × ℕ). group_text (cells g.0.id) g.1) gs

-- the groups of its rows
abbrev pub groups_text : (ℕ → Option Val) → List ViewRow → List ℕ
groups_text cells rows = group_lines cells (groups rows) ++ count_text (length (groups rows))
