-- What a line of a session asks for.
use Rattle.std.specs.Prelude.{ℕ, ◌-◌, ◌&&◌, Bool, true, false, List, drop, length, nat_eq, nat_le, nat_lt, take, bytes_eq, codes, Option, None, Some, option_map, Result, Ok, Err, ok_or, if◌then◌else◌}
use Rattle.std.specs.Cmp.Lexicographic.{pointwise}
use Rattle.std.specs.Option.{option_or}
use Rattle.std.specs.List.{list_all}
use Rattle.std.specs.Char.{is_ascii_digit}
use Rattle.std.specs.Str.{is_utf8}
use Rattle.std.specs.Str.Parse.{digits_value}
use Rattle.command_text.specs.declared.command.Command.{Command}
use Rattle.command_text.specs.declared.embedded.EmbeddedCommand.TheVariants.{Embed, List as ListsInside, Get, Set, Unset}
use Rattle.command_text.specs.declared.command.LineRefusal.{LineRefusal}
use Rattle.command_text.specs.declared.command.LineRefusal.TheVariants.{Line}
use Rattle.sorted_views.specs.declared.rows.Direction.{Direction}
use Rattle.sorted_views.specs.declared.rows.Direction.TheVariants.{Up, Down}
use Rattle.command_text.specs.Arguments.{◌>>=◌, id_and_name, id_and_tag, id_and_value, one_id, two_ids}
use Rattle.command_text.specs.Asking.{asks}
use Rattle.command_text.specs.Lines.{text_command}
use Rattle.command_text.specs.Words.{cut}
use Rattle.session_lines.specs.declared.line.SessionLine.{SessionLine}
use Rattle.session_lines.specs.declared.line.TransactionLine.{TransactionLine}
use Rattle.session_lines.specs.declared.line.TransactionLine.TheVariants.{Begin, Commit, Rollback, Session}
use Rattle.session_lines.specs.declared.line.SessionLine.TheVariants.{Pin, At, Unpin, OpenView, ShowView, CloseView, Embedded, Command as StoreCommand}

-- a number that a pin or a view may have, of at most 32 bits
abbrev pub within : ℕ → Option ℕ
within n = if nat_le n 4294967295 then Some n else None

-- the number of a pin or a view that a word writes: one or more digits, of a number from 1 on; nothing for a number that none has, however long; none where the word writes no such number
unfoldable pub number_of : List ℕ → Option (Option ℕ)
number_of word = if nat_lt 0 (length word) && (list_all is_ascii_digit word && nat_lt 0 (digits_value 10 word)) then Some (within (digits_value 10 word)) else None

-- what stands before this end, if bytes end so
abbrev pub before_end : List ℕ → List ℕ → Option (List ℕ)
before_end end bytes = if pointwise nat_eq (drop (length bytes - length end) bytes) end then Some (take (length bytes - length end) bytes) else None

-- the direction that the last word says, and what stands before that
abbrev pub going : Direction → List ℕ → List ℕ × Direction
going direction front = (front, direction)

unfoldable pub direction_of : List ℕ → Option (List ℕ × Direction)
direction_of rest = option_or (option_map (going Up) (before_end (codes " up") rest)) (option_map (going Down) (before_end (codes " down") rest))

-- a command that only asks; all else, also what was refused as a value, is refused as a line
abbrev pub only_asked : Result Command LineRefusal → Result Command LineRefusal
only_asked (Ok c) = if asks c then Ok c else Err Line
only_asked (Err refusal) = Err Line

-- a line that only asks
unfoldable pub asked : List ℕ → Result Command LineRefusal
asked text = only_asked (text_command text)

-- at: the pin, and the line that it is asked
unfoldable pub at_pin : List ℕ → Result SessionLine LineRefusal
at_pin rest = do
  words ← ok_or (cut rest) Line
  pin ← ok_or (number_of words.0) Line
  c ← asked words.1
  Ok (At pin c)

-- unpin: the pin
unfoldable pub unpin : List ℕ → Result SessionLine LineRefusal
unpin rest = do
  pin ← ok_or (number_of rest) Line
  Ok (Unpin pin)

-- bytes that are text
abbrev pub text_in : List ℕ → Result (List ℕ) LineRefusal
text_in bytes = if is_utf8 bytes then Ok bytes else Err Line

-- view: the folder, the column and the direction
unfoldable pub open_view : List ℕ → Result SessionLine LineRefusal
open_view rest = do
  said ← ok_or (direction_of rest) Line
  front ← text_in said.0
  given ← id_and_tag front
  Ok (OpenView given.0 given.1 said.1)

-- rows and groups: the view
unfoldable pub show_view : Bool → List ℕ → Result SessionLine LineRefusal
show_view grouped rest = do
  view ← ok_or (number_of rest) Line
  Ok (ShowView view grouped)

-- unview: the view
unfoldable pub close_view : List ℕ → Result SessionLine LineRefusal
close_view rest = do
  view ← ok_or (number_of rest) Line
  Ok (CloseView view)

-- a command of the store
unfoldable pub store_line : List ℕ → Result SessionLine LineRefusal
store_line text = do
  c ← text_command text
  Ok (StoreCommand c)

-- embed: the message, the one to be embedded, and the name, spaces and all
unfoldable pub embed : List ℕ → Result SessionLine LineRefusal
embed rest = do
  words ← ok_or (cut rest) Line
  message ← one_id words.0
  given ← id_and_name words.1
  Ok (Embedded (Embed message given.0 given.1))

-- eprops: the message and the attachment
unfoldable pub list_embedded : List ℕ → Result SessionLine LineRefusal
list_embedded rest = do
  ids ← two_ids rest
  Ok (Embedded (ListsInside ids.0 ids.1))

-- eget: the message, the attachment and the tag
unfoldable pub get_embedded : List ℕ → Result SessionLine LineRefusal
get_embedded rest = do
  words ← ok_or (cut rest) Line
  message ← one_id words.0
  given ← id_and_tag words.1
  Ok (Embedded (Get message given.0 given.1))

-- eset: the message, the attachment, the tag and the value, spaces and all
unfoldable pub set_embedded : List ℕ → Result SessionLine LineRefusal
set_embedded rest = do
  words ← ok_or (cut rest) Line
  message ← one_id words.0
  given ← id_and_value words.1
  Ok (Embedded (Set message given.0 given.1))

-- eunset: the message, the attachment and the tag
unfoldable pub unset_embedded : List ℕ → Result SessionLine LineRefusal
unset_embedded rest = do
  words ← ok_or (cut rest) Line
  message ← one_id words.0
  given ← id_and_tag words.1
  Ok (Embedded (Unset message given.0 given.1))

-- a line on the message in an attachment: its first word, and what stands behind the space
unfoldable pub on_embedded : List ℕ → List ℕ → List ℕ → Result SessionLine LineRefusal
on_embedded text word rest =
    if bytes_eq word (codes "embed") then embed rest
    else (if bytes_eq word (codes "eprops") then list_embedded rest
    else (if bytes_eq word (codes "eget") then get_embedded rest
    else (if bytes_eq word (codes "eset") then set_embedded rest
    else (if bytes_eq word (codes "eunset") then unset_embedded rest
    else store_line text))))

-- a line on views: its first word, and what stands behind the space
unfoldable pub on_views : List ℕ → List ℕ → List ℕ → Result SessionLine LineRefusal
on_views text word rest =
    if bytes_eq word (codes "view") then open_view rest
    else (if bytes_eq word (codes "rows") then show_view false rest
    else (if bytes_eq word (codes "groups") then show_view true rest
    else (if bytes_eq word (codes "unview") then close_view rest
    else on_embedded text word rest)))

-- a line with a space: its first word, and what stands behind the space
unfoldable pub with_word : List ℕ → List ℕ → List ℕ → Result SessionLine LineRefusal
with_word text word rest =
    if bytes_eq word (codes "at") then at_pin rest
    else (if bytes_eq word (codes "unpin") then unpin rest
    else on_views text word rest)

-- the text is cut at its first space, if it has one
abbrev pub cut_line : List ℕ → Option (List ℕ × List ℕ) → Result SessionLine LineRefusal
cut_line text (Some words) = with_word text words.0 words.1
cut_line text None = if bytes_eq text (codes "pin") then Ok Pin else store_line text

-- what a line asks for, or why it is refused
unfoldable pub session_line : List ℕ → Result SessionLine LineRefusal
session_line line = if is_utf8 line then cut_line line (cut line) else Err Line

-- a line that isn't on transactions
abbrev pub other_line : List ℕ → Result TransactionLine LineRefusal
other_line line = do
  asked ← session_line line
  Ok (Session asked)

-- what a line of a session with transactions asks for, or why it is refused
unfoldable pub transaction_line : List ℕ → Result TransactionLine LineRefusal
transaction_line line =
    if is_utf8 line then (if bytes_eq line (codes "begin") then Ok Begin
    else (if bytes_eq line (codes "commit") then Ok Commit
    else (if bytes_eq line (codes "rollback") then Ok Rollback
    else other_line line)))
    else Err Line
