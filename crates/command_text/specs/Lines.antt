-- What a line asks for.
use Rattle.std.specs.Prelude.{ℕ, List, [], Option, None, Some, Result, Ok, Err, ok_or, bytes_eq, codes, if◌then◌else◌}
use Rattle.std.specs.Str.{is_utf8}
use Rattle.value_text.specs.Hex.{hex_bytes}
use Rattle.value_text.specs.Numbers.{magnitude}
use Rattle.command_text.specs.declared.command.Command.{Command}
use Rattle.command_text.specs.declared.command.Command.TheVariants.{MakeFolder, RenameFolder, MoveFolder, RemoveFolder, ListFolder, NewMessage, SetProperty, UnsetProperty, GetProperty, ListProperties, MoveMessage, CopyMessage, RemoveMessage, AddRecipient, RemoveRecipient, AddAttachment, AppendData, RemoveAttachment, FetchData, Save, Quit, NameProperty, MakeSearch, SetCriteria, GetCriteria}
use Rattle.command_text.specs.declared.command.Held.TheVariants.{Data}
use Rattle.command_text.specs.declared.command.LineRefusal.{LineRefusal}
use Rattle.command_text.specs.declared.command.LineRefusal.TheVariants.{Line, Value}
use Rattle.command_text.specs.Words.{cut, guid_of, name_of, recipient_type, restriction_of, row_of, scope_of}
use Rattle.command_text.specs.Arguments.{◌>>=◌, one_id, two_ids, id_and_tag, id_and_value, id_and_name}

-- mkdir: the parent's id, and the name, spaces and all
unfoldable pub make_folder : List ℕ → Result Command LineRefusal
make_folder rest = do
  given ← id_and_name rest
  Ok (MakeFolder given.0 given.1)

-- rename: the folder's id, and the name, spaces and all
unfoldable pub rename_folder : List ℕ → Result Command LineRefusal
rename_folder rest = do
  given ← id_and_name rest
  Ok (RenameFolder given.0 given.1)

-- mvdir: the folder's id, and its new parent's
unfoldable pub move_folder : List ℕ → Result Command LineRefusal
move_folder rest = do
  ids ← two_ids rest
  Ok (MoveFolder ids.0 ids.1)

-- rmdir: the folder's id
unfoldable pub remove_folder : List ℕ → Result Command LineRefusal
remove_folder rest = do
  folder ← one_id rest
  Ok (RemoveFolder folder)

-- ls: the folder's id
unfoldable pub list_folder : List ℕ → Result Command LineRefusal
list_folder rest = do
  folder ← one_id rest
  Ok (ListFolder folder)

-- new: the folder's id, the class, which is of the form of a name, and the time, in decimal; the class is looked at last. A line gives no further values.
unfoldable pub new_message : List ℕ → Result Command LineRefusal
new_message rest = do
  words ← ok_or (cut rest) Line
  folder ← one_id words.0
  others ← ok_or (cut words.1) Line
  time ← ok_or (magnitude others.1) Line
  class ← ok_or (name_of others.0) Value
  Ok (NewMessage folder class time [])

-- set: the message's id, the tag, and the value that the rest of the line says, spaces and all
unfoldable pub set_property : List ℕ → Result Command LineRefusal
set_property rest = do
  given ← id_and_value rest
  Ok (SetProperty given.0 given.1)

-- unset: the message's id, and the tag
unfoldable pub unset_property : List ℕ → Result Command LineRefusal
unset_property rest = do
  given ← id_and_tag rest
  Ok (UnsetProperty given.0 given.1)

-- get: the message's id, and the tag
unfoldable pub get_property : List ℕ → Result Command LineRefusal
get_property rest = do
  given ← id_and_tag rest
  Ok (GetProperty given.0 given.1)

-- props: the message's id
unfoldable pub list_properties : List ℕ → Result Command LineRefusal
list_properties rest = do
  message ← one_id rest
  Ok (ListProperties message)

-- mv: the message's id, and the folder's
unfoldable pub move_message : List ℕ → Result Command LineRefusal
move_message rest = do
  ids ← two_ids rest
  Ok (MoveMessage ids.0 ids.1)

-- cp: the message's id, and the folder's
unfoldable pub copy_message : List ℕ → Result Command LineRefusal
copy_message rest = do
  ids ← two_ids rest
  Ok (CopyMessage ids.0 ids.1)

-- rm: the message's id
unfoldable pub remove_message : List ℕ → Result Command LineRefusal
remove_message rest = do
  message ← one_id rest
  Ok (RemoveMessage message)

-- rcpt: the message's id, the type, the address, which is of the form of a name, and the name, spaces and all; these two are looked at last
unfoldable pub add_recipient : List ℕ → Result Command LineRefusal
add_recipient rest = do
  words ← ok_or (cut rest) Line
  message ← one_id words.0
  others ← ok_or (cut words.1) Line
  kind ← ok_or (recipient_type others.0) Line
  texts ← ok_or (cut others.1) Line
  address ← ok_or (name_of texts.0) Value
  name ← ok_or (name_of texts.1) Value
  Ok (AddRecipient message kind address name)

-- unrcpt: the message's id, and the row
unfoldable pub remove_recipient : List ℕ → Result Command LineRefusal
remove_recipient rest = do
  words ← ok_or (cut rest) Line
  message ← one_id words.0
  row ← ok_or (row_of words.1) Line
  Ok (RemoveRecipient message row)

-- attach: the message's id, the file name, and the data in hex; the name is looked at last
unfoldable pub add_attachment : List ℕ → Result Command LineRefusal
add_attachment rest = do
  words ← ok_or (cut rest) Line
  message ← one_id words.0
  others ← ok_or (cut words.1) Line
  data_bytes ← ok_or (hex_bytes others.1) Line
  name ← ok_or (name_of others.0) Value
  Ok (AddAttachment message name (Data data_bytes))

-- append: the message's id, the attachment's, and the bytes in hex
unfoldable pub append_data : List ℕ → Result Command LineRefusal
append_data rest = do
  words ← ok_or (cut rest) Line
  message ← one_id words.0
  others ← ok_or (cut words.1) Line
  attachment ← one_id others.0
  data_bytes ← ok_or (hex_bytes others.1) Line
  Ok (AppendData message attachment data_bytes)

-- detach: the message's id, and the attachment's
unfoldable pub remove_attachment : List ℕ → Result Command LineRefusal
remove_attachment rest = do
  ids ← two_ids rest
  Ok (RemoveAttachment ids.0 ids.1)

-- fetch: the message's id, and the attachment's
unfoldable pub fetch_data : List ℕ → Result Command LineRefusal
fetch_data rest = do
  ids ← two_ids rest
  Ok (FetchData ids.0 ids.1)

-- name: the GUID, and the number, which is written as an id is
unfoldable pub name_property : List ℕ → Result Command LineRefusal
name_property rest = do
  words ← ok_or (cut rest) Line
  guid ← ok_or (guid_of words.0) Line
  number ← one_id words.1
  Ok (NameProperty guid number.bits)

-- mksearch: the parent's id, and the name, spaces and all
unfoldable pub make_search : List ℕ → Result Command LineRefusal
make_search rest = do
  given ← id_and_name rest
  Ok (MakeSearch given.0 given.1)

-- criteria: the search's id, the flags, which are written as an id is, the folders' ids, and the restriction in hex; a minus in place of one of these two keeps what stands
unfoldable pub set_criteria : List ℕ → Result Command LineRefusal
set_criteria rest = do
  words ← ok_or (cut rest) Line
  search ← one_id words.0
  others ← ok_or (cut words.1) Line
  flags ← one_id others.0
  given ← ok_or (cut others.1) Line
  scope ← ok_or (scope_of given.0) Line
  restriction ← ok_or (restriction_of given.1) Line
  Ok (SetCriteria search flags.bits scope restriction)

-- getcriteria: the search's id
unfoldable pub get_criteria : List ℕ → Result Command LineRefusal
get_criteria rest = do
  search ← one_id rest
  Ok (GetCriteria search)

-- a line without a space
unfoldable pub one_word : List ℕ → Result Command LineRefusal
one_word word =
    if bytes_eq word (codes "save") then Ok Save
    else (if bytes_eq word (codes "quit") then Ok Quit
    else Err Line)

-- a line that tells of a search folder or of a property's name
unfoldable pub on_search : List ℕ → List ℕ → Result Command LineRefusal
on_search word rest =
    if bytes_eq word (codes "name") then name_property rest
    else (if bytes_eq word (codes "mksearch") then make_search rest
    else (if bytes_eq word (codes "criteria") then set_criteria rest
    else (if bytes_eq word (codes "getcriteria") then get_criteria rest
    else Err Line)))

-- a line that tells of a recipient or an attachment, or of what comes after these
unfoldable pub on_part : List ℕ → List ℕ → Result Command LineRefusal
on_part word rest =
    if bytes_eq word (codes "rcpt") then add_recipient rest
    else (if bytes_eq word (codes "unrcpt") then remove_recipient rest
    else (if bytes_eq word (codes "attach") then add_attachment rest
    else (if bytes_eq word (codes "append") then append_data rest
    else (if bytes_eq word (codes "detach") then remove_attachment rest
    else (if bytes_eq word (codes "fetch") then fetch_data rest
    else on_search word rest)))))

-- a line that tells of a message, or of what comes after these
unfoldable pub on_message : List ℕ → List ℕ → Result Command LineRefusal
on_message word rest =
    if bytes_eq word (codes "new") then new_message rest
    else (if bytes_eq word (codes "set") then set_property rest
    else (if bytes_eq word (codes "unset") then unset_property rest
    else (if bytes_eq word (codes "get") then get_property rest
    else (if bytes_eq word (codes "props") then list_properties rest
    else (if bytes_eq word (codes "mv") then move_message rest
    else (if bytes_eq word (codes "cp") then copy_message rest
    else (if bytes_eq word (codes "rm") then remove_message rest
    else on_part word rest)))))))

-- a line with a space: its first word, and what stands behind the space
unfoldable pub with_arguments : List ℕ → List ℕ → Result Command LineRefusal
with_arguments word rest =
    if bytes_eq word (codes "mkdir") then make_folder rest
    else (if bytes_eq word (codes "rename") then rename_folder rest
    else (if bytes_eq word (codes "mvdir") then move_folder rest
    else (if bytes_eq word (codes "rmdir") then remove_folder rest
    else (if bytes_eq word (codes "ls") then list_folder rest
    else on_message word rest))))

-- the line is cut at its first space, if it has one
abbrev pub cut_line : List ℕ → Option (List ℕ × List ℕ) → Result Command LineRefusal
cut_line line (Some words) = with_arguments words.0 words.1
cut_line line None = one_word line

-- what a text asks for, or why it is refused
unfoldable pub text_command : List ℕ → Result Command LineRefusal
text_command text = cut_line text (cut text)

-- what a line asks for, or why it is refused
unfoldable pub command : List ℕ → Result Command LineRefusal
command line = if is_utf8 line then text_command line else Err Line
