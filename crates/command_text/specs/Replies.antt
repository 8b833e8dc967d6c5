-- A reply as text.
use Rattle.std.specs.Prelude.{ℕ, ◌-◌, ◌^◌, false, List, [], ◌∷◌, ◌++◌, codes}
use Rattle.std.specs.List.{flat_map}
use Rattle.std.specs.Fmt.{decimal, digits, padded_integral, format_spec}
use Rattle.mapi_values.specs.Spelling.{quoted}
use Rattle.mapi_values.specs.declared.value.Tag.{Tag}
use Rattle.search_obj.specs.declared.flags.SearchState.{SearchState}
use Rattle.search_obj.specs.declared.flags.SearchState.TheVariants.{Running, Static, Stopped}
use Rattle.value_text.specs.Forms.{value_text}
use Rattle.value_text.specs.Hex.{hex_text}
use Rattle.value_text.specs.Numbers.{signed_text}
use Rattle.command_text.specs.declared.reply.DataLine.{DataLine}
use Rattle.command_text.specs.declared.reply.DataLine.TheVariants.{Folder, Search, Foreign, Message, Property, Recipient, Attachment}
use Rattle.command_text.specs.declared.reply.LastLine.{LastLine}
use Rattle.command_text.specs.declared.reply.LastLine.TheVariants.{Done, Made, Count, Row, Attached, Value, Criteria, NoCriteria, Refused, NoMemory, Named}
use Rattle.command_text.specs.declared.reply.Reply.{Reply}
use Rattle.command_text.specs.Refusals.{refusal_words}

-- an id: 0x and lower-case hex digits, without leading zeros
unfoldable pub id_text : ℕ → List ℕ
id_text id = codes "0x" ++ digits 16 false id

-- four lower-case hex digits
abbrev pub four_digits : ℕ → List ℕ
four_digits n = padded_integral (format_spec 32 0 4 4 (2 ^ 64 - 1)) false [] (digits 16 false n)

-- a tag: 0x and the four digits of the id, then those of the kind
abbrev pub tag_text : Tag → List ℕ
tag_text tag = codes "0x" ++ four_digits tag.id ++ four_digits tag.kind

-- 32 bits as a signed number in decimal
abbrev pub signed_bits_text : ℕ → List ℕ
signed_bits_text bits = signed_text (2 ^ 31) bits

-- the end of a line: a space, a name in quotes, and LF
unfoldable pub name_end : List ℕ → List ℕ
name_end name = codes " " ++ quoted name ++ 10 ∷ []

-- the line of a folder: its id, its kind, and its name in quotes
unfoldable pub listed : List ℕ → ℕ → List ℕ → List ℕ
listed kind id name = codes "- " ++ id_text id ++ codes " " ++ kind ++ name_end name

-- the line of a message: its id, its size, and its subject in quotes
unfoldable pub message_text : ℕ → ℕ → List ℕ → List ℕ
message_text id size subject = codes "- " ++ id_text id ++ codes " message " ++ signed_bits_text size ++ name_end subject

-- the line of a property: its tag, and how many bytes its value has
unfoldable pub property_text : Tag → ℕ → List ℕ
property_text tag len = codes "- " ++ tag_text tag ++ codes " " ++ decimal len ++ 10 ∷ []

-- the line of a recipient: its row, its type, and its address and its name in quotes
unfoldable pub recipient_text : ℕ → ℕ → List ℕ → List ℕ → List ℕ
recipient_text row kind address name =
    codes "- rcpt " ++ decimal row ++ codes " " ++ signed_bits_text kind ++ codes " " ++ quoted address ++ name_end name

-- the line of an attachment: its id, how many bytes its data has, and its name in quotes
unfoldable pub attachment_text : ℕ → ℕ → List ℕ → List ℕ
attachment_text id len name = codes "- attach " ++ id_text id ++ codes " " ++ decimal len ++ name_end name

-- a line of data
unfoldable pub data_text : DataLine → List ℕ
data_text (Folder id name) = listed (codes "folder") id.bits name
data_text (Search id name) = listed (codes "search") id.bits name
data_text (Foreign id name) = listed (codes "foreign") id.bits name
data_text (Message id size subject) = message_text id.bits size subject
data_text (Property tag len) = property_text tag len
data_text (Recipient row kind address name) = recipient_text row kind address name
data_text (Attachment id len name) = attachment_text id.bits len name

-- ids, each behind a comma
abbrev pub more_ids_text : List ℕ → List ℕ
more_ids_text [] = []
more_ids_text (id ∷ ids) = codes "," ++ (id_text id ++ more_ids_text ids)

-- the ids of folders with commas between them, a lone minus for none
unfoldable pub scope_text : List ℕ → List ℕ
scope_text [] = codes "-"
scope_text (id ∷ ids) = id_text id ++ more_ids_text ids

-- what a search does as messages change, as a word
unfoldable pub state_word : SearchState → List ℕ
state_word Running = codes "running"
state_word Static = codes "static"
state_word Stopped = codes "stopped"

-- what was set of a search: its flags as an id, its folders, its restriction in hex, what it does, and how often its list was built
unfoldable pub criteria_text : ℕ → List ℕ → List ℕ → SearchState → ℕ → List ℕ
criteria_text flags scope restriction state builds =
    id_text flags ++ codes " " ++ scope_text scope ++ codes " " ++ hex_text restriction ++ codes " " ++ state_word state ++ codes " " ++ decimal builds

-- `ok` and an id
abbrev pub ok_id_text : ℕ → List ℕ
ok_id_text id = codes "ok " ++ id_text id

-- the last line, but for its end
unfoldable pub last_words : LastLine → List ℕ
last_words Done = codes "ok"
last_words (Made id) = ok_id_text id.bits
last_words (Count count) = codes "ok " ++ decimal count
last_words (Row row) = codes "ok " ++ decimal row
last_words (Attached id) = ok_id_text id.bits
last_words (Named property) = ok_id_text property
last_words (Value value) = codes "ok " ++ value_text value
last_words (Criteria flags scope restriction state builds) = codes "ok " ++ criteria_text flags scope restriction state builds
last_words NoCriteria = codes "ok none"
last_words (Refused refusal) = codes "no " ++ refusal_words refusal
last_words NoMemory = codes "no memory"

-- the last line
unfoldable pub last_text : LastLine → List ℕ
last_text last = last_words last ++ 10 ∷ []

-- the lines of data, and the last line
unfoldable pub text : Reply → List ℕ
text reply = flat_map data_text reply.lines ++ last_text reply.last
