-- Values of objects that the store reads and makes.
use Rattle.std.specs.Prelude.{ℕ, ◌+◌, ◌-◌, ◌*◌, ◌/◌, ◌%◌, ◌==◌, ◌&&◌, Bool, true, false, nat_le, nat_lt, List, [], ◌∷◌, ◌++◌, length, take, replicate, Option, None, Some, if◌then◌else◌, ◌||◌}
use Rattle.std.specs.Option.{option_and_then, unwrap_or, is_some}
use Rattle.byteorder.specs.Endian.{little_bytes}
use Rattle.pst_base.specs.Fields.{number_at}
use Rattle.mapi_values.specs.Messages.{Mes, size}
use Rattle.mapi_values.specs.Properties.{find, put}
use Rattle.mapi_values.specs.Values.{Val}
use Rattle.command_text.specs.value_text.UnitBytes.{units_bytes, units_in}

abbrev pub value : ℕ → ℕ → List ℕ → Val
value id kind bytes = record { id = id; kind = kind; bytes = bytes }

-- the bytes, if the value is of this kind
abbrev pub of_kind : ℕ → Val → Option (List ℕ)
of_kind kind v = if v.kind == kind then Some v.bytes else None

-- the bytes of the value of this id and kind
abbrev pub bytes_of : ℕ → ℕ → List Val → Option (List ℕ)
bytes_of id kind props = option_and_then (of_kind kind) (find id props)

-- the text of this id, empty where there is none
abbrev pub text_of : ℕ → List Val → List ℕ
text_of id props = units_in (unwrap_or (bytes_of id 0x001F props) [])

-- the number of 4 bytes of this id, 0 where there is none
abbrev pub number_of : ℕ → List Val → ℕ
number_of id props = number_at 4 0 (unwrap_or (bytes_of id 0x0003 props) (0 ∷ 0 ∷ 0 ∷ 0 ∷ []))

-- how many bytes the value of this id has, 0 where there is none
abbrev pub length_of : Option Val → ℕ
length_of None = 0
length_of (Some v) = length v.bytes

-- a folder's name
abbrev pub name_of : List Val → List ℕ
name_of props = text_of 0x3001 props

abbrev pub text : ℕ → List ℕ → Val
text id units = value id 0x001F (units_bytes units)

abbrev pub number : ℕ → ℕ → Val
number id n = value id 0x0003 (little_bytes 4 n)

abbrev pub time_value : ℕ → ℕ → Val
time_value id n = value id 0x0040 (little_bytes 8 n)

abbrev pub truth : ℕ → Bool → Val
truth id b = value id 0x000B ((if b then 1 else 0) ∷ [])

-- the values of a new folder: its name, no messages, none of them unread, no folders
abbrev pub folder_props : List ℕ → List Val
folder_props name = text 0x3001 name ∷ number 0x3602 0 ∷ number 0x3603 0 ∷ truth 0x360A false ∷ []

-- a folder's values with other counts: its messages, those that are unread, and whether it has folders
abbrev pub with_counts : ℕ → ℕ → Bool → List Val → List Val
with_counts messages unread has_folders props = put (truth 0x360A has_folders) (put (number 0x3603 unread) (put (number 0x3602 messages) props))

-- the message was read
abbrev pub is_read : List Val → Bool
is_read props = number_of 0x0E07 props % 2 == 1

-- the flags with bit 10h as it is to be
abbrev pub with_flag : Bool → ℕ → ℕ
with_flag on flags = (flags - 16 * (flags / 16 % 2)) + (if on then 16 else 0)

-- the values with bit 10h of the flags right; flags that aren't there come only with an attachment
unfoldable pub with_attachment_flag : Bool → List Val → List Val
with_attachment_flag on props =
    if is_some (bytes_of 0x0E07 0x0003 props) then put (number 0x0E07 (with_flag on (number_of 0x0E07 props))) props
    else (if on then put (number 0x0E07 16) props else props)

abbrev pub has_parts : {X : Type 0} → List X → Bool
has_parts [] = false
has_parts (x ∷ xs) = true

abbrev pub with_props : List Val → Mes → Mes
with_props props m = record m { props = props }

-- the message with its flags and its size right
unfoldable pub finished : Mes → Mes
finished m =
    let flagged = with_attachment_flag (has_parts m.parts) m.props in
    with_props (put (number 0x0E08 (size (with_props flagged m))) flagged) m

-- the first 12 bytes of the store's record key, or zeros where it is shorter or isn't there
abbrev pub key_front : Option (List ℕ) → List ℕ
key_front None = replicate 12 0
key_front (Some key) = if nat_le 12 (length key) then take 12 key else replicate 12 0

-- the search key of a new message: its id and the front of the store's record key
abbrev pub search_key : ℕ → List Val → List ℕ
search_key m store = little_bytes 4 m ++ key_front (bytes_of 0x0FF9 0x0102 store)

-- values put one after another, each in place of the one of its id
abbrev pub put_all : List Val → List Val → List Val
put_all [] props = props
put_all (v ∷ vs) props = put_all vs (put v props)

-- the values that each new message has, but for its size
abbrev pub own_props : ℕ → List ℕ → ℕ → List Val → List Val
own_props m class time store = text 0x001A class ∷ number 0x0E07 0 ∷ time_value 0x3007 time ∷ time_value 0x3008 time ∷ value 0x300B 0x0102 (search_key m store) ∷ []

-- the values of a new message that is given these, but for its size
abbrev pub message_props : ℕ → List ℕ → ℕ → List Val → List Val → List Val
message_props m class time store values = put_all values (own_props m class time store)

-- an entry id of this length names the node in its last 4 bytes
abbrev pub names_node : ℕ → Option (List ℕ) → Bool
names_node nid None = false
names_node nid (Some entry) = (length entry == 24) && (number_at 4 20 entry == nid)

-- the store names the folder as its top, its deleted items, or its place for search folders
abbrev pub is_special : ℕ → List Val → Bool
is_special f store = names_node f (bytes_of 0x35E0 0x0102 store) || (names_node f (bytes_of 0x35E3 0x0102 store) || names_node f (bytes_of 0x35E7 0x0102 store))

-- a value that the store keeps itself
abbrev pub is_own_id : ℕ → Bool
is_own_id id = (id == 0x0E08) || ((id == 0x0E12) || ((id == 0x0E13) || ((id == 0x300B) || ((id == 0x67F2) || (id == 0x67F3)))))

-- the class, the flags or a time, which a new message has of its own
abbrev pub is_new_id : ℕ → Bool
is_new_id id = (id == 0x001A) || ((id == 0x0E07) || ((id == 0x3007) || (id == 0x3008)))

-- a value that a new message may not be given: one of an id that it has of its own or that the store keeps itself, one of an id that needs a name, or an object
abbrev pub is_withheld : Val → Bool
is_withheld v = is_new_id v.id || (is_own_id v.id || (nat_le 0x8000 v.id || (v.kind == 0x000D)))

-- there is an object, which another program embedded, under this id
abbrev pub has_object : ℕ → List Val → Bool
has_object id props = is_some (bytes_of id 0x000D props)

-- a value of this id may not be set
abbrev pub is_set_protected : ℕ → List Val → Bool
is_set_protected id props = is_own_id id || has_object id props

-- the value of this id and kind may not be removed
abbrev pub is_unset_protected : ℕ → ℕ → List Val → Bool
is_unset_protected id kind props = is_own_id id || ((id == 0x0E07) || ((kind == 0x000D) && has_object id props))

-- there are more than 1,000 values
abbrev pub is_crowded : List Val → Bool
is_crowded props = nat_lt 1000 (length props)

-- the object has more than 1,000 values, and more than it had
abbrev pub crowds : List Val → List Val → Bool
crowds old new = nat_lt 1000 (length new) && nat_lt (length old) (length new)
