-- How the values of a node hold the names of properties.
use Rattle.std.specs.Prelude.{ℕ, ◌*◌, ◌%◌, ◌^◌, ◌<◌, ◌==◌, ◌&&◌, Bool, IsTrue, not, List, [], length, nat_le, Option, None, Some, if◌then◌else◌, ◌||◌}
use Rattle.std.specs.List.{flat_map, list_all}
use Rattle.mapi_values.specs.Kinds.{ptyp_binary}
use Rattle.mapi_values.specs.Properties.{find, put, remove_id}
use Rattle.mapi_values.specs.Tags.{pid_tag_nameid_stream_entry, pid_tag_nameid_stream_guid}
use Rattle.mapi_values.specs.Values.{Val}
use Rattle.named_props.specs.declared.names.Names.{Names}
use Rattle.named_props.specs.Entries.{bytes_of, entries_of, guids_of, in_range}

-- the id of the stream of GUIDs, or of that of entries
abbrev pub is_stream : ℕ → Bool
is_stream id = (id == pid_tag_nameid_stream_guid.id) || (id == pid_tag_nameid_stream_entry.id)

-- the id of one of the 251 buckets
abbrev pub is_bucket : ℕ → Bool
is_bucket id = nat_le 0x1000 id && nat_le id 0x10FA

-- a value is binary if its id is one of these
abbrev pub is_binary_if : (ℕ → Bool) → Val → Bool
is_binary_if ids v = not (ids v.id) || (v.kind == ptyp_binary)

-- each bucket is binary
abbrev pub binary_buckets : List Val → Bool
binary_buckets vs = list_all (is_binary_if is_bucket) vs

-- the bytes of a value that may be there
abbrev pub bytes_or_none : Option Val → List ℕ
bytes_or_none None = []
bytes_or_none (Some v) = v.bytes

-- the bytes of the value with this id, none where there is no such value
abbrev pub bytes_at : ℕ → List Val → List ℕ
bytes_at id vs = bytes_or_none (find id vs)

-- the binary value of this id and these bytes
abbrev pub binary : ℕ → List ℕ → Val
binary number bs = record { id = number; kind = ptyp_binary; bytes = bs }

-- the bytes of the stream of GUIDs
abbrev pub guid_stream : List Val → List ℕ
guid_stream vs = bytes_at pid_tag_nameid_stream_guid.id vs

-- the bytes of the stream of entries
abbrev pub entry_stream : List Val → List ℕ
entry_stream vs = bytes_at pid_tag_nameid_stream_entry.id vs

-- values of the form that names have: streams and buckets are binary, the streams are whole GUIDs and whole entries, and each entry has indices that a name may have
unfoldable pub is_form : List Val → Bool
is_form vs = list_all (is_binary_if (λ id. is_stream id || is_bucket id)) vs
    && ((length (guid_stream vs) % 16 == 0) && ((length (entry_stream vs) % 8 == 0) && list_all in_range (entries_of (entry_stream vs))))

-- the names that such values hold: what the streams say, and the other values
abbrev pub names_in : List Val → Names
names_in vs = record {
  guids = guids_of (guid_stream vs);
  entries = entries_of (entry_stream vs);
  props = remove_id pid_tag_nameid_stream_entry.id (remove_id pid_tag_nameid_stream_guid.id vs);
}

-- the names that values hold, if they have the form
unfoldable pub names_of : List Val → Option Names
names_of vs = if is_form vs then Some (names_in vs) else None

-- names that can be written: buckets are binary, the streams aren't among the other values, and each stream is short enough to be a value
pub record IsWritable (n : Names) : Type 0 where
  pub buckets : IsTrue (binary_buckets n.props)
  pub others : IsTrue (list_all (λ v. not (is_stream v.id)) n.props)
  pub guids_fit : 16 * length n.guids < 2 ^ 32
  pub entries_fit : 8 * length n.entries < 2 ^ 32

-- the values that hold names, as they are written: both streams and the other values
unfoldable pub written : Names → List Val
written n = put (binary pid_tag_nameid_stream_guid.id (flat_map (λ g. g) n.guids))
    (put (binary pid_tag_nameid_stream_entry.id (flat_map bytes_of n.entries)) n.props)
