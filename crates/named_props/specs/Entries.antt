-- The entries of the names of properties, and the bytes that they have.
use Rattle.std.specs.Prelude.{ℕ, ◌+◌, ◌*◌, ◌/◌, ◌%◌, ◌^◌, ◌==◌, ◌&&◌, ◌++◌, Bool, List, length, map, nat_le, nat_lt, Option, None, Some, if◌then◌else◌}
use Rattle.std.specs.List.{list_all}
use Rattle.std.specs.Simd.{first_chunks}
use Rattle.byteorder.specs.Endian.{little_bytes}
use Rattle.pst_base.specs.Fields.{number_at}
use Rattle.named_props.specs.declared.entry.NameEntry.{NameEntry}

-- the greatest index that a property may have
abbrev pub greatest_index : ℕ
greatest_index = 32766

-- the greatest index that a GUID may have
abbrev pub greatest_guid : ℕ
greatest_guid = 32767

-- both indices of an entry are ones that a name may have
abbrev pub in_range : NameEntry → Bool
in_range e = nat_le e.guid greatest_guid && nat_le e.index greatest_index

-- the id of an entry has 4 bytes
abbrev pub fits_id : NameEntry → Bool
fits_id e = nat_lt e.id (2 ^ 32)

-- the entry in 8 bytes: its id (4), a word whose bit 0 says that the id is the place of a string and whose other bits are the index of the GUID (2), the index of the property (2)
unfoldable pub entry_of : List ℕ → NameEntry
entry_of b = record { id = number_at 4 0 b; string = number_at 2 4 b % 2 == 1; guid = number_at 2 4 b / 2; index = number_at 2 6 b }

-- the word of an entry
abbrev pub word_of : NameEntry → ℕ
word_of e = 2 * e.guid + (if e.string then 1 else 0)

-- the 8 bytes of an entry
unfoldable pub bytes_of : NameEntry → List ℕ
bytes_of e = little_bytes 4 e.id ++ (little_bytes 2 (word_of e) ++ little_bytes 2 e.index)

-- the GUIDs in bytes, 16 for each
abbrev pub guids_of : List ℕ → List (List ℕ)
guids_of bytes = first_chunks 16 (length bytes / 16) bytes

-- the entries in bytes, 8 for each
abbrev pub entries_of : List ℕ → List NameEntry
entries_of bytes = map entry_of (first_chunks 8 (length bytes / 8) bytes)

-- the entries, unless an index of one is above the greatest
abbrev pub all_in_range : List NameEntry → Option (List NameEntry)
all_in_range es = if list_all in_range es then Some es else None
