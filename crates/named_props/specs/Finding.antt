-- Which name a property has.
use Rattle.std.specs.Prelude.{ℕ, ◌+◌, ◌-◌, ◌==◌, ◌&&◌, Bool, false, not, List, length, nat_lt, Option, None, Some, if◌then◌else◌}
use Rattle.std.specs.List.{find, list_all, list_any, slice_get}
use Rattle.std.specs.Option.{option_map}
use Rattle.std.specs.Str.{bytes_eq}
use Rattle.named_props.specs.declared.entry.NameEntry.{NameEntry}
use Rattle.named_props.specs.declared.guids.TheConstants.{PS_MAPI, PS_PUBLIC_STRINGS}

-- the GUID with an index: none with 0, then the two that every file knows, and those of the stream from 3 on
unfoldable pub guid_at : List (List ℕ) → ℕ → Option (List ℕ)
guid_at guids i = if i == 0 then None else if i == 1 then Some PS_MAPI else if i == 2 then Some PS_PUBLIC_STRINGS else slice_get guids (i - 3)

-- there is a GUID, and it is this one
abbrev pub is_guid : List ℕ → Option (List ℕ) → Bool
is_guid guid None = false
is_guid guid (Some g) = bytes_eq g guid

-- the entry is that of the number id under a GUID
unfoldable pub is_named : List (List ℕ) → List ℕ → ℕ → NameEntry → Bool
is_named guids guid id e = not e.string && ((e.id == id) && is_guid guid (guid_at guids e.guid))

-- the id of the property of an entry
abbrev pub property_of : NameEntry → ℕ
property_of e = 0x8000 + e.index

-- the property whose name is the number id under a GUID: that of the first such entry
abbrev pub name_at : List (List ℕ) → List NameEntry → List ℕ → ℕ → Option ℕ
name_at guids entries guid id = option_map property_of (find (is_named guids guid id) entries)

-- some name, of a number or of a string, is that of this property
abbrev pub is_property_named : List NameEntry → ℕ → Bool
is_property_named entries property = list_any (λ e. property_of e == property) entries

-- each entry names no GUID, or one that has the index
abbrev pub guids_known : List (List ℕ) → List NameEntry → Bool
guids_known guids entries = list_all (λ e. nat_lt e.guid (3 + length guids)) entries
