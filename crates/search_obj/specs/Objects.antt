-- What the criteria object of a search says.
use Rattle.std.specs.Prelude.{◌≡◌, ℕ, ◌/◌, ◌%◌, ◌-◌, ◌==◌, ◌&&◌, Bool, true, List, length, map, take, Option, None, Some, if◌then◌else◌}
use Rattle.std.specs.Option.{is_none, option_and_then, option_map}
use Rattle.std.specs.Simd.{first_chunks}
use Rattle.pst_base.specs.Fields.{number_at}
use Rattle.mapi_values.specs.Kinds.{ptyp_binary, ptyp_integer_32, ptyp_string}
use Rattle.mapi_values.specs.Properties.{find}
use Rattle.mapi_values.specs.Values.{Val}
use Rattle.mapi_values.specs.declared.value.Tag.{Tag}
use Rattle.restr_codec.specs.Spelling.{spelling}
use Rattle.search_obj.specs.declared.criteria.Version.{Version}
use Rattle.search_obj.specs.declared.criteria.Version.TheVariants.{First, Second}
use Rattle.search_obj.specs.declared.values.TheConstants.{FIRST_MARK, SECOND_MARK}
use Rattle.search_obj.specs.Flags.{number_of_flags}
use Rattle.search_obj.specs.Crits.{Crit, CritSet, IsSound}

-- the mark of this program's searches
abbrev pub search_mark : Tag
search_mark = record { id = 0x6801; kind = ptyp_string }

-- the flags
abbrev pub search_flags : Tag
search_flags = record { id = 0x6802; kind = ptyp_integer_32 }

-- the folders that were given
abbrev pub search_scope : Tag
search_scope = record { id = 0x6803; kind = ptyp_binary }

-- the restriction
abbrev pub search_restriction : Tag
search_restriction = record { id = 0x6804; kind = ptyp_binary }

-- how often the list was built
abbrev pub search_builds : Tag
search_builds = record { id = 0x6805; kind = ptyp_integer_32 }

-- the text that marks an object of a version
abbrev pub mark : Version → List ℕ
mark First = FIRST_MARK
mark Second = SECOND_MARK

-- the bytes of a value, if it is of this kind
abbrev pub of_kind : ℕ → Val → Option (List ℕ)
of_kind kind v = if v.kind == kind then Some v.bytes else None

-- the bytes of the value with this tag
abbrev pub bytes_at : Tag → List Val → Option (List ℕ)
bytes_at t vs = option_and_then (of_kind t.kind) (find t.id vs)

-- the number in 4 bytes
abbrev pub number_in : List ℕ → ℕ
number_in bytes = number_at 4 0 bytes

-- the number of 4 bytes with this tag
abbrev pub number_with : Tag → List Val → Option ℕ
number_with t vs = option_map number_in (bytes_at t vs)

-- the ids in bytes, 4 for each
abbrev pub ids_of : List ℕ → List ℕ
ids_of bytes = map number_in (first_chunks 4 (length bytes / 4) bytes)

-- the same, if the bytes are whole ids
abbrev pub ids_in : List ℕ → Option (List ℕ)
ids_in bytes = if length bytes % 4 == 0 then Some (ids_of bytes) else None

-- no value has this id, of whatever kind
abbrev pub lacks : ℕ → List Val → Bool
lacks id vs = is_none (find id vs)

-- there is none of the values in which criteria stand
abbrev pub lacks_criteria : List Val → Bool
lacks_criteria vs = lacks search_flags.id vs && (lacks search_scope.id vs && (lacks search_restriction.id vs && lacks search_builds.id vs))

-- how often the list was built: an object of the first version doesn't say it, and means once
abbrev pub SaysBuilds : List Val → Version → ℕ → Type 0
SaysBuilds vs First builds = (lacks search_builds.id vs ≡ true) × (builds ≡ 1)
SaysBuilds vs Second builds = number_with search_builds vs ≡ Some builds

-- each of the criteria stands in its value
pub record SaysSet (vs : List Val) (version : Version) (s : CritSet) : Type 0 where
  pub flags : number_with search_flags vs ≡ Some (number_of_flags s.flags)
  pub scope : option_and_then ids_in (bytes_at search_scope vs) ≡ Some s.scope
  pub restriction : bytes_at search_restriction vs ≡ Some (spelling s.restriction)
  pub builds : SaysBuilds vs version s.builds

-- criteria that weren't set stand in no value
abbrev pub SaysIfSet : List Val → Version → Option CritSet → Type 0
SaysIfSet vs version None = lacks_criteria vs ≡ true
SaysIfSet vs version (Some s) = SaysSet vs version s

-- the bytes of a text's whole units: an odd last byte is no part of it
abbrev pub text_bytes : List ℕ → List ℕ
text_bytes bytes = take (length bytes - length bytes % 2) bytes

-- the text that marks an object, where one does
abbrev pub mark_at : List Val → Option (List ℕ)
mark_at vs = option_map text_bytes (bytes_at search_mark vs)

-- the values are those of an object of a version
abbrev pub IsMarked : List Val → Version → Type 0
IsMarked vs version = mark_at vs ≡ Some (mark version)

-- the values are those of the object of a search with these criteria
pub record Says (vs : List Val) (c : Crit) : Type 0 where
  pub marked : IsMarked vs c.version
  pub set : SaysIfSet vs c.version c.set
  pub sound : IsSound c

-- the object is that of another program's search
abbrev pub IsForeign : List Val → Type 0
IsForeign vs = (version : Version) → IsMarked vs version → ⊥

-- the object is marked, and says no criteria
pub record IsFaulty (vs : List Val) : Type 0 where
  pub own : (version : Version) × IsMarked vs version
  pub says_none : (c : Crit) → Says vs c → ⊥
