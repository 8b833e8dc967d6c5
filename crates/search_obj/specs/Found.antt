-- How criteria are found in the values of an object.
use Rattle.std.specs.Prelude.{ℕ, ◌^◌, List, nat_lt, Option, None, Some, Result, Ok, Err, if◌then◌else◌}
use Rattle.std.specs.Option.{option_and_then, option_map}
use Rattle.std.specs.Str.{bytes_eq}
use Rattle.pst_base.specs.declared.stops.MemOr.{MemOr}
use Rattle.pst_base.specs.declared.stops.MemOr.TheVariants.{Memory, Refused}
use Rattle.mapi_values.specs.Values.{Val}
use Rattle.restr_codec.specs.Restr.{Restr}
use Rattle.restr_codec.specs.Reading.{reading}
use Rattle.search_obj.specs.declared.criteria.Version.{Version}
use Rattle.search_obj.specs.declared.criteria.Version.TheVariants.{First, Second}
use Rattle.search_obj.specs.declared.flags.SearchFlags.{SearchFlags}
use Rattle.search_obj.specs.declared.values.TheConstants.{FIRST_MARK, SECOND_MARK}
use Rattle.search_obj.specs.Flags.{flags_of}
use Rattle.search_obj.specs.Crits.{Crit, CritSet, suits}
use Rattle.search_obj.specs.Objects.{IsForeign, IsFaulty, Says, bytes_at, ids_in, lacks, lacks_criteria, mark_at, number_with, search_builds, search_flags, search_restriction, search_scope}

-- the version with this mark
abbrev pub version_marked : List ℕ → Option Version
version_marked bytes = if bytes_eq bytes FIRST_MARK then Some First else if bytes_eq bytes SECOND_MARK then Some Second else None

-- the version of the object, if it is one of this program
unfoldable pub version_found : List Val → Option Version
version_found vs = option_and_then version_marked (mark_at vs)

-- the flags
unfoldable pub flags_found : List Val → Option SearchFlags
flags_found vs = option_and_then flags_of (number_with search_flags vs)

-- the folders that were given
unfoldable pub scope_found : List Val → Option (List ℕ)
scope_found vs = option_and_then ids_in (bytes_at search_scope vs)

-- what was read, if there was no fault
abbrev pub if_read : {A E : Type 0} → Result A E → Option A
if_read (Ok r) = Some r
if_read (Err fault) = None

-- the restriction
unfoldable pub restriction_found : List Val → Option Restr
restriction_found vs = option_and_then (λ bytes. if_read (reading bytes)) (bytes_at search_restriction vs)

-- the number, if it isn't negative
abbrev pub if_positive : ℕ → Option ℕ
if_positive n = if nat_lt n (2 ^ 31) then Some n else None

-- how often the list was built
abbrev pub builds_in : Version → List Val → Option ℕ
builds_in First vs = if lacks search_builds.id vs then Some 1 else None
builds_in Second vs = option_and_then if_positive (number_with search_builds vs)

unfoldable pub builds_found : Version → List Val → Option ℕ
builds_found version vs = builds_in version vs

-- criteria, if an object of the version can hold them
abbrev pub if_suits : Version → CritSet → Option CritSet
if_suits version s = if suits version (Some s) then Some s else None

-- the criteria with these parts
abbrev pub set_with : SearchFlags → List ℕ → Restr → ℕ → CritSet
set_with flags scope restriction builds = record { flags = flags; scope = scope; restriction = restriction; builds = builds }

-- what was set
unfoldable pub set_found : Version → List Val → Option CritSet
set_found version vs = option_and_then (λ flags. option_and_then (λ scope. option_and_then (λ restriction. option_and_then
    (λ builds. if_suits version (set_with flags scope restriction builds)) (builds_found version vs)) (restriction_found vs)) (scope_found vs)) (flags_found vs)

-- the criteria of the object of a version
unfoldable pub crit_found : Version → List Val → Option Crit
crit_found version vs = if lacks_criteria vs then Some (record { version = version; set = None })
    else option_map (λ s. record { version = version; set = Some s }) (set_found version vs)

-- what a reading tells: no criteria of another program's search, or those of one of this program
abbrev pub Tells : List Val → Option Crit → Type 0
Tells vs None = IsForeign vs
Tells vs (Some c) = Says vs c

-- a refusal comes of a faulty object alone
abbrev pub StopsAtFault : {F : Type 0} → List Val → MemOr F → Type 0
StopsAtFault vs Memory = Unit {0}
StopsAtFault vs (Refused fault) = IsFaulty vs
