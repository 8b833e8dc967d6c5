-- The values of a criteria object with its criteria.
use Rattle.std.specs.Prelude.{ℕ, ◌^◌, ◌==◌, Bool, true, nat_lt, List, Option, None, Some, ◌||◌}
use Rattle.std.specs.List.{flat_map, list_all}
use Rattle.byteorder.specs.Endian.{little_bytes}
use Rattle.mapi_values.specs.Properties.{put, remove_id}
use Rattle.mapi_values.specs.Values.{Val}
use Rattle.mapi_values.specs.declared.value.Tag.{Tag}
use Rattle.restr_codec.specs.Spelling.{spelling}
use Rattle.search_obj.specs.declared.criteria.Version.{Version}
use Rattle.search_obj.specs.declared.criteria.Version.TheVariants.{First, Second}
use Rattle.search_obj.specs.Flags.{number_of_flags}
use Rattle.search_obj.specs.Crits.{Crit, CritSet}
use Rattle.search_obj.specs.Objects.{mark, search_builds, search_flags, search_mark, search_restriction, search_scope}

-- the value with this tag
abbrev pub value_of : Tag → List ℕ → Val
value_of t bytes = record { id = t.id; kind = t.kind; bytes = bytes }

-- the value of 4 bytes with this tag
abbrev pub number_value : Tag → ℕ → Val
number_value t n = value_of t (little_bytes 4 n)

-- the bytes of ids, 4 for each
abbrev pub id_bytes : List ℕ → List ℕ
id_bytes ids = flat_map (little_bytes 4) ids

-- the values with the number of builds, as an object of the version has it
abbrev pub with_builds : Version → ℕ → List Val → List Val
with_builds First builds vs = remove_id search_builds.id vs
with_builds Second builds vs = put (number_value search_builds builds) vs

-- the values with what was set, if anything was
abbrev pub with_set : Version → Option CritSet → List Val → List Val
with_set version None vs = remove_id search_builds.id (remove_id search_restriction.id (remove_id search_scope.id (remove_id search_flags.id vs)))
with_set version (Some s) vs = with_builds version s.builds (put (value_of search_restriction (spelling s.restriction))
    (put (value_of search_scope (id_bytes s.scope)) (put (number_value search_flags (number_of_flags s.flags)) vs)))

-- the values with criteria, as they are written
unfoldable pub written : Crit → List Val → List Val
written c vs = put (value_of search_mark (mark c.version)) (with_set c.version c.set vs)

-- the id of a value in which criteria stand, or their mark
abbrev pub is_criteria_id : ℕ → Bool
is_criteria_id id = (id == search_mark.id) || ((id == search_flags.id) || ((id == search_scope.id) || ((id == search_restriction.id) || (id == search_builds.id))))

-- an id has 4 bytes
abbrev pub is_id : ℕ → Bool
is_id id = nat_lt id (2 ^ 32)

-- the ids in the scope have 4 bytes each, if a scope was set
abbrev pub are_ids : Option CritSet → Bool
are_ids None = true
are_ids (Some s) = list_all is_id s.scope
