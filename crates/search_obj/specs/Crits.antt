-- The criteria of a search.
use Rattle.std.specs.Prelude.{ℕ, ◌*◌, ◌^◌, ◌<◌, ◌==◌, ◌&&◌, Bool, IsTrue, true, not, List, length, Option, None, Some}
use Rattle.restr_codec.specs.Restr.{Restr}
use Rattle.restr_codec.specs.Spelling.{has_spelling, spelling}
use Rattle.search_obj.specs.declared.flags.SearchFlags.{SearchFlags}
use Rattle.search_obj.specs.declared.criteria.Version.{Version}
use Rattle.search_obj.specs.declared.criteria.Version.TheVariants.{First, Second}
use Rattle.search_obj.specs.Flags.{are_allowed}

-- how a search is done, the folders that it is given, what it asks of a message, and how often its list was built
pub record CritSet : Type 0 where
  pub flags : SearchFlags
  pub scope : List ℕ
  pub restriction : Restr
  pub builds : ℕ

-- the version of the object, and the criteria, if they were set
pub record Crit : Type 0 where
  pub version : Version
  pub set : Option CritSet

-- criteria that an object can hold: flags that a search may have, a restriction that can be written, values that are short enough, and builds that aren't negative
pub record IsSoundSet (flags : SearchFlags) (scope : List ℕ) (restriction : Restr) (builds : ℕ) : Type 0 where
  pub allowed : IsTrue (are_allowed flags)
  pub scope_fits : 4 * length scope < 2 ^ 32
  pub spelled : IsTrue (has_spelling restriction)
  pub restriction_fits : length (spelling restriction) < 2 ^ 32
  pub builds_fit : builds < 2 ^ 31

-- an object of the version can hold the criteria: the first has no searches that are stopped or static, and counts as built once
abbrev pub suits : Version → Option CritSet → Bool
suits First (Some s) = not s.flags.stop && (not s.flags.static_search && (s.builds == 1))
suits First None = true
suits Second set = true

-- the criteria, if they were set, are ones that an object can hold
abbrev pub IsSoundIfSet : Option CritSet → Type 0
IsSoundIfSet None = IsTrue true
IsSoundIfSet (Some s) = IsSoundSet s.flags s.scope s.restriction s.builds

-- an object can hold these
pub record IsSound (c : Crit) : Type 0 where
  pub set : IsSoundIfSet c.set
  pub suits : IsTrue (suits c.version c.set)
