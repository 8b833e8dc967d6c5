-- What a line of criteria makes of a search.
use Rattle.std.specs.Prelude.{ℕ, ◌+◌, List, min, Option, None, Some, if◌then◌else◌}
use Rattle.std.specs.Option.{option_and_then, option_map}
use Rattle.restr_codec.specs.Restr.{Restr}
use Rattle.search_obj.specs.declared.criteria.Version.TheVariants.{Second}
use Rattle.search_obj.specs.declared.flags.SearchFlags.{SearchFlags}
use Rattle.search_obj.specs.declared.flags.SearchState.{SearchState}
use Rattle.search_obj.specs.Flags.{state_of}
use Rattle.search_obj.specs.Crits.{Crit, CritSet}
use Rattle.search_obj.specs.Found.{set_with}

-- the criteria of a new search
abbrev pub unset : Crit
unset = record { version = Second; set = None }

-- the same criteria in an object of the second version
abbrev pub migrated : Crit → Crit
migrated c = record { version = Second; set = c.set }

-- what the search does as messages change, if it has criteria
abbrev pub state_in : Crit → Option SearchState
state_in c = option_map (λ s. state_of s.flags) c.set

-- how often the list was built: never where nothing was set
abbrev pub builds_before : Option CritSet → ℕ
builds_before None = 0
builds_before (Some s) = s.builds

-- the greatest number of builds that is told
abbrev pub most_builds : ℕ
most_builds = 2147483647

-- how often it was built after a line with these flags: the line builds it once more, unless it stops the search
unfoldable pub builds_after : SearchFlags → ℕ → ℕ
builds_after flags builds = if flags.stop then builds else min (builds + 1) most_builds

-- what a line gives, or else what stands, if anything was set
abbrev pub given_or_kept : {A : Type 0} → (CritSet → A) → Option CritSet → Option A → Option A
given_or_kept part set None = option_map part set
given_or_kept part set (Some x) = Some x

-- the criteria after a line: its flags, its scope and its restriction, of which those that it doesn't give are kept; none where something is kept and nothing was set
unfoldable pub changed : Crit → SearchFlags → Option (List ℕ) → Option Restr → Option Crit
changed c flags scope restriction = option_and_then (λ ids. option_map (λ r. record { version = Second; set = Some (set_with flags ids r (builds_after flags (builds_before c.set))) })
    (given_or_kept (λ s. s.restriction) c.set restriction)) (given_or_kept (λ s. s.scope) c.set scope)
