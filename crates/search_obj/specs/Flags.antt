-- The flags of a search, and what it does while they stand.
use Rattle.std.specs.Prelude.{ℕ, ◌+◌, ◌*◌, ◌/◌, ◌%◌, ◌==◌, ◌&&◌, Bool, true, false, not, Option, None, Some, if◌then◌else◌}
use Rattle.search_obj.specs.declared.flags.SearchFlags.{SearchFlags}
use Rattle.search_obj.specs.declared.flags.SearchState.{SearchState}
use Rattle.search_obj.specs.declared.flags.SearchState.TheVariants.{Running, Static, Stopped}

-- the flag with this bit stands in a number
abbrev pub has_bit : ℕ → ℕ → Bool
has_bit bit n = n / bit % 2 == 1

-- 1 for a flag that stands
abbrev pub one_if : Bool → ℕ
one_if true = 1
one_if false = 0

-- the number of flags: the bits of those that stand
unfoldable pub number_of_flags : SearchFlags → ℕ
number_of_flags f = one_if f.stop + (2 * one_if f.restart + (4 * one_if f.recursive + (8 * one_if f.shallow
    + (0x10000 * one_if f.content_indexed + (0x20000 * one_if f.non_content_indexed + 0x40000 * one_if f.static_search)))))

-- the flags whose bits stand in a number
unfoldable pub flags_in : ℕ → SearchFlags
flags_in n = record {
  stop = has_bit 1 n;
  restart = has_bit 2 n;
  recursive = has_bit 4 n;
  shallow = has_bit 8 n;
  content_indexed = has_bit 0x10000 n;
  non_content_indexed = has_bit 0x20000 n;
  static_search = has_bit 0x40000 n;
}

-- a search may have these flags: it isn't stopped and restarted at once, nor recursive and shallow
unfoldable pub are_allowed : SearchFlags → Bool
are_allowed f = not (f.stop && f.restart) && not (f.recursive && f.shallow)

-- the flags with this number, if it has no other bits and a search may have them
unfoldable pub flags_of : ℕ → Option SearchFlags
flags_of n = if (number_of_flags (flags_in n) == n) && are_allowed (flags_in n) then Some (flags_in n) else None

-- what a search with these flags does as messages change
unfoldable pub state_of : SearchFlags → SearchState
state_of f = if f.stop then Stopped else if f.static_search then Static else Running
