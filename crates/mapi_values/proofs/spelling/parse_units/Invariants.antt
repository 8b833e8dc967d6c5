use Rattle.std.proofs.Common.{length}
use Rattle.std.specs.Str.Iter.{chars_rest}
use Rattle.mapi_values.proofs.SpellingLaws.{IsUnderway}
use Rattle.mapi_values.proofs.spelling.parse_units.Given as goal

abbrev pub invariant-loop-character : goal.invariant-loop-character
invariant-loop-character l = IsUnderway l.text l.units.items (chars_rest l.rest)

abbrev pub decreases-loop-character : goal.decreases-loop-character
decreases-loop-character l = length (chars_rest l.rest)
