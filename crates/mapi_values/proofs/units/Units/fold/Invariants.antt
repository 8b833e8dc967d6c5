use Rattle.std.proofs.Common.{◌≡◌, length, ◌++◌}
use Rattle.mapi_values.specs.Characters.{folded}
use Rattle.mapi_values.proofs.units.Units.fold.Given as goal

-- what is folded so far, with the rest folded, is all folded
abbrev pub invariant-loop-character : goal.invariant-loop-character
invariant-loop-character l = l.units.items ++ folded l.strip l.rest ≡ folded l.strip l.initial.rest

abbrev pub decreases-loop-character : goal.decreases-loop-character
decreases-loop-character l = length l.rest
