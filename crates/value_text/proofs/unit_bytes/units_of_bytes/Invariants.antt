use Rattle.std.proofs.Common.{◌≡◌, ◌++◌, length}
use Rattle.value_text.specs.UnitBytes.{units_in}
use Rattle.value_text.proofs.unit_bytes.units_of_bytes.Given as goal

-- the units so far, with those of the rest, are all
abbrev pub invariant-loop-rest : goal.invariant-loop-rest
invariant-loop-rest l = l.units.items ++ units_in l.rest ≡ units_in l.bytes

abbrev pub decreases-loop-rest : goal.decreases-loop-rest
decreases-loop-rest l = length l.rest
