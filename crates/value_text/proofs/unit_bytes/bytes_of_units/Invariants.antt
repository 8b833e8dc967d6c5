use Rattle.std.proofs.Common.{◌≡◌, ◌++◌, drop}
use Rattle.value_text.specs.UnitBytes.{units_bytes}
use Rattle.value_text.proofs.unit_bytes.bytes_of_units.Given as goal

-- the bytes so far, with those of the rest, are all
abbrev pub invariant-loop-unit : goal.invariant-loop-unit
invariant-loop-unit l = l.bytes.items ++ units_bytes (drop l.unit-index l.unit-items) ≡ units_bytes l.unit-items
