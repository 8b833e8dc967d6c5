use Rattle.std.proofs.Common.{◌≡◌, drop}
use Rattle.mapi_values.specs.Properties.{ascend_from}
use Rattle.table_context.proofs.cells.values_ascend.Given as goal

-- what is left decides, from the last id on
abbrev pub invariant-loop-value : goal.invariant-loop-value
invariant-loop-value l = ascend_from l.low (drop l.value-index l.values) ≡ ascend_from 0 l.values
