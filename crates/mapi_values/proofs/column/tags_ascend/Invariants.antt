use Rattle.std.proofs.Common.{◌≡◌, drop}
use Rattle.mapi_values.specs.Columns.{tag_number}
use Rattle.mapi_values.specs.Keyed.{keys_ascend}
use Rattle.mapi_values.proofs.column.tags_ascend.Given as goal

-- what is left decides, from the last tag on
abbrev pub invariant-loop-column : goal.invariant-loop-column
invariant-loop-column l = keys_ascend tag_number l.low (drop l.column-index l.columns) ≡ keys_ascend tag_number 0 l.columns
