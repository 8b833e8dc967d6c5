use Rattle.std.proofs.Common.{◌≡◌, length}
use Rattle.mapi_values.specs.Columns.{all_apart}
use Rattle.mapi_values.proofs.column.all_apart.Given as goal

-- what is left decides
abbrev pub invariant-loop-first : goal.invariant-loop-first
invariant-loop-first l = all_apart l.rest ≡ all_apart l.columns

abbrev pub decreases-loop-first : goal.decreases-loop-first
decreases-loop-first l = length l.rest
