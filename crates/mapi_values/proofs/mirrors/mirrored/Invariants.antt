use Rattle.std.proofs.Common.{◌≡◌, ◌++◌, drop}
use Rattle.std.specs.List.{filter}
use Rattle.mapi_values.specs.Tables.{is_mirrored}
use Rattle.mapi_values.proofs.mirrors.mirrored.Given as goal

-- the cells so far, with those of the rest, are all
abbrev pub invariant-loop-value : goal.invariant-loop-value
invariant-loop-value l = l.cells.items ++ filter (is_mirrored l.columns) (drop l.value-index l.value-items) ≡ filter (is_mirrored l.columns) l.value-items
