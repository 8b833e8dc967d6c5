use Rattle.std.proofs.Common.{◌≡◌, ◌+◌, ◌-◌, ◌*◌, ◌++◌}
use Rattle.table_context.specs.Header.{columns_at}
use Rattle.table_context.proofs.header.columns_from.Given as goal

-- the columns so far, with those of the rest, are all
abbrev pub invariant-loop-i : goal.invariant-loop-i
invariant-loop-i l = l.columns.items ++ columns_at (l.count - l.i) (22 + 8 * l.i) l.x ≡ columns_at l.count 22 l.x
