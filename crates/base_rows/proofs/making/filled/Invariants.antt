use Rattle.std.proofs.Common.{◌≤◌, ◌+◌, length}
use Rattle.base_rows.proofs.making.filled.Given as goal

abbrev pub invariant-loop-added : goal.invariant-loop-added
invariant-loop-added l = length l.maker ≤ l.added + 1
