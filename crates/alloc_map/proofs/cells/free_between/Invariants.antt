use Rattle.std.proofs.Common.{◌≡◌, ◌+◌}
use Rattle.alloc_map.specs.Cells.{free_below}
use Rattle.alloc_map.proofs.cells.free_between.Given as goal

-- the free cells of those that were passed are counted
abbrev pub invariant-loop-cell : goal.invariant-loop-cell
invariant-loop-cell l = free_below l.bits l.from + l.free ≡ free_below l.bits l.cell
