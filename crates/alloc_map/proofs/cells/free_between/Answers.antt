use Rattle.std.proofs.Common.{arith, cond, length, ◌≡◌, ◌≤◌, ◌*◌, ◌+◌, ◌/◌, ◌%◌}
use Rattle.alloc_map.proofs.CellLaws.{below_small, cell_more}
use Rattle.alloc_map.proofs.cells.free_between.Goals as goal
use Rattle.alloc_map.proofs.cells.free_between.Goals.{then-are_clear, else-are_clear}

pub overflow_add-free : goal.overflow_add-free
overflow_add-free c = omega (arith, c.loop-cell.invariant, below_small c.args.bits.now c.loop-cell.cell)

pub loop-cell-preserved : goal.loop-cell-preserved
loop-cell-preserved c =
    let used = c.args.bits.now in
    let cell = c.loop-cell.cell in
    let byte = (3968 * (cell / 30) + 32 + 128 * (cell % 30)) / 8 in
    let within : 8 * byte + 128 ≤ length used = omega arith in
    let new : c.if-are_clear.free ≡ c.loop-cell.free + cond c.are_clear.result 1 0 = elim c.if-are_clear.branch [
      | then-are_clear w ↦ rw w.if-are_clear.true w.free-is
      | else-are_clear w ↦ rw w.if-are_clear.false (omega (arith, w.free-is))
    ] in
    cell_more used c.args.from cell byte c.loop-cell.free c.if-are_clear.free c.are_clear.result (omega arith) within c.are_clear.ensures c.loop-cell.invariant new
