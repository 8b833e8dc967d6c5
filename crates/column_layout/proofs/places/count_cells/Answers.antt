use Rattle.std.proofs.Common.{◌≡◌, ◌∙◌, true, get_or, arith, sym}
use Rattle.column_layout.specs.Layout.{within_group}
use Rattle.column_layout.proofs.Sums.{blank, count-small, count-some}
use Rattle.column_layout.proofs.places.count_cells.Goals as goal

pub overflow_add-count : goal.overflow_add-count
overflow_add-count c =
    let cs = c.args.columns.now in let i = c.loop-column.column-index in
    let passes : within_group 2 (get_or cs i blank) ≡ true = sym c.is_within.ensures ∙ c.if-is_within.true in
    let some = count-some (within_group 2) cs i blank (omega arith) passes in
    omega (arith, some, count-small (within_group 2) cs, c.loop-column.invariant, c.requires)
