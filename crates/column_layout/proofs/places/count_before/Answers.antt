use Rattle.std.proofs.Common.{◌≡◌, ◌∙◌, true, get_or, arith, sym}
use Rattle.column_layout.specs.Layout.{precedes}
use Rattle.column_layout.proofs.Sums.{blank, count-small, count-some}
use Rattle.column_layout.proofs.places.count_before.Goals as goal

pub overflow_add-count : goal.overflow_add-count
overflow_add-count c =
    let cs = c.args.columns.now in let i = c.loop-other.other-index in
    let passes : precedes c.args.column.now (get_or cs i blank) ≡ true = sym c.precedes.ensures ∙ c.if-precedes.true in
    let some = count-some (precedes c.args.column.now) cs i blank (omega arith) passes in
    omega (arith, some, count-small (precedes c.args.column.now) cs, c.loop-other.invariant, c.requires)
