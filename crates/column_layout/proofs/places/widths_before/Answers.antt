use Rattle.std.proofs.Common.{◌≡◌, ◌∙◌, ◌≤◌, ℕ, true, get_or, arith, sym, subst}
use Rattle.column_layout.specs.Layout.{precedes, width_of}
use Rattle.column_layout.proofs.Sums.{blank, cell-small, widths-small, widths-some}
use Rattle.column_layout.proofs.places.widths_before.Goals as goal

pub overflow_cast-total : goal.overflow_cast-total
overflow_cast-total c = let small : c.cell_width.result ≤ 8 = subst (λ (n : ℕ). n ≤ 8) (sym c.cell_width.ensures) (cell-small _) in omega arith

pub overflow_add-total : goal.overflow_add-total
overflow_add-total c =
    let cs = c.args.columns.now in let i = c.loop-other.other-index in
    let passes : precedes c.args.column.now (get_or cs i blank) ≡ true = sym c.precedes.ensures ∙ c.if-precedes.true in
    let some = widths-some (precedes c.args.column.now) cs i blank (omega arith) passes in
    let same : c.cell_width.result ≡ width_of (get_or cs i blank) = c.cell_width.ensures in
    omega (arith, some, same, widths-small (precedes c.args.column.now) cs, c.loop-other.invariant, c.requires)
