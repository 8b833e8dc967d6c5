use Rattle.std.proofs.Common.{◌≡◌, ◌∙◌, ◌≤◌, ℕ, false, arith, sym, subst}
use Rattle.column_layout.specs.Layout.{is_row_id, is_row_version, precedes}
use Rattle.column_layout.proofs.LayoutLaws.{bit-small}
use Rattle.column_layout.proofs.Sums.{cell-small, widths-small}
use Rattle.column_layout.proofs.places.placed.Goals as goal

pub overflow_add-result : goal.overflow_add-result
overflow_add-result c = omega (arith, widths-small (precedes c.args.column) c.args.columns.now, c.widths_before.ensures, c.from.ensures, c.first_bit-first.ensures.few, c.requires.few)

pub overflow_cast-result : goal.overflow_cast-result
overflow_cast-result c = let small : c.cell_width.result ≤ 8 = subst (λ (n : ℕ). n ≤ 8) (sym c.cell_width.ensures) (cell-small _) in omega arith

pub overflow_add-result-2 : goal.overflow_add-result-2
overflow_add-result-2 c =
    let not_id : is_row_id c.args.column ≡ false = sym c.is_row_id.ensures ∙ c.if-is_row_id.false in
    let not_version : is_row_version c.args.column ≡ false = sym c.is_row_version.ensures ∙ c.if-is_row_version.false in
    omega (arith, bit-small c.args.columns.now c.args.column c.requires.few c.requires.one not_id not_version, c.first_bit-first.ensures.value, c.count_before.ensures)
