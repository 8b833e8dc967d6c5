use Rattle.std.proofs.Common.{ℕ, arith, length, get_or, refl, subst}
use Rattle.row_edit.specs.Cells.{FillsColumn}
use Rattle.table_writer.specs.Filling.{no_column}
use Rattle.row_edit.proofs.FillLaws.{filled-step}
use Rattle.row_edit.proofs.lay.fill.Goals as goal

pub fill_column-requires-clause-clear : goal.fill_column-requires-clause-clear
fill_column-requires-clause-clear c = c.loop-i.invariant.clear c.loop-i.i (omega arith) c.loop-i-test.true

pub loop-i-preserved : goal.loop-i-preserved
loop-i-preserved c =
    filled-step (length c.args.front.now) c.args.count c.args.id c.args.values.now c.args.columns.now c.args.ids.now c.loop-i.i (get_or c.args.ids.now c.loop-i.i 0) c.loop-i.front c.fill_column.new.front c.loop-i.marks c.fill_column.new.marks
    c.requires.suited c.loop-i-test.true refl c.loop-i.invariant
    (subst (λ (k : ℕ). FillsColumn k c.args.count c.args.id (get_or c.args.ids.now c.loop-i.i 0) c.args.values.now (get_or c.args.columns.now c.loop-i.i no_column) c.loop-i.front c.fill_column.new.front c.loop-i.marks c.fill_column.new.marks)
    c.loop-i.invariant.front_size c.fill_column.ensures)
