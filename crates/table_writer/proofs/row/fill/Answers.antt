use Rattle.std.proofs.Common.{◌≡◌, ◌+◌, ◌-◌, length, subst, arith, ℕ}
use Rattle.table_writer.specs.Filling.{Filling, Steps}
use Rattle.table_writer.proofs.RowFillLaws.{cells-rest, filling-done, filling-step, long-rest}
use Rattle.table_writer.proofs.row.fill.Goals as goal

pub fill_column-requires-clause-inside : goal.fill_column-requires-clause-inside
fill_column-requires-clause-inside c = omega (arith, c.columns.invariant.inside, c.columns-test.true)

pub fill_column-requires-clause-light : goal.fill_column-requires-clause-light
fill_column-requires-clause-light c = omega (arith, c.columns.invariant.weighs, cells-rest c.args.cells.now c.columns.j, c.requires.light)

pub fill_column-requires-clause-few : goal.fill_column-requires-clause-few
fill_column-requires-clause-few c = omega (arith, c.columns.invariant.count, long-rest c.args.cells.now c.columns.j, c.requires.few)

pub columns-preserved : goal.columns-preserved
columns-preserved c =
    let third = length c.args.front.now in
    let back : c.columns.i ≡ c.columns.i - 1 + 1 = omega (arith, c.columns-test.true) in
    let f : Filling c.args.made c.columns.made (length c.args.front.now) c.args.count c.args.columns.now c.args.id c.args.cells.now (c.columns.i - 1 + 1) c.columns.j c.columns.front c.columns.marks =
    subst (λ (k : ℕ). Filling c.args.made c.columns.made (length c.args.front.now) c.args.count c.args.columns.now c.args.id c.args.cells.now k c.columns.j c.columns.front c.columns.marks) back c.columns.invariant in
    filling-step c.args.made c.columns.made c.in_ok-made.field-0-0 (length c.args.front.now) c.args.count c.args.columns.now c.args.id c.args.cells.now (c.columns.i - 1) c.columns.j c.in_ok-made.field-0-1 c.columns.front c.fill_column.new.front
    c.columns.marks c.fill_column.new.marks f c.in_ok-made.ensures.made
    (subst (λ (k : ℕ). Steps c.columns.made c.in_ok-made.field-0-0 k c.args.count c.args.columns.now c.args.id c.args.cells.now (c.columns.i - 1) c.columns.j c.in_ok-made.field-0-1 c.columns.front c.fill_column.new.front c.columns.marks c.fill_column.new.marks)
    c.columns.invariant.filled.front_size c.in_ok-made.ensures.steps)

pub returns-clause-fills : goal.returns-clause-fills
returns-clause-fills c =
    filling-done c.args.made c.columns.made (length c.args.front.now) c.args.count c.args.columns.now c.args.id c.args.cells.now c.columns.i c.columns.j c.columns.front c.columns.marks c.columns.invariant (omega (arith, c.columns-test.false))
