use Rattle.std.proofs.Common.{◌∙◌, ◌-◌, ap, arith, length, length-append, replicate, ℕ}
use Rattle.std.specs.List.{concat}
use Rattle.std.proofs.lemmas.List.{length-replicate}
use Rattle.std.proofs.lemmas.Nat.{le-div, mul-le}
use Rattle.table_writer.proofs.MatrixLaws.{item-rows, length-rows, no-rows, sub-rows}
use Rattle.table_writer.proofs.write.put_matrix.Goals as goal

pub returns-then-rows-eq0-clause-puts : goal.returns-then-rows-eq0-clause-puts
returns-then-rows-eq0-clause-puts c = no-rows c.args.made c.args.size c.args.rows.now c.requires.made c.if-rows-eq0.true

pub put_item-requires-clause-size : goal.put_item-requires-clause-size
put_item-requires-clause-size c =
    omega (
      arith,
      ap length c.as_slice.ensures.value,
      ap length c.in_ok-bytes.ensures,
      length-append (concat c.args.rows.now) (replicate (0 - length (concat c.args.rows.now)) 0),
      length-replicate {A = ℕ} (0 - length (concat c.args.rows.now)) 0,
      length-rows c.args.size c.args.rows.now c.requires.sizes,
      c.if-rows-size-le3580.true,
    )

pub matrix_blocks-requires : goal.matrix_blocks-requires
matrix_blocks-requires c = le-div 1 8176 c.args.size (omega (arith, c.requires.low)) (omega (arith, c.requires.high))

pub overflow_mul-rows : goal.overflow_mul-rows
overflow_mul-rows c = omega (arith, mul-le (length c.args.rows.now) c.args.size 500000 8176 c.requires.count c.requires.high)

pub returns-then-rows-size-le3580-clause-puts : goal.returns-then-rows-size-le3580-clause-puts
returns-then-rows-size-le3580-clause-puts c =
    item-rows c.put_item.result c.args.made c.args.size c.args.rows.now c.as_slice.result.now (replicate (0 - length (concat c.args.rows.now)) 0) c.requires.sizes (c.as_slice.ensures.value ∙ c.in_ok-bytes.ensures)
    (omega (
      arith,
      ap length c.as_slice.ensures.value,
      ap length c.in_ok-bytes.ensures,
      length-append (concat c.args.rows.now) (replicate (0 - length (concat c.args.rows.now)) 0),
      length-replicate {A = ℕ} (0 - length (concat c.args.rows.now)) 0,
      length-rows c.args.size c.args.rows.now c.requires.sizes,
    ))
    c.if-rows-size-le3580.true c.requires.made c.put_item.ensures.made c.put_item.ensures.adds c.put_item.ensures.subs c.put_item.ensures.singles

pub returns-clause-puts : goal.returns-clause-puts
returns-clause-puts c =
    sub-rows c.put_sub.result c.args.made c.args.size c.args.rows.now c.in_ok-matrix_blocks.field-0 (λ n lt. c.in_ok-matrix_blocks.ensures.rows c.args.size c.requires.sizes n lt) c.in_ok-matrix_blocks.ensures.count c.if-rows-size-le3580.false
    c.put_sub.ensures.made c.put_sub.ensures.adds c.put_sub.ensures.maker c.put_sub.ensures.singles
