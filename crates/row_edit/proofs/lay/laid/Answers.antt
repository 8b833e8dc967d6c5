use Rattle.std.proofs.Common.{◌≡◌, ◌∙◌, ◌-◌, ◌*◌, ◌++◌, length, length-append, take, drop, ap, arith, ℕ, List, Bool, replicate, false}
use Rattle.std.proofs.lemmas.List.{length-replicate, take_at}
use Rattle.table_writer.specs.Bits.{bits}
use Rattle.table_writer.proofs.RowFillLaws.{layout-rises, length-bits, suited}
use Rattle.row_edit.proofs.lay.laid.Goals as goal

pub overflow_sub-count : goal.overflow_sub-count
overflow_sub-count c = omega (arith, layout-rises c.args.columns.now c.args.ends.now c.requires.layout, c.from-third.ensures, c.from-fourth.ensures)

pub fill-requires-clause-suited : goal.fill-requires-clause-suited
fill-requires-clause-suited c =
    let len : length c.as_mut_slice.result.now ≡ c.from-third.result = ap length (c.as_mut_slice.ensures.value ∙ c.in_ok-row.ensures) ∙ length-replicate {A = ℕ} c.from-third.result 0 in
    suited c.args.columns.now c.args.ends.now c.args.values.now (length c.as_mut_slice.result.now) (c.from-fourth.result - c.from-third.result) c.requires.layout c.requires.suit
    (omega (arith, len, c.from-third.ensures)) (omega (arith, len, layout-rises c.args.columns.now c.args.ends.now c.requires.layout, c.from-third.ensures, c.from-fourth.ensures))

pub returns-clause-size : goal.returns-clause-size
returns-clause-size c =
    let zeros : c.as_mut_slice.result.now ≡ replicate c.from-third.result 0 = c.as_mut_slice.ensures.value ∙ c.in_ok-row.ensures in
    let len : length c.as_mut_slice.result.now ≡ c.from-third.result = ap length zeros ∙ length-replicate {A = ℕ} c.from-third.result 0 in
    let front_back : take c.in_ok-row.row.len (c.fill.new.front ++ drop (length c.fill.new.front) c.in_ok-row.row.items) ≡ c.fill.new.front =
    take_at c.fill.new.front (drop (length c.fill.new.front) c.in_ok-row.row.items) c.in_ok-row.row.len (omega (arith, c.fill.ensures.front_size, c.as_mut_slice.ensures.len)) in
    let marks_back : take c.in_ok-marks.marks.len (c.fill.new.marks ++ drop (length c.fill.new.marks) c.in_ok-marks.marks.items) ≡ c.fill.new.marks =
    take_at c.fill.new.marks (drop (length c.fill.new.marks) c.in_ok-marks.marks.items) c.in_ok-marks.marks.len
    (omega (arith, c.fill.ensures.marks_size, c.as_mut_slice-2.ensures.len, ap length (c.as_mut_slice-2.ensures.value ∙ c.in_ok-marks.ensures), length-replicate {A = Bool} (8 * (c.from-fourth.result - c.from-third.result)) false)) in
    let row : c.from_vec.result ≡ c.fill.new.front ++ bits (c.from-fourth.result - c.from-third.result) 0 c.fill.new.marks =
    c.from_vec.ensures ∙ c.in_ok-push_bits.ensures ∙ ap (λ (xs : List ℕ). xs ++ bits (c.from-fourth.result - c.from-third.result) 0 c.as_slice.result.now) front_back
    ∙ ap (λ (bs : List Bool). c.fill.new.front ++ bits (c.from-fourth.result - c.from-third.result) 0 bs) (c.as_slice.ensures.value ∙ marks_back) in
    omega (
      arith,
      ap length row,
      length-append c.fill.new.front (bits (c.from-fourth.result - c.from-third.result) 0 c.fill.new.marks),
      length-bits (c.from-fourth.result - c.from-third.result) 0 c.fill.new.marks,
      c.fill.ensures.front_size,
      len,
      layout-rises c.args.columns.now c.args.ends.now c.requires.layout,
      c.from-third.ensures,
      c.from-fourth.ensures,
    )
