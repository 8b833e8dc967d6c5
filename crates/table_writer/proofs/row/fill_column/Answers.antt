use Rattle.std.proofs.Common.{◌≡◌, ◌∙◌, ◌<◌, ◌+◌, ◌-◌, ℕ, List, length, get_or, set, true, false, sym, ap, subst, arith}
use Rattle.byteorder.specs.Endian.{little_bytes}
use Rattle.pst_base.specs.Fields.{replaced}
use Rattle.mapi_values.specs.Columns.{cell_width, is_column, suits_cell}
use Rattle.mapi_values.specs.Values.{Val}
use Rattle.table_writer.specs.Filling.{Filled, Steps, no_column, no_value}
use Rattle.table_writer.specs.Making.{PutsCell}
use Rattle.table_context.proofs.LayoutLaws.{lies-at}
use Rattle.table_writer.proofs.FillLaws.{column-parts}
use Rattle.table_writer.proofs.PackLaws.{light-few}
use Rattle.table_writer.proofs.ColumnFillLaws.{get-any, id-at, match-at, step-cell, step-id, step-skip, value-cell}
use Rattle.table_writer.proofs.row.fill_column.Goals as goal

pub put-requires : goal.put-requires
put-requires c =
    let p = id-at (length c.args.front.now) c.args.count c.args.columns.now c.args.cells.now c.args.i c.requires.suited c.requires.inside (sym c.is_of.ensures ∙ c.if-is_of.true) in
    omega (arith, c.from.ensures, p.0, p.1, ap length c.to_le_bytes.ensures)

pub bounds-marks-from : goal.bounds-marks-from
bounds-marks-from c =
    let l = lies-at (length c.args.front.now) (length c.args.front.now + c.args.count) c.args.columns.now c.args.i no_column c.requires.suited.lie c.requires.inside in
    omega (arith, c.from-then-is_of.ensures, l.bit, c.requires.filled.marks_size)

pub returns-then-is_of-clause-steps : goal.returns-then-is_of-clause-steps
returns-then-is_of-clause-steps c =
    let s = step-id c.args.made (length c.args.front.now) c.args.count c.args.columns.now c.args.id c.args.cells.now c.args.i c.args.j c.args.front.now c.args.marks.now c.requires.suited c.requires.inside
    (sym c.is_of.ensures ∙ c.if-is_of.true) (omega arith) c.requires.filled in
    let front_is : c.put.new.row ≡ replaced (get_or c.args.columns.now c.args.i no_column).at (little_bytes 4 c.args.id) c.args.front.now =
    c.put.ensures ∙ ap (λ (bs : List ℕ). replaced c.from.result bs c.args.front.now) c.to_le_bytes.ensures ∙ ap (λ (a : ℕ). replaced a (little_bytes 4 c.args.id) c.args.front.now) c.from.ensures in
    rw (front_is, c.from-then-is_of.ensures) s

pub returns-then-j-eq0-clause-steps : goal.returns-then-j-eq0-clause-steps
returns-then-j-eq0-clause-steps c =
    step-skip c.args.made (length c.args.front.now) c.args.count c.args.columns.now c.args.id c.args.cells.now c.args.i c.args.j c.args.front.now c.args.marks.now c.requires.suited c.requires.inside
    (sym c.is_of.ensures ∙ c.if-is_of.false) (omega arith) (λ l e. absurd (omega (arith, e, c.if-j-eq0.true))) c.requires.filled

pub returns-then-not-is_of-clause-steps : goal.returns-then-not-is_of-clause-steps
returns-then-not-is_of-clause-steps c =
    let cells = c.args.cells.now in
    let v_is : c.index-cells-j.result ≡ get_or c.args.cells.now (c.args.j - 1) no_value = c.index-cells-j.is ∙ get-any c.args.cells.now (c.args.j - 1) c.index-cells-j.result no_value (omega (arith, c.requires.filled.within, c.if-j-eq0.false)) in
    let none = match-at c.args.cells.now (c.args.j - 1) c.id.result c.kind.result c.index-cells-j.result (get_or c.args.columns.now c.args.i no_column) false v_is c.id.ensures c.kind.ensures (sym c.is_of-2.ensures ∙ c.if-not-is_of.true) in
    step-skip c.args.made (length c.args.front.now) c.args.count c.args.columns.now c.args.id c.args.cells.now c.args.i c.args.j c.args.front.now c.args.marks.now c.requires.suited c.requires.inside
    (sym c.is_of.ensures ∙ c.if-is_of.false) (omega arith)
    (λ l e. let at : l ≡ c.args.j - 1 = omega (arith, e) in ap (λ (k : ℕ). is_column (get_or c.args.cells.now k no_value).id (get_or c.args.cells.now k no_value).kind (get_or c.args.columns.now c.args.i no_column)) at ∙ none)
    c.requires.filled

pub put_cell-requires-clause-room : goal.put_cell-requires-clause-room
put_cell-requires-clause-room c =
    let l = lies-at (length c.args.front.now) (length c.args.front.now + c.args.count) c.args.columns.now c.args.i no_column c.requires.suited.lie c.requires.inside in
    let p = column-parts c.id.result c.kind.result (get_or c.args.columns.now c.args.i no_column) (sym c.is_of-2.ensures ∙ c.if-not-is_of.false) in
    omega (arith, c.from-2.ensures, l.cell, l.width, ap cell_width (p.1 ∙ c.kind.ensures))

pub put_cell-requires-clause-suits : goal.put_cell-requires-clause-suits
put_cell-requires-clause-suits c =
    let lt : c.args.j - 1 < length c.args.cells.now = omega (arith, c.requires.filled.within, c.if-j-eq0.false) in
    let v_is : c.index-cells-j.result ≡ get_or c.args.cells.now (c.args.j - 1) no_value = c.index-cells-j.is ∙ get-any c.args.cells.now (c.args.j - 1) c.index-cells-j.result no_value lt in
    ap (λ (w : Val). suits_cell w.kind (length w.bytes)) v_is ∙ value-cell c.args.columns.now c.args.cells.now (c.args.j - 1) c.requires.suited.suit lt

pub put_cell-requires-clause-blocks : goal.put_cell-requires-clause-blocks
put_cell-requires-clause-blocks c = light-few c.args.made.maker c.requires.made.packed c.requires.light

pub bounds-marks-from-2 : goal.bounds-marks-from-2
bounds-marks-from-2 c =
    let l = lies-at (length c.args.front.now) (length c.args.front.now + c.args.count) c.args.columns.now c.args.i no_column c.requires.suited.lie c.requires.inside in
    omega (arith, c.from-3.ensures, l.bit, c.requires.filled.marks_size)

pub returns-clause-steps : goal.returns-clause-steps
returns-clause-steps c =
    let lt : c.args.j - 1 < length c.args.cells.now = omega (arith, c.requires.filled.within, c.if-j-eq0.false) in
    let back : c.args.j - 1 + 1 ≡ c.args.j = omega (arith, c.if-j-eq0.false) in
    let v_is : c.index-cells-j.result ≡ get_or c.args.cells.now (c.args.j - 1) no_value = c.index-cells-j.is ∙ get-any c.args.cells.now (c.args.j - 1) c.index-cells-j.result no_value lt in
    let match = match-at c.args.cells.now (c.args.j - 1) c.id.result c.kind.result c.index-cells-j.result (get_or c.args.columns.now c.args.i no_column) true v_is c.id.ensures c.kind.ensures (sym c.is_of-2.ensures ∙ c.if-not-is_of.false) in
    let puts : PutsCell c.args.made c.in_ok-made.made c.args.front.now c.put_cell.new.front (get_or c.args.columns.now c.args.i no_column).at (get_or c.args.cells.now (c.args.j - 1) no_value) =
    subst (λ (a : ℕ). PutsCell c.args.made c.in_ok-made.made c.args.front.now c.put_cell.new.front a (get_or c.args.cells.now (c.args.j - 1) no_value)) c.from-2.ensures
    (subst (λ (w : Val). PutsCell c.args.made c.in_ok-made.made c.args.front.now c.put_cell.new.front c.from-2.result w) v_is c.in_ok-made.ensures.puts) in
    let filled : Filled c.args.made (length c.args.front.now) c.args.count c.args.columns.now c.args.id c.args.cells.now (c.args.i + 1) (c.args.j - 1 + 1) c.args.front.now c.args.marks.now =
    subst (λ (k : ℕ). Filled c.args.made (length c.args.front.now) c.args.count c.args.columns.now c.args.id c.args.cells.now (c.args.i + 1) k c.args.front.now c.args.marks.now) (sym back) c.requires.filled in
    let s = step-cell c.args.made c.in_ok-made.made (length c.args.front.now) c.args.count c.args.columns.now c.args.id c.args.cells.now c.args.i (c.args.j - 1) c.args.front.now c.put_cell.new.front c.args.marks.now
    c.requires.suited c.requires.inside lt match c.requires.filled.marks_size puts filled in
    let at_j = subst (λ (k : ℕ). Steps c.args.made c.in_ok-made.made (length c.args.front.now) c.args.count c.args.columns.now c.args.id c.args.cells.now c.args.i k (c.args.j - 1) c.args.front.now c.put_cell.new.front c.args.marks.now
    (set c.args.marks.now (get_or c.args.columns.now c.args.i no_column).bit true)) back s in
    rw c.from-3.ensures at_j
