use Rattle.std.proofs.Common.{◌≡◌, ◌∙◌, ◌+◌, ℕ, List, Some, length, get_or, refl, sym, ap, subst, arith}
use Rattle.byteorder.specs.Endian.{little_bytes}
use Rattle.pst_base.specs.Fields.{replaced}
use Rattle.mapi_values.specs.Columns.{cell_width, lies}
use Rattle.mapi_values.specs.Tables.{value_suits}
use Rattle.table_context.proofs.LayoutLaws.{all-at, lies-at}
use Rattle.table_writer.specs.Filling.{no_column}
use Rattle.table_writer.proofs.FillLaws.{column-parts}
use Rattle.table_writer.proofs.ColumnFillLaws.{id-at}
use Rattle.row_edit.specs.Cells.{PutsValue, pick}
use Rattle.row_edit.proofs.CellLaws.{fills-id, fills-none, fills-value}
use Rattle.row_edit.proofs.PickLaws.{pick-all, pick-column, suits-parts}
use Rattle.row_edit.proofs.lay.fill_column.Goals as goal

pub put-requires : goal.put-requires
put-requires c =
    let p = id-at (length c.args.front.now) c.args.count c.args.columns.now c.args.values.now c.args.i c.requires.suited c.requires.inside (sym c.is_of.ensures ∙ c.if-is_of.true) in
    omega (arith, c.from.ensures, p.0, p.1, ap length c.to_le_bytes.ensures)

pub bounds-marks-from : goal.bounds-marks-from
bounds-marks-from c =
    let l = lies-at (length c.args.front.now) (length c.args.front.now + c.args.count) c.args.columns.now c.args.i no_column c.requires.suited.lie c.requires.inside in
    omega (arith, c.from-then-is_of.ensures, l.bit, c.requires.marks)

pub returns-then-is_of : goal.returns-then-is_of
returns-then-is_of c =
    let column = get_or c.args.columns.now c.args.i no_column in
    let lc = all-at (lies (length c.args.front.now) (length c.args.front.now + c.args.count)) c.args.columns.now c.args.i no_column c.requires.suited.lie c.requires.inside in
    let front_is : c.put.new.row ≡ replaced column.at (little_bytes 4 c.args.id) c.args.front.now =
    c.put.ensures ∙ ap (λ (bs : List ℕ). replaced c.from.result bs c.args.front.now) c.to_le_bytes.ensures ∙ ap (λ (a : ℕ). replaced a (little_bytes 4 c.args.id) c.args.front.now) c.from.ensures in
    let s = fills-id (length c.args.front.now) c.args.count c.args.id c.args.hnid c.args.columns.now c.args.values.now column c.args.front.now c.put.new.row c.args.marks.now refl lc (omega arith) c.requires.suited.suit
    (sym c.is_of.ensures ∙ c.if-is_of.true) (omega arith) front_is in
    rw c.from-then-is_of.ensures s

pub put_value-requires-clause-room : goal.put_value-requires-clause-room
put_value-requires-clause-room c =
    let l = lies-at (length c.args.front.now) (length c.args.front.now + c.args.count) c.args.columns.now c.args.i no_column c.requires.suited.lie c.requires.inside in
    let h : pick c.args.values.now (get_or c.args.columns.now c.args.i no_column) ≡ Some c.in-Some.value.now = sym c.in-Some.ensures in
    let p = column-parts c.in-Some.value.now.id c.in-Some.value.now.kind (get_or c.args.columns.now c.args.i no_column) (pick-column c.args.values.now (get_or c.args.columns.now c.args.i no_column) c.in-Some.value.now h) in
    omega (arith, c.from-in-Some.ensures, l.cell, l.width, ap cell_width p.1)

pub put_value-requires-clause-suits : goal.put_value-requires-clause-suits
put_value-requires-clause-suits c =
    let h : pick c.args.values.now (get_or c.args.columns.now c.args.i no_column) ≡ Some c.in-Some.value.now = sym c.in-Some.ensures in
    (suits-parts c.args.columns.now c.in-Some.value.now (pick-all (value_suits c.args.columns.now) c.args.values.now (get_or c.args.columns.now c.args.i no_column) c.in-Some.value.now c.requires.suited.suit h)).2

pub bounds-marks-from-in-Some : goal.bounds-marks-from-in-Some
bounds-marks-from-in-Some c =
    let l = lies-at (length c.args.front.now) (length c.args.front.now + c.args.count) c.args.columns.now c.args.i no_column c.requires.suited.lie c.requires.inside in
    omega (arith, c.from-in-Some-2.ensures, l.bit, c.requires.marks)

pub returns-in-Some : goal.returns-in-Some
returns-in-Some c =
    let column = get_or c.args.columns.now c.args.i no_column in
    let lc = all-at (lies (length c.args.front.now) (length c.args.front.now + c.args.count)) c.args.columns.now c.args.i no_column c.requires.suited.lie c.requires.inside in
    let h : pick c.args.values.now column ≡ Some c.in-Some.value.now = sym c.in-Some.ensures in
    let puts : PutsValue column.at c.in-Some.value.now c.args.hnid c.args.front.now c.put_value.new.front =
    subst (λ (a : ℕ). PutsValue a c.in-Some.value.now c.args.hnid c.args.front.now c.put_value.new.front) c.from-in-Some.ensures c.put_value.ensures in
    let s = fills-value (length c.args.front.now) c.args.count c.args.id c.args.hnid c.args.columns.now c.args.values.now column c.in-Some.value.now c.args.front.now c.put_value.new.front c.args.marks.now refl lc (omega arith)
    c.requires.suited.suit h c.requires.marks puts in
    rw c.from-in-Some-2.ensures s

pub returns-in-None : goal.returns-in-None
returns-in-None c =
    let column = get_or c.args.columns.now c.args.i no_column in
    let lc = all-at (lies (length c.args.front.now) (length c.args.front.now + c.args.count)) c.args.columns.now c.args.i no_column c.requires.suited.lie c.requires.inside in
    fills-none (length c.args.front.now) c.args.count c.args.id c.args.hnid c.args.values.now column c.args.front.now c.args.marks.now refl lc (omega arith) (sym c.is_of.ensures ∙ c.if-is_of.false)
    (sym c.in-None.ensures) c.requires.clear
