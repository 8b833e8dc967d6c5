use Rattle.std.proofs.Common.{◌≡◌, ◌∙◌, List, ℕ, Some, None, length, sym, ap, arith}
use Rattle.pst_base.specs.Fields.{replaced}
use Rattle.mapi_values.specs.Columns.{in_cell}
use Rattle.table_context.proofs.LayoutLaws.{width-none, width-some}
use Rattle.table_writer.proofs.PutLaws.{suits-width}
use Rattle.row_edit.proofs.CellLaws.{puts-fixed, puts-named}
use Rattle.row_edit.proofs.lay.put_value.Goals as goal

pub put-requires : goal.put-requires
put-requires c =
    let v = c.args.value.now in
    let is : in_cell v.kind ≡ Some c.in-Some.field-0 = ap in_cell (sym c.kind.ensures) ∙ sym c.in-Some.ensures in
    omega (arith, c.requires.room, width-some v.kind c.in-Some.field-0 is, suits-width v.kind (length v.bytes) c.in-Some.field-0 c.requires.suits is, c.bytes.ensures.len)

pub put-requires-in-None : goal.put-requires-in-None
put-requires-in-None c =
    let v = c.args.value.now in
    let is : in_cell v.kind ≡ None = ap in_cell (sym c.kind.ensures) ∙ sym c.in-None.ensures in
    omega (arith, c.requires.room, width-none v.kind is, ap length c.to_le_bytes.ensures)

pub returns-in-Some : goal.returns-in-Some
returns-in-Some c =
    let v = c.args.value.now in
    let is : in_cell v.kind ≡ Some c.in-Some.field-0 = ap in_cell (sym c.kind.ensures) ∙ sym c.in-Some.ensures in
    puts-fixed c.args.front.now c.put.new.row c.args.at c.in-Some.field-0 c.args.hnid v is (suits-width v.kind (length v.bytes) c.in-Some.field-0 c.requires.suits is) (omega (arith, c.requires.room, width-some v.kind c.in-Some.field-0 is))
    (c.put.ensures ∙ ap (λ (bs : List ℕ). replaced c.args.at bs c.args.front.now) c.bytes.ensures.value)

pub returns-in-None : goal.returns-in-None
returns-in-None c =
    let v = c.args.value.now in
    let is : in_cell v.kind ≡ None = ap in_cell (sym c.kind.ensures) ∙ sym c.in-None.ensures in
    puts-named c.args.front.now c.put-in-None.new.row c.args.at c.args.hnid v is (omega (arith, c.requires.room, width-none v.kind is)) (omega arith)
    (c.put-in-None.ensures ∙ ap (λ (bs : List ℕ). replaced c.args.at bs c.args.front.now) c.to_le_bytes.ensures)
