use Rattle.std.proofs.Common.{◌≡◌, ◌∙◌, List, ℕ, Some, None, length, sym, ap, arith}
use Rattle.pst_base.specs.Fields.{replaced}
use Rattle.mapi_values.specs.Columns.{in_cell}
use Rattle.table_context.proofs.LayoutLaws.{width-none, width-some}
use Rattle.table_writer.proofs.PutLaws.{cell-fixed, cell-named, suits-width}
use Rattle.table_writer.proofs.row.put_cell.Goals as goal

pub put-requires : goal.put-requires
put-requires c =
    let v = c.args.value.now in
    let is : in_cell v.kind ≡ Some c.in-Some.field-0 = ap in_cell (sym c.kind-kind.ensures) ∙ sym c.in-Some.ensures in
    omega (arith, c.requires.room, width-some v.kind c.in-Some.field-0 is, suits-width v.kind (length v.bytes) c.in-Some.field-0 c.requires.suits is, c.bytes.ensures.len)

pub put-requires-in-None : goal.put-requires-in-None
put-requires-in-None c =
    let v = c.args.value.now in
    let is : in_cell v.kind ≡ None = ap in_cell (sym c.kind-kind.ensures) ∙ sym c.in-None.ensures in
    omega (arith, c.requires.room, width-none v.kind is, ap length c.to_le_bytes.ensures)

pub returns-in-Some-clause-puts : goal.returns-in-Some-clause-puts
returns-in-Some-clause-puts c =
    let v = c.args.value.now in
    let is : in_cell v.kind ≡ Some c.in-Some.field-0 = ap in_cell (sym c.kind-kind.ensures) ∙ sym c.in-Some.ensures in
    let len = suits-width v.kind (length v.bytes) c.in-Some.field-0 c.requires.suits is in
    cell-fixed c.args.made c.args.front.now c.put.new.row c.args.at c.in-Some.field-0 v is len (omega (arith, c.requires.room, width-some v.kind c.in-Some.field-0 is))
    (c.put.ensures ∙ ap (λ (bs : List ℕ). replaced c.args.at bs c.args.front.now) c.bytes.ensures.value)

pub returns-in_ok-made-in-None-clause-puts : goal.returns-in_ok-made-in-None-clause-puts
returns-in_ok-made-in-None-clause-puts c =
    let v = c.args.value.now in
    let is : in_cell v.kind ≡ None = ap in_cell (sym c.kind-kind.ensures) ∙ sym c.in-None.ensures in
    let puts = rw c.bytes-in-None.ensures.value at c.in_ok-made-in-None.ensures.puts in
    cell-named c.args.made c.in_ok-made-in-None.made c.args.front.now c.put-in-None.new.row c.args.at c.in_ok-made-in-None.hnid v is puts (omega (arith, c.requires.room, width-none v.kind is)) (omega (arith, c.in_ok-made-in-None.ensures.fits))
    (c.put-in-None.ensures ∙ ap (λ (bs : List ℕ). replaced c.args.at bs c.args.front.now) c.to_le_bytes.ensures)
