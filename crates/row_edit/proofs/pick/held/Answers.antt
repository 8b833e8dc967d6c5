use Rattle.std.proofs.Common.{sym, length, arith}
use Rattle.table_context.proofs.LayoutLaws.{lies-parts, width-none}
use Rattle.row_edit.proofs.pick.held.Goals as goal

pub has_cell-requires : goal.has_cell-requires
has_cell-requires c = (lies-parts c.args.third (length c.args.row.now) c.args.column.now c.requires).bit

pub u32_at-requires : goal.u32_at-requires
u32_at-requires c =
    let l = lies-parts c.args.third (length c.args.row.now) c.args.column.now c.requires in
    let four = width-none c.args.column.now.tag.kind (sym c.in-None.ensures) in
    omega (arith, l.cell, l.bit, l.width, four, c.from.ensures)
