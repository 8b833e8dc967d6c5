use Rattle.std.proofs.Common.{length, sym, arith}
use Rattle.table_context.proofs.LayoutLaws.{lies-parts, width-none}
use Rattle.table_context.proofs.kept.push_cell.Goals as goal

pub has_cell-requires : goal.has_cell-requires
has_cell-requires c = (lies-parts c.args.from (length c.args.row.now) c.args.column.now c.requires).bit

pub u32_at-requires : goal.u32_at-requires
u32_at-requires c =
    let l = lies-parts c.args.from (length c.args.row.now) c.args.column.now c.requires in
    omega (arith, c.from.ensures, l.cell, l.bit, l.width, width-none c.args.column.now.tag.kind (sym c.in-None.ensures))
