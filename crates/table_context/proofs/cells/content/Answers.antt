use Rattle.std.proofs.Common.{sym, arith}
use Rattle.table_context.proofs.LayoutLaws.{width-none, width-some}
use Rattle.table_context.proofs.cells.content.Goals as goal

pub part-requires : goal.part-requires
part-requires c = omega (arith, c.from-at.ensures, c.requires, width-some c.args.column.now.tag.kind c.in-Some.width (sym c.in-Some.ensures))

pub u32_at-requires : goal.u32_at-requires
u32_at-requires c = omega (arith, c.from-at.ensures, c.requires, width-none c.args.column.now.tag.kind (sym c.in-None.ensures))
