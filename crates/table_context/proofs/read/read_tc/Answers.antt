use Rattle.std.proofs.Common.{◌∙◌, sym, arith}
use Rattle.table_context.proofs.ContextLaws.{index-size}
use Rattle.table_context.proofs.read.read_tc.Goals as goal

pub u32_at-requires : goal.u32_at-requires
u32_at-requires c = omega (arith, index-size c.in-Some-item.x.now (sym c.names_index.ensures ∙ c.if-not-names_index.false))

pub table_in-requires-clause-size : goal.table_in-requires-clause-size
table_in-requires-clause-size c = index-size c.in-Some-item.x.now (sym c.names_index.ensures ∙ c.if-not-names_index.false)
