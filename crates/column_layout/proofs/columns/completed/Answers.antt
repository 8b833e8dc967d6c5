use Rattle.column_layout.proofs.LayoutLaws.{layout-ascends}
use Rattle.column_layout.proofs.columns.completed.Goals as goal

pub with_columns-requires : goal.with_columns-requires
with_columns-requires c = rw c.columns.ensures.value (layout-ascends _ _ c.columns.ensures.table.layout)

pub has_columns-requires : goal.has_columns-requires
has_columns-requires c = rw c.columns-2.ensures.value (layout-ascends _ _ c.columns-2.ensures.table.layout)
