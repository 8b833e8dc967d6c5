use Rattle.column_layout.proofs.LayoutLaws.{layout-ascends}
use Rattle.mail_parts.proofs.with_attachments.attachments_for.Goals as goal

pub has_columns-had-requires : goal.has_columns-had-requires
has_columns-had-requires c = rw c.columns.ensures.value (layout-ascends _ _ c.columns.ensures.table.layout)
