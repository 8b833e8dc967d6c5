use Rattle.std.proofs.Common.{◌≡◌, ℕ, true, subst}
use Rattle.mapi_values.specs.Columns.{has_column}
use Rattle.mapi_values.specs.Tables.{Tab}
use Rattle.column_layout.proofs.LayoutLaws.{HasMore, laid-out-table}
use Rattle.column_layout.proofs.columns.laid_out.Goals as goal

pub from_parts-requires : goal.from_parts-requires
from_parts-requires c =
    let cs = c.args.columns.now in
    let t : Tab = record { columns = c.table.inside.columns.items; ends = c.table.inside.ends; rows = c.table.inside.rows.items; kept = c.table.inside.kept } in
    let more : HasMore t.columns cs = λ id kind has. c.requires.more id kind (subst (λ (x : Tab). has_column x.columns id kind ≡ true) c.table.view_is has) in
    rw (c.in_ok-placed.ensures, c.placed_ends-ends.ensures) (laid-out-table cs t c.requires.ascend more c.table.invariant)
