use Rattle.mapi_values.proofs.TableLaws.{drop-table}
use Rattle.mapi_values.proofs.rows.drop_row.Goals as goal

pub invariant_of-table : goal.invariant_of-table
invariant_of-table c = drop-table _ _ _ _ _ c.args.id c.drop_keyed.ensures.others c.table.invariant
