use Rattle.mapi_values.proofs.TableLaws.{tried-table}
use Rattle.mapi_values.proofs.rows.put_row.Goals as goal

pub invariant_of-table : goal.invariant_of-table
invariant_of-table c =
    tried-table c.put_keyed.result _ _ _ _ _ c.args.id c.in_ok-cells.cells c.put_keyed.ensures.ok c.put_keyed.ensures.err
    (rw c.as_slice.ensures.value at c.in_ok-cells.ensures.suit) c.table.invariant
