use Rattle.std.proofs.Common.{arith}
use Rattle.column_layout.proofs.LayoutLaws.{one-at}
use Rattle.column_layout.proofs.Sums.{blank}
use Rattle.column_layout.proofs.places.all_placed.Goals as goal

pub placed-requires-clause-one : goal.placed-requires-clause-one
placed-requires-clause-one c = one-at c.args.columns.now c.loop-column.column-index blank (omega arith)
