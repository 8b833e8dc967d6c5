use Rattle.std.proofs.Common.{arith}
use Rattle.column_layout.specs.Layout.{within_group}
use Rattle.column_layout.proofs.Sums.{widths-small}
use Rattle.column_layout.proofs.places.group_end.Goals as goal

pub overflow_add-result : goal.overflow_add-result
overflow_add-result c = omega (arith, widths-small (within_group c.args.last) c.args.columns.now, c.widths_within.ensures, c.from.ensures, c.first_bit.ensures.few, c.requires)

pub returns-clause-few : goal.returns-clause-few
returns-clause-few c = omega (arith, widths-small (within_group c.args.last) c.args.columns.now, c.widths_within.ensures, c.from.ensures, c.first_bit.ensures.few, c.requires)
