use Rattle.std.proofs.Common.{drop, false}
use Rattle.node_values.specs.Subnodes.{without}
use Rattle.mail_objects.specs.Subnodes.{is_table}
use Rattle.mail_objects.proofs.PartLaws.{ShowsRest, StopsRest}
use Rattle.mail_objects.proofs.message.read.read_parts.Given as goal

abbrev pub invariant-loop-row : goal.invariant-loop-row
invariant-loop-row l = ShowsRest (without is_table false l.finder) l.rows (drop l.row-index l.rows) l.parts.items × StopsRest (without is_table false l.finder) l.rows (drop l.row-index l.rows)
