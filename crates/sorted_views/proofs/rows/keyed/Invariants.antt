use Rattle.sorted_views.specs.Rows.{cell_of}
use Rattle.sorted_views.proofs.KeyedLaws.{Goes}
use Rattle.sorted_views.proofs.rows.keyed.Given as goal

-- the rows so far have the keys of the ids so far
abbrev pub invariant-loop-id : goal.invariant-loop-id
invariant-loop-id l = Goes (cell_of l.table l.tag) l.ids l.rows.items l.id-index
