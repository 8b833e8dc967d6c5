use Rattle.std.proofs.Common.{◌≡◌, drop, length}
use Rattle.search_results.specs.Following.{relisted_by}
use Rattle.search_results.proofs.relisting.relisted.Given as goal

-- the rows so far, once those of the other messages follow, are those of all
abbrev pub invariant-loop-touch : goal.invariant-loop-touch
invariant-loop-touch l = record {
  rows : relisted_by l.table.columns (drop (length l.yielded) l.touches) (drop (length l.yielded) l.deltas) l.table.rows ≡ relisted_by l.initial.table.columns l.touches l.deltas l.initial.table.rows;
  columns : l.table.columns ≡ l.initial.table.columns;
  kept : l.table.kept ≡ l.initial.table.kept;
  ends : l.table.ends ≡ l.initial.table.ends;
}
