use Rattle.std.proofs.Common.{◌≡◌, drop}
use Rattle.search_results.specs.Following.{without_gone}
use Rattle.search_results.proofs.relisting.without_gone.Given as goal

-- the rows so far, once those of the other messages went, are those that are left of all
abbrev pub invariant-loop-touch : goal.invariant-loop-touch
invariant-loop-touch l = record {
  rows : without_gone (drop l.touch-index l.touches) l.table.rows ≡ without_gone l.touches l.initial.table.rows;
  columns : l.table.columns ≡ l.initial.table.columns;
  kept : l.table.kept ≡ l.initial.table.kept;
  ends : l.table.ends ≡ l.initial.table.ends;
}
