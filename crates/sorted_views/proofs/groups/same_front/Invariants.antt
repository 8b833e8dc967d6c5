use Rattle.std.proofs.Common.{◌≡◌, ◌+◌, ◌≤◌, drop, length}
use Rattle.sorted_views.specs.Groups.{same_front}
use Rattle.sorted_views.proofs.groups.same_front.Given as goal

-- the rows so far have the key, and with those in front of the rest they are all in front
abbrev pub invariant-loop-row : goal.invariant-loop-row
invariant-loop-row l = record {
  at : l.count ≡ l.row-index;
  within : l.row-index ≤ length l.rows;
  goes : same_front l.first l.rows ≡ l.count + same_front l.first (drop l.row-index l.rows);
}
