use Rattle.std.proofs.Common.{◌≤◌, ◌+◌, ◌*◌, ◌/◌, ◌^◌, length}
use Rattle.copy_trees.proofs.LevelLaws.{Climbs}
use Rattle.copy_trees.proofs.planning.plan_tree.Given as goal

abbrev pub invariant-loop-width : goal.invariant-loop-width
invariant-loop-width g l = record {
  some : 1 ≤ l.width;
  behind : l.from ≤ l.end;
  low : 1 ≤ length l.levels.items;
  short : length l.levels.items ≤ 8;
  few : l.next_page ≤ l.first + 2 ^ 51 * length l.levels.items;
  climbs : Climbs (488 / g.E.Entry.size) l.count l.from l.first l.levels.items l.width l.root l.end l.next_page;
}

abbrev pub decreases-loop-width : goal.decreases-loop-width
decreases-loop-width g l = l.width
