use Rattle.std.proofs.Common.{◌≡◌, ◌≤◌, ◌+◌, ◌*◌, ◌^◌, length, map}
use Rattle.copy_layout.specs.Order.{InOrder}
use Rattle.file_layout.specs.Trees.{page_place}
use Rattle.copy_trees.specs.Levels.{AreNumbered}
use Rattle.copy_trees.proofs.planning.place_level.Given as goal

abbrev pub invariant-loop : goal.invariant-loop
invariant-loop l = record {
  count : length l.pages.items ≡ l.counter;
  order : InOrder 512 l.from (map page_place l.pages.items) l.end;
  numbered : AreNumbered l.first l.pages.items l.number;
  behind : l.from ≤ l.end;
  spread : 512 * l.number + l.from ≤ 512 * l.first + l.end;
  few : l.number ≤ l.first + 2 ^ 51;
}
