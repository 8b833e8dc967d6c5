use Rattle.std.proofs.Common.{◌≡◌, ◌≤◌, ◌<◌, ◌+◌, ◌-◌, ◌*◌, Some, length}
use Rattle.heap_on_node.specs.Packing.{halves, item_in, spread}
use Rattle.bth_tree.specs.Making.{AreRecords, Keeps, chunks, items_above, items_made, per_item, spelled}
use Rattle.bth_tree.specs.Tree.{gather, tree}
use Rattle.bth_tree.proofs.make.put_levels.Given as goal

abbrev pub invariant-levels : goal.invariant-levels
invariant-levels l = record {
  kept : Keeps (item_in l.fn.h) (item_in l.h);
  some : 0 < length l.pairs.items;
  pairs : AreRecords l.k 4 l.pairs.items;
  reads : gather (tree (item_in l.h) l.k l.e l.level) l.pairs.items ≡ Some l.recs;
  level : l.level ≤ 2;
  first : l.level ≡ 0 → length l.pairs.items ≤ 65535;
  second : l.level ≡ 1 → length l.pairs.items ≤ 147;
  third : l.level ≡ 2 → length l.pairs.items ≤ 1;
  room : length l.h + items_above (per_item (l.k + 4)) (2 - l.level) (length l.pairs.items) + 1 ≤ length l.fn.h + items_made l.k l.e (length l.recs);
  half : halves l.h + items_above (per_item (l.k + 4)) (2 - l.level) (length l.pairs.items) + 1 ≤ halves l.fn.h + items_made l.k l.e (length l.recs);
  spent : spread l.h + 44 * length l.pairs.items ≤ spread l.fn.h + (2 * length (spelled l.k l.recs) + 48 * chunks (per_item (l.k + l.e)) (length l.recs));
}

abbrev pub decreases-levels : goal.decreases-levels
decreases-levels l = length l.pairs.items
