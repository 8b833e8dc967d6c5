use Rattle.std.proofs.Common.{◌≡◌, ◌≤◌, ◌+◌, ◌*◌, ◌++◌, drop}
use Rattle.data_tree.specs.Plan.{fresh}
use Rattle.data_tree.proofs.plan.fresh.Given as goal

abbrev pub invariant-loop-i : goal.invariant-loop-i
invariant-loop-i l = record {
  made : l.out.items ++ fresh l.free (drop l.i l.keep) (drop l.i l.blocks) ≡ fresh l.next l.keep l.blocks;
  at : l.free ≤ l.next + 4 * l.i;
}
