use Rattle.std.proofs.Common.{◌≡◌, ◌++◌, false, drop}
use Rattle.std.specs.Ordering.{nat_cmp}
use Rattle.std.specs.BTreeSet.{contains}
use Rattle.pst_base.specs.Subs.{flattened}
use Rattle.node_values.specs.Subnodes.{without}
use Rattle.node_values.proofs.finder.others.Given as goal

-- those that were copied, and those that are left to look at
abbrev pub invariant-loop-sub : goal.invariant-loop-sub
invariant-loop-sub l =
    flattened l.out.items ++ without (contains nat_cmp l.ids) false (flattened (drop l.sub-index l.subs)) ≡ without (contains nat_cmp l.ids) false (flattened l.subs)
