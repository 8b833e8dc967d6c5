use Rattle.std.proofs.Common.{◌≡◌, drop}
use Rattle.pst_base.specs.Subs.{flattened}
use Rattle.node_values.specs.Subnodes.{ids_ascend}
use Rattle.node_values.proofs.order.ids_ascend.Given as goal

abbrev pub invariant-loop-sub : goal.invariant-loop-sub
invariant-loop-sub l = ids_ascend l.low (flattened (drop l.sub-index l.sub-items)) ≡ ids_ascend 0 (flattened l.sub-items)
