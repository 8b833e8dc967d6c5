use Rattle.std.proofs.Common.{◌≡◌, length, take}
use Rattle.pst_base.specs.Subs.{flattened}
use Rattle.subnode_tree.specs.Plan.{nothing}
use Rattle.subnode_tree.proofs.plan.+nothing_kept.Given as goal

abbrev pub invariant-loop-sub : goal.invariant-loop-sub
invariant-loop-sub l = l.keep.items ≡ nothing (length (flattened (take l.sub-index l.sub-items)))

abbrev pub decreases-nothing_kept : goal.decreases-nothing_kept
decreases-nothing_kept l = length l.s.now
