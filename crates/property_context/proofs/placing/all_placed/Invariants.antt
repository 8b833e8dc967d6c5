use Rattle.std.proofs.Common.{◌≡◌, ◌++◌, length}
use Rattle.property_context.proofs.placing.all_placed.Given as goal

abbrev pub invariant-left : goal.invariant-left
invariant-left l = l.subs.items ++ l.left.items ≡ l.fn.p.placed.items ++ l.fn.p.left.items

abbrev pub decreases-left : goal.decreases-left
decreases-left l = length l.left.items
