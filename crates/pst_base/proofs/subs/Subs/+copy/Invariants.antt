use Rattle.std.proofs.Common.{◌≡◌, take}
use Rattle.pst_base.proofs.subs.Subs.+copy.Given as goal

-- the subnodes that were passed are copied
abbrev pub invariant-loop-sub : goal.invariant-loop-sub
invariant-loop-sub l = l.entries.items ≡ take l.sub-index l.sub-items
