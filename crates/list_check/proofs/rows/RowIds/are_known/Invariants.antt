use Rattle.std.proofs.Common.{◌≡◌, drop, map}
use Rattle.list_check.specs.Watching.{are_known}
use Rattle.list_check.proofs.rows.RowIds.are_known.Given as goal

-- something is known at each of those before
abbrev pub invariant-loop-id : goal.invariant-loop-id
invariant-loop-id l = are_known l.flags (map (λ i. i.bits) l.id-items) ≡ are_known l.flags (map (λ i. i.bits) (drop l.id-index l.id-items))
