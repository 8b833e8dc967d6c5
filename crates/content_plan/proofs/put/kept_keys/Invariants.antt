use Rattle.std.proofs.Common.{◌≡◌, ◌++◌, drop}
use Rattle.node_layout.specs.Joined.{kept_keys}
use Rattle.content_plan.proofs.put.kept_keys.Given as goal

abbrev pub invariant-loop-id : goal.invariant-loop-id
invariant-loop-id l = l.keys.items ++ kept_keys (drop l.id-index l.keep) ≡ kept_keys l.keep
