use Rattle.std.proofs.Common.{◌≡◌, ◌++◌, drop}
use Rattle.content_plan.specs.Keep.{all_kept_keys}
use Rattle.content_plan.proofs.put.all_kept_keys.Given as goal

abbrev pub invariant-loop-own : goal.invariant-loop-own
invariant-loop-own l = l.keys.items ++ all_kept_keys (drop l.own-index l.keep) ≡ all_kept_keys l.keep
