use Rattle.std.proofs.Common.{◌≡◌, length}
use Rattle.restr_eval.specs.Content.{contains}
use Rattle.restr_eval.proofs.content.bytes_contain.Given as goal

abbrev pub invariant-loop-rest : goal.invariant-loop-rest
invariant-loop-rest l = contains l.bytes l.part ≡ contains l.rest l.part

abbrev pub decreases-loop-rest : goal.decreases-loop-rest
decreases-loop-rest l = length l.rest
