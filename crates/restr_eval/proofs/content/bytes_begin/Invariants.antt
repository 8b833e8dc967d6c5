use Rattle.std.proofs.Common.{◌≡◌, length}
use Rattle.restr_eval.specs.Content.{begins}
use Rattle.restr_eval.proofs.content.bytes_begin.Given as goal

abbrev pub invariant-loop-ys : goal.invariant-loop-ys
invariant-loop-ys l = begins l.bytes l.part ≡ begins l.xs l.ys

abbrev pub decreases-loop-ys : goal.decreases-loop-ys
decreases-loop-ys l = length l.ys
