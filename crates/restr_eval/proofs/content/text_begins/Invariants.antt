use Rattle.std.proofs.Common.{◌≡◌, length}
use Rattle.restr_eval.specs.Content.{begins, compared, rest_of}
use Rattle.restr_eval.specs.Orders.{units_in}
use Rattle.restr_eval.proofs.content.text_begins.Given as goal

abbrev pub invariant-loop-y : goal.invariant-loop-y
invariant-loop-y l = begins (rest_of l.flags l.fn.pending l.text) (compared l.flags (units_in l.part)) ≡ begins (rest_of l.flags l.left l.xs) (rest_of l.flags l.wanted l.ys)

abbrev pub decreases-loop-y : goal.decreases-loop-y
decreases-loop-y l = length (rest_of l.flags l.wanted l.ys)
