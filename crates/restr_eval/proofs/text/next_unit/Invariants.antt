use Rattle.std.proofs.Common.{◌≡◌, length}
use Rattle.restr_eval.specs.Content.{compared}
use Rattle.restr_eval.specs.Orders.{units_in}
use Rattle.restr_eval.proofs.text.next_unit.Given as goal

abbrev pub invariant-loop-character : goal.invariant-loop-character
invariant-loop-character l = compared l.flags (units_in l.text) ≡ compared l.flags (units_in l.rest)

abbrev pub decreases-loop-character : goal.decreases-loop-character
decreases-loop-character l = length l.rest
