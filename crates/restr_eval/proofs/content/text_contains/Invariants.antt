use Rattle.std.proofs.Common.{◌≡◌, length}
use Rattle.restr_eval.specs.Content.{compared, contains, rest_of}
use Rattle.restr_eval.specs.Orders.{units_in}
use Rattle.restr_eval.proofs.content.text_contains.Given as goal

abbrev pub invariant-loop-xs : goal.invariant-loop-xs
invariant-loop-xs l = contains (compared l.flags (units_in l.text)) (compared l.flags (units_in l.part)) ≡ contains (rest_of l.flags l.left l.xs) (compared l.flags (units_in l.part))

abbrev pub decreases-loop-xs : goal.decreases-loop-xs
decreases-loop-xs l = length (rest_of l.flags l.left l.xs)
