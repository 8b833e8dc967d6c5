use Rattle.std.proofs.Common.{◌∙◌, sym}
use Rattle.restr_eval.specs.Content.{compared, rest_of}
use Rattle.restr_eval.specs.Orders.{units_in}
use Rattle.restr_eval.proofs.TextLaws.{contains_here}
use Rattle.restr_eval.proofs.content.text_contains.Goals as goal

pub returns-then-text_begins : goal.returns-then-text_begins
returns-then-text_begins c = sym (c.loop-xs.invariant ∙ contains_here (rest_of c.args.flags c.loop-xs.left c.loop-xs.xs.now) (compared c.args.flags (units_in c.args.part.now)) (sym c.text_begins.ensures ∙ c.if-text_begins.true))
