use Rattle.std.proofs.Common.{◌∙◌, sym}
use Rattle.restr_eval.proofs.TextLaws.{contains_here}
use Rattle.restr_eval.proofs.content.bytes_contain.Goals as goal

pub returns-then-bytes_begin : goal.returns-then-bytes_begin
returns-then-bytes_begin c = sym (c.loop-rest.invariant ∙ contains_here c.loop-rest.rest.now c.args.part.now (sym c.bytes_begin.ensures ∙ c.if-bytes_begin.true))
