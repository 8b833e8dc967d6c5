use Rattle.std.proofs.Common.{rules, ◌∙◌}
use Rattle.value_text.proofs.NumberLaws.{from-parse}
use Rattle.value_text.proofs.numbers.magnitude.Goals as goal

pub returns : goal.returns
returns c = c.ok.ensures.value ∙ from-parse _ _ c.parse.ensures.value.0 (search rules)
