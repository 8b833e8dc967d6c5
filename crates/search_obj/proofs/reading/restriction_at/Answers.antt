use Rattle.search_obj.proofs.ValueLaws.{binary_short}
use Rattle.search_obj.proofs.reading.restriction_at.Goals as goal

pub returns-in-Ok-clause-fits : goal.returns-in-Ok-clause-fits
returns-in-Ok-clause-fits c = rw c.in-Ok.ensures.spelled.0 at (binary_short _ c.in-Some.ensures.fit)
