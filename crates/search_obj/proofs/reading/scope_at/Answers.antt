use Rattle.std.proofs.Common.{arith}
use Rattle.search_obj.proofs.ValueLaws.{binary_short}
use Rattle.search_obj.proofs.reading.scope_at.Goals as goal

pub returns-clause-fits : goal.returns-clause-fits
returns-clause-fits c = omega (arith, binary_short _ c.in-Some.ensures.fit, c.in_ok-read_ids.ensures.len, c.as_chunks.ensures.front_len)
