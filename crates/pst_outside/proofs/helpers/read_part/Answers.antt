use Rattle.std.proofs.Common.{rules}
use Rattle.pst_outside.proofs.Bytes.{filled_read}
use Rattle.pst_outside.proofs.helpers.read_part.Goals as goal

pub returns-clause-read : goal.returns-clause-read
returns-clause-read g c = λ told. filled_read c.read_at.new.buf _ c.fill.new.self c.in_ok-n.n _ (search rules) c.in_ok-n.ensures.within (c.in_ok-n.ensures.read told) (search rules)
