use Rattle.std.proofs.Common.{arith}
use Rattle.search_folders.proofs.telling.byte_count.Goals as goal

pub returns : goal.returns
returns c = λ i. omega (arith, c.type_inv.bytes i)
