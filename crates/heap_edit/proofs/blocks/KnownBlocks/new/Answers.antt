use Rattle.std.proofs.Common.{refl}
use Rattle.heap_edit.proofs.KnownLaws.{now-none}
use Rattle.heap_edit.proofs.blocks.KnownBlocks.new.Goals as goal

pub returns-clause-same : goal.returns-clause-same
returns-clause-same c = λ old k. (k.count, now-none _ old c.new-puts.ensures refl k)
