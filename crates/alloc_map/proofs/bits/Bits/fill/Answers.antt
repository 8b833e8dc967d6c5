use Rattle.std.proofs.Common.{arith}
use Rattle.alloc_map.proofs.ChangeLaws.{Becomes-more}
use Rattle.alloc_map.proofs.bits.Bits.fill.Goals as goal

pub loop-at-preserved : goal.loop-at-preserved
loop-at-preserved c = Becomes-more c.loop-at.at _ c.loop-at.invariant c.put.ensures (omega arith) (omega arith)
