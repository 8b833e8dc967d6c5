use Rattle.std.proofs.Common.{arith}
use Rattle.store_filling.proofs.CountLaws.{summed_all}
use Rattle.store_filling.proofs.counting.sizes_in.Goals as goal

pub returns : goal.returns
returns c = summed_all c.args.lines.now c.loop-line.line-index c.loop-line.sum (omega (arith, c.loop-line-test.false)) c.loop-line.invariant.bound c.loop-line.invariant.summed
