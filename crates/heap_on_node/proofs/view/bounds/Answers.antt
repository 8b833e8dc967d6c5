use Rattle.std.proofs.Common.{arith}
use Rattle.heap_on_node.proofs.MapLaws.{offset-order, offset-within}
use Rattle.heap_on_node.proofs.view.bounds.Goals as goal

pub returns-clause-order : goal.returns-clause-order
returns-clause-order c = omega (arith, offset-order c.args.b.now c.args.i c.requires.map c.requires.low c.requires.high)

pub returns-clause-within : goal.returns-clause-within
returns-clause-within c = omega (arith, offset-within c.args.b.now c.args.i c.requires.map c.requires.high, c.requires.map.within)
