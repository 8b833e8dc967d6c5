use Rattle.std.proofs.Common.{◌∙◌, sym, arith}
use Rattle.bth_tree.proofs.ReadLaws.{lie-high, lie-low, lie-next}
use Rattle.bth_tree.proofs.read.lie_within.Goals as goal

pub returns-then-key-least : goal.returns-then-key-least
returns-then-key-least c =
    sym (sym c.loop-i.invariant ∙ lie-low c.args.records.now c.loop-i.i c.loop-i.least c.args.high c.from-key.result (omega arith) c.from-key.ensures (omega arith))

pub returns-then-high-key : goal.returns-then-high-key
returns-then-high-key c =
    sym (sym c.loop-i.invariant ∙ lie-high c.args.records.now c.loop-i.i c.loop-i.least c.args.high c.from-key.result (omega arith) c.from-key.ensures (omega arith) (omega arith))

pub loop-i-preserved : goal.loop-i-preserved
loop-i-preserved c =
    lie-next c.args.records.now c.loop-i.i c.loop-i.least c.args.high c.from-key.result (omega arith) c.from-key.ensures (omega arith) (omega arith) ∙ c.loop-i.invariant
