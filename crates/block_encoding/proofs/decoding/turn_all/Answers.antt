use Rattle.std.proofs.Common.{◌∙◌, sym, arith, length}
use Rattle.block_encoding.proofs.Steps.{turn_done, turn_step}
use Rattle.block_encoding.proofs.decoding.turn_all.Goals as goal

pub loop-i-preserved : goal.loop-i-preserved
loop-i-preserved c = turn_step c.loop-i.bytes c.loop-i.word c.loop-i.i c.turned.result (omega (arith, c.loop-i.auto.bytes)) c.turned.ensures ∙ c.loop-i.invariant

pub returns : goal.returns
returns c = sym (turn_done c.loop-i.bytes c.loop-i.word c.loop-i.i (omega (arith, c.loop-i.auto.bytes))) ∙ c.loop-i.invariant
