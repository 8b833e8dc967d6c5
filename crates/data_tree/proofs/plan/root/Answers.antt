use Rattle.std.proofs.Common.{◌∙◌, sym}
use Rattle.data_tree.proofs.KeepSteps.{root-above, root-alone}
use Rattle.data_tree.proofs.plan.root.Goals as goal

pub returns-then-above-gt0 : goal.returns-then-above-gt0
returns-then-above-gt0 c = c.last_id.ensures ∙ sym (root-above c.args.blocks.now c.args.above.now c.if-above-gt0.true)

pub returns-else-above-gt0 : goal.returns-else-above-gt0
returns-else-above-gt0 c = c.last_id-else-above-gt0.ensures ∙ sym (root-alone c.args.blocks.now c.args.above.now c.if-above-gt0.false)
