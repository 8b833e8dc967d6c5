use Rattle.std.proofs.Common.{arith}
use Rattle.std.proofs.lemmas.Grind.{common_steps}
use Rattle.mail_parts.proofs.KeptIds.{kept_step}
use Rattle.mail_parts.proofs.part_ids.greatest_kept.Goals as goal

pub loop-sub-preserved : goal.loop-sub-preserved
loop-sub-preserved c =
    let step = kept_step c.loop-sub.greatest c.loop-sub.sub-index c.as_slice-sub-items.result.now c.sub-item.result (omega arith) c.sub-item.is in
    grind (arith, common_steps, step)
