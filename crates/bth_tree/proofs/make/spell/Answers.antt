use Rattle.std.proofs.Common.{◌∙◌, arith}
use Rattle.bth_tree.proofs.MakeLaws.{spell-step}
use Rattle.bth_tree.proofs.make.spell.Goals as goal

pub loop-record-preserved : goal.loop-record-preserved
loop-record-preserved c =
    rw (c.in_ok-extend_from_slice-2.ensures.items, c.in_ok-extend_from_slice.ensures.items)
    (spell-step c.args.k c.loop-record.record-index c.args.recs.now c.record-item.result c.loop-record.out.items c.to_le_bytes-key.result c.as_slice.result.now
    c.requires (omega arith) c.record-item.is c.to_le_bytes-key.ensures c.as_slice.ensures.value ∙ c.loop-record.invariant)
