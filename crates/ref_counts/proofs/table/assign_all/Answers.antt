use Rattle.std.proofs.Common.{arith}
use Rattle.ref_counts.proofs.ChangeLaws.{more-put}
use Rattle.ref_counts.proofs.table.assign_all.Goals as goal

pub loop-change-preserved : goal.loop-change-preserved
loop-change-preserved c = (
  c.assign.ensures.ascend,
  λ key has. c.assign.ensures.kept key (c.loop-change.invariant.1 key has),
  λ room key. more-put c.args.entries.now c.loop-change.entries c.assign.new.entries c.args.changes.now c.loop-change.change-index _ (omega arith) room (c.loop-change.invariant.2 room)
      (c.assign.ensures.number (c.loop-change.invariant.1 _ (room.here c.loop-change.change-index _ (omega arith)))) key,
)
