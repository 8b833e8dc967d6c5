use Rattle.std.proofs.Common.{arith}
use Rattle.ref_counts.proofs.SeatLaws.{stands}
use Rattle.ref_counts.proofs.entries.seat.Goals as goal

pub returns-then-entries-at-clause-there : goal.returns-then-entries-at-clause-there
returns-then-entries-at-clause-there c =
    stands c.args.entries.now c.args.key c.place-at.result (0, 0) (omega arith) c.if-entries-at.true c.ranges.key.fits c.place-at.ensures.below c.place-at.ensures.above
