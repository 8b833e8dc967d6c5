use Rattle.pst_commit.proofs.Holding.{still_held}
use Rattle.pst_commit.proofs.PinLaws.{still_pinned}
use Rattle.pst_commit.proofs.keeper.FileKeeperKeeper.prepare.Goals as goal

pub returns-clause-fits : goal.returns-clause-fits
returns-clause-fits g c = c.plan.ensures.plan c.args.self.now.found

pub returns-clause-full : goal.returns-clause-full
returns-clause-full g c = c.plan.ensures.full c.args.self.now.found

pub returns-clause-stops : goal.returns-clause-stops
returns-clause-stops g c = c.plan.ensures.stops c.args.self.now.found

pub returns-clause-stays : goal.returns-clause-stays
returns-clause-stays g c = λ N held. still_held c.args.self.now.found N c.plan.ensures.looks held

pub returns-clause-pinned : goal.returns-clause-pinned
returns-clause-pinned g c = λ N held p M is. still_pinned c.args.self.now.header c.plan.ensures.looks p M is
