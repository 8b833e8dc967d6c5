use Rattle.pst_commit.proofs.Holding.{held_reads, still_held}
use Rattle.pst_commit.proofs.PinLaws.{err_weaker, ok_weaker, still_pinned}
use Rattle.pst_commit.proofs.keeper.FileKeeperNodeReader.data_block.Goals as goal

pub returns-clause-block : goal.returns-clause-block
returns-clause-block g c = ok_weaker c.data_block.result _ _ (λ y tells N held. tells N (held_reads c.args.self.now.found N held)) c.data_block.ensures.block

pub returns-clause-stops : goal.returns-clause-stops
returns-clause-stops g c = err_weaker c.data_block.result _ _ _ _ _ (λ N held. (N, held_reads c.args.self.now.found N held)) c.data_block.ensures.stops

pub returns-clause-stays : goal.returns-clause-stays
returns-clause-stays g c = λ N held. still_held c.args.self.now.found N c.data_block.ensures.looks held

pub returns-clause-pinned : goal.returns-clause-pinned
returns-clause-pinned g c = λ N held p M is. still_pinned c.args.self.now.header c.data_block.ensures.looks p M is
