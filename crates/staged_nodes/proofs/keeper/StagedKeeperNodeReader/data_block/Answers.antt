use Rattle.staged_nodes.proofs.LookLaws.{not_done, open_shows, shows_looked, shows_open}
use Rattle.staged_nodes.proofs.keeper.StagedKeeperNodeReader.data_block.Goals as goal

pub returns-in-None-clause-stays : goal.returns-in-None-clause-stays
returns-in-None-clause-stays g c = λ M shows. open_shows c.args.self.now.done M (not_done c.args.self.now.done c.if-is_some.ensures) (shows_looked _ _ _ _ c.data_block.ensures.stays c.data_block.ensures.pinned c.data_block.ensures.last c.data_block.ensures.room (shows_open c.args.self.now.done M (not_done c.args.self.now.done c.if-is_some.ensures) shows))
