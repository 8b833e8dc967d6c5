use Rattle.staged_nodes.proofs.LookLaws.{not_done, open_shows, shows_looked, shows_open}
use Rattle.staged_nodes.proofs.keeper.StagedKeeperNodeReader.get.Goals as goal

pub returns-in-None-clause-stays : goal.returns-in-None-clause-stays
returns-in-None-clause-stays g c = λ M shows. open_shows c.args.self.now.done M (not_done c.args.self.now.done c.if-is_some.ensures) (shows_looked _ _ _ _ c.get.ensures.stays c.get.ensures.pinned c.get.ensures.last c.get.ensures.room (shows_open c.args.self.now.done M (not_done c.args.self.now.done c.if-is_some.ensures) shows))
