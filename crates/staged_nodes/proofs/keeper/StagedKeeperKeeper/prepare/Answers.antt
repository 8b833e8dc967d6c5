use Rattle.staged_nodes.proofs.LookLaws.{not_done, shows_open}
use Rattle.staged_nodes.proofs.keeper.StagedKeeperKeeper.prepare.Goals as goal

pub returns-clause-full : goal.returns-clause-full
returns-clause-full g c = λ M shows. c.plan.ensures.decides (g.K.NodeReader.room c.args.self.now.keeper) (shows_open c.args.self.now.done M (not_done c.args.self.now.done c.if-is_some.ensures) shows).left
