use Rattle.std.proofs.Common.{ap, sym}
use Rattle.node_port.specs.Nodes.{changed}
use Rattle.staged_nodes.proofs.LookLaws.{shows_open}
use Rattle.staged_nodes.proofs.keeper.StagedKeeperKeeper.apply.Goals as goal

pub returns-clause-made : goal.returns-clause-made
returns-clause-made g c = λ last cs fits rests tells M shows. (M, shows_open c.args.self.now.done M fits.0 shows, ap (changed M) (sym fits.1.nodes))
