use Rattle.std.proofs.Common.{◌≡◌, drop}
use Rattle.node_port.specs.Nodes.{ascend}
use Rattle.node_port.proofs.node.Changes.ascend.Given as goal

abbrev pub invariant-loop-change : goal.invariant-loop-change
invariant-loop-change l = ascend 0 l.self.nodes.items ≡ ascend l.low (drop l.change-index l.self.nodes.items)
