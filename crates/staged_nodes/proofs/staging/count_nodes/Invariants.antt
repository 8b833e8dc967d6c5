use Rattle.std.proofs.Common.{◌≡◌, ◌^◌, min, take}
use Rattle.node_port.specs.Stops.{size}
use Rattle.staged_nodes.proofs.staging.count_nodes.Given as goal

abbrev pub invariant-loop-change : goal.invariant-loop-change
invariant-loop-change l = l.n ≡ min (size (take l.change-index l.nodes)) (2 ^ 60)
