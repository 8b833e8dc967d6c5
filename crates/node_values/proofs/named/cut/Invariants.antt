use Rattle.std.proofs.Common.{◌≡◌, ◌++◌, length}
use Rattle.node_values.specs.Named.{pieces}
use Rattle.node_values.proofs.named.cut.Given as goal

abbrev pub invariant-loop-rest : goal.invariant-loop-rest
invariant-loop-rest l = l.pieces ++ pieces l.rest ≡ pieces l.bytes

abbrev pub decreases-loop-rest : goal.decreases-loop-rest
decreases-loop-rest l = length l.rest
