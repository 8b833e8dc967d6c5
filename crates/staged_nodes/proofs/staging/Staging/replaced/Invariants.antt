use Rattle.std.proofs.Common.{◌≡◌, ◌≤◌, take}
use Rattle.staged_nodes.specs.Sizes.{replaced}
use Rattle.staged_nodes.specs.Staged.{Staged, staged_size}
use Rattle.staged_nodes.specs.Staging.{IsStaged}
use Rattle.staged_nodes.proofs.staging.Staging.replaced.Given as goal

abbrev pub invariant-loop-change : goal.invariant-loop-change
invariant-loop-change l = (F : Staged) → IsStaged l.self F → replaced F l.nodes ≤ staged_size F → l.n ≡ replaced F (take l.change-index l.nodes)
