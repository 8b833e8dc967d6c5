use Rattle.std.proofs.Common.{rules}
use Rattle.pst_outside.proofs.Moments.{weaker}
use Rattle.gate_file.proofs.Effects.{settle_same}
use Rattle.gate_file.proofs.gate.settle.Goals as goal

pub returns-clause-same : goal.returns-clause-same
returns-clause-same g c = λ settled opens long. weaker _ (c.write_through.ensures.any_moment settled)
    (λ i told torn. settle_same (search rules) (opens (c.write_through.ensures.content.told told)) (long (c.write_through.ensures.content.told told)) torn)

pub returns-clause-store : goal.returns-clause-store
returns-clause-store g c = λ opens long told.
    settle_same (search rules) (opens (c.write_through.ensures.content.told told)) (long (c.write_through.ensures.content.told told)) (c.write_through.ensures.content.here told)
