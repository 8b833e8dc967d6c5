use Rattle.std.proofs.Common.{refl}
use Rattle.pst_outside.proofs.Moments.{weaker}
use Rattle.gate_file.proofs.Effects.{gate_same}
use Rattle.gate_file.proofs.gate.disarm.Goals as goal

pub returns-clause-same : goal.returns-clause-same
returns-clause-same g c = λ settled size twice. weaker _ (c.write_through.ensures.any_moment settled)
    (λ i told torn. gate_same refl (size (c.write_through.ensures.content.told told)) (twice (c.write_through.ensures.content.told told)) torn)

pub returns-clause-store : goal.returns-clause-store
returns-clause-store g c = λ size twice told.
    gate_same refl (size (c.write_through.ensures.content.told told)) (twice (c.write_through.ensures.content.told told)) (c.write_through.ensures.content.here told)
