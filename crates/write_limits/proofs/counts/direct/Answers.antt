use Rattle.std.proofs.Common.{◌∙◌, sym, ap}
use Rattle.write_limits.specs.Limits.{direct}
use Rattle.write_limits.proofs.DirectLaws.{direct-flattened}
use Rattle.write_limits.proofs.counts.direct.Goals as goal

pub returns : goal.returns
returns c = sym (direct-flattened c.as_slice.result.now) ∙ ap direct c.as_slice.ensures
