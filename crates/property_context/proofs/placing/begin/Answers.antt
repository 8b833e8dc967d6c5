use Rattle.std.proofs.Common.{◌≡◌, ◌∙◌, length, sym, ap, arith}
use Rattle.write_limits.specs.Limits.{direct}
use Rattle.write_limits.proofs.DirectLaws.{direct-flattened}
use Rattle.property_context.proofs.placing.begin.Goals as goal

pub returns-clause-span : goal.returns-clause-span
returns-clause-span c =
    let items : length c.from.result.items ≡ length c.into_vec.result.items = ap length c.from.ensures.0 in
    let count : direct c.args.rest ≡ length c.into_vec.result.items = ap direct (sym c.into_vec.ensures) ∙ direct-flattened c.into_vec.result.items in
    omega (arith, items, count)
