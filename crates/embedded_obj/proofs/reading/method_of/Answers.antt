use Rattle.std.proofs.Common.{arith}
use Rattle.embedded_obj.proofs.NameLaws.{no-number, number-length}
use Rattle.embedded_obj.proofs.reading.method_of.Goals as goal

pub u32_at-requires : goal.u32_at-requires
u32_at-requires c = omega (arith, number-length _ c.in-Some.ensures.fit)

pub returns-in-None : goal.returns-in-None
returns-in-None c = no-number _ c.args.props.now c.in-None.ensures.bytes
