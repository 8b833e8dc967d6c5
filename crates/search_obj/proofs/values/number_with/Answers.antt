use Rattle.std.proofs.Common.{arith}
use Rattle.search_obj.proofs.ValueLaws.{number_length}
use Rattle.search_obj.proofs.values.number_with.Goals as goal

pub u32_at-requires : goal.u32_at-requires
u32_at-requires c = omega (arith, number_length _ (rw c.requires at c.in_ok-bytes.ensures.fit))
