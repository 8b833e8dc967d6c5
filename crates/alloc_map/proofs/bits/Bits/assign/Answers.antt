use Rattle.std.proofs.Common.{ap, length, arith}
use Rattle.alloc_map.proofs.BitLaws.{length-bits_of}
use Rattle.alloc_map.proofs.bits.Bits.assign.Goals as goal

pub copy_over-requires : goal.copy_over-requires
copy_over-requires c =
    let to = c.self.inside.bytes in
    let from = c.other.inside.bytes in
    omega (arith, ap length c.self.view_is, ap length c.other.view_is, length-bits_of to.items, length-bits_of from.items, to.ok.0, from.ok.0)
