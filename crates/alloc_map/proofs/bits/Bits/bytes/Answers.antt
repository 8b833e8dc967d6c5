use Rattle.std.proofs.Common.{ap, length, arith}
use Rattle.alloc_map.proofs.BitLaws.{length-bits_of}
use Rattle.alloc_map.proofs.bits.Bits.bytes.Goals as goal

pub returns : goal.returns
returns c = omega (arith, ap length c.self.view_is, length-bits_of c.self.inside.bytes.items, c.len.ensures)
