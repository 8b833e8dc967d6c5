use Rattle.std.proofs.Common.{ap, length, arith}
use Rattle.std.proofs.lemmas.List.{get_or_read}
use Rattle.alloc_map.proofs.BitLaws.{length-bits_of, read_bit}
use Rattle.alloc_map.proofs.bits.Bits.get.Goals as goal

pub index-requires : goal.index-requires
index-requires c = omega (arith, ap length c.self.view_is, length-bits_of c.self.inside.bytes.items, c.self.inside.bytes.ok.0)

pub returns : goal.returns
returns c =
    let bytes = c.self.inside.bytes in
    read_bit c.args.self.now bytes.items c.args.at c.index.result.now c.self.view_is c.requires (get_or_read bytes.items _ _ (omega (arith, ap length c.self.view_is, length-bits_of bytes.items, bytes.ok.0)) c.index.ensures 0)
