use Rattle.std.proofs.Common.{ap, length, arith}
use Rattle.std.proofs.lemmas.List.{get_or_read}
use Rattle.alloc_map.proofs.BitLaws.{length-bits_of, set_bit, clear_bit}
use Rattle.alloc_map.proofs.bits.Bits.put.Goals as goal

pub index_mut-requires : goal.index_mut-requires
index_mut-requires c = omega (arith, ap length c.self.view_is, length-bits_of c.self.inside.bytes.items, c.self.inside.bytes.ok.0)

pub index_mut-requires-else-value : goal.index_mut-requires-else-value
index_mut-requires-else-value c = omega (arith, ap length c.self.view_is, length-bits_of c.self.inside.bytes.items, c.self.inside.bytes.ok.0)

pub returns-then-value : goal.returns-then-value
returns-then-value c =
    let bytes = c.self.inside.bytes in
    set_bit c.args.self.now bytes.items c.args.at c.index_mut.result.now c.args.value c.self.view_is c.requires c.if-value.true (get_or_read bytes.items _ _ (omega (arith, ap length c.self.view_is, length-bits_of bytes.items, bytes.ok.0)) c.index_mut.ensures.value 0)

pub returns-else-value : goal.returns-else-value
returns-else-value c =
    let bytes = c.self.inside.bytes in
    clear_bit c.args.self.now bytes.items c.args.at c.index_mut-else-value.result.now c.args.value c.self.view_is c.requires c.if-value.false (get_or_read bytes.items _ _ (omega (arith, ap length c.self.view_is, length-bits_of bytes.items, bytes.ok.0)) c.index_mut-else-value.ensures.value 0)
