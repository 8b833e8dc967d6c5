use Rattle.std.proofs.Common.{◌<◌, ap, length, arith}
use Rattle.std.proofs.lemmas.Bool.{eqb-true, eq-eqb}
use Rattle.std.proofs.lemmas.List.{get_or_read}
use Rattle.alloc_map.proofs.BitLaws.{length-bits_of, clear_byte, byte_clear}
use Rattle.alloc_map.proofs.bits.Bits.is_clear.Goals as goal

pub index-requires : goal.index-requires
index-requires c = omega (arith, ap length c.self.view_is, length-bits_of c.self.inside.bytes.items, c.self.inside.bytes.ok.0)

pub returns : goal.returns
returns c =
    let bytes = c.self.inside.bytes in
    let within : c.args.byte < length bytes.items = omega (arith, ap length c.self.view_is, length-bits_of bytes.items, bytes.ok.0) in
    let read = get_or_read bytes.items c.args.byte c.index.result.now within c.index.ensures 0 in (
      λ h. clear_byte c.args.self.now bytes.items c.args.byte c.self.view_is within c.index.result.now read (eqb-true _ _ h),
      λ h. eq-eqb _ _ (byte_clear c.args.self.now bytes.items c.args.byte c.self.view_is within c.index.result.now read (omega arith) h),
    )
