use Rattle.std.proofs.Common.{◌≡◌, ◌<◌, ◌+◌, ◌%◌, ◌^◌, bit_xor, get_or, drop, ◌∷◌, arith, refl}
use Rattle.std.proofs.lemmas.List.{drop_more, drop_all}
use Rattle.std.proofs.lemmas.Nat.{and_mask, xor_lt}
use Rattle.pst_checksum.specs.Crc.{crc_of}
use Rattle.pst_checksum.proofs.RegisterLaws.{after_bits-byte, crc_from-cons, crc_from-nil}
use Rattle.rates.proofs.TableRule.{entry_at}
use Rattle.rates.proofs.crc.one_table.crc_by_one_table.Goals as goal

pub loop-b-init : goal.loop-b-init
unfolding crc_of
loop-b-init c = refl

pub loop-b-preserved : goal.loop-b-preserved
loop-b-preserved c =
    let bs = c.args.bytes.now in
    let i = c.loop-b.b-index in
    let reg = c.loop-b.register in
    let byte : get_or bs i 0 < 256 = omega (arith, c.type_inv.bytes i) in
    let rest : drop i bs ≡ get_or bs i 0 ∷ drop (i + 1) bs = drop_more bs i 0 (omega arith) in
    let low : reg % 2 ^ 8 < 256 = omega arith in
    cc (rest, entry_at (bit_xor (reg % 2 ^ 8) (get_or bs i 0)) (xor_lt 8 (reg % 2 ^ 8) (get_or bs i 0) low byte), after_bits-byte reg (get_or bs i 0) byte, and_mask reg 8, crc_from-cons reg (get_or bs i 0) (drop (i + 1) bs))

pub returns : goal.returns
returns c =
    let none = drop_all c.loop-b.b-index c.args.bytes.now (omega arith) in
    cc (none, crc_from-nil c.loop-b.register)
