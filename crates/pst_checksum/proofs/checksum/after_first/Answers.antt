use Rattle.std.proofs.Common.{ℕ, ◌<◌, get_or, arith}
use Rattle.pst_base.proofs.FieldLaws.{number_at-zero}
use Rattle.pst_checksum.proofs.RegisterLaws.{crc_from-number}
use Rattle.pst_checksum.proofs.checksum.after_first.Goals as goal

pub returns : goal.returns
returns c =
    let bs = c.args.bytes.now in
    let fit : (i : ℕ) → get_or bs i 0 < 256 = λ i. omega (arith, c.type_inv.bytes i) in
    cc (crc_from-number 8 c.args.c bs c.requires fit, number_at-zero 8 bs)
