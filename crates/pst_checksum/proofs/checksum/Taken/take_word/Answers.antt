use Rattle.std.proofs.Common.{ℕ, ◌<◌, get_or, arith}
use Rattle.pst_checksum.proofs.TakenLaws.{crc_taken-word}
use Rattle.pst_checksum.proofs.checksum.Taken.take_word.Goals as goal

pub returns : goal.returns
returns c =
    let bs = c.args.bytes.now in
    let t = c.args.self in
    let fit : (i : ℕ) → get_or bs i 0 < 256 = λ i. omega (arith, c.type_inv.bytes i) in
    cc (crc_taken-word t.a t.b t.c t.d t.e bs c.requires fit (omega arith) (omega arith) (omega arith))
