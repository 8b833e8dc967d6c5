use Rattle.std.proofs.Common.{ℕ, ◌<◌, get_or, length, ap, arith}
use Rattle.std.proofs.lemmas.List.{length-drop, take_rest}
use Rattle.pst_checksum.proofs.TakenLaws.{crc_taken-none}
use Rattle.pst_checksum.proofs.checksum.crc_by_words.Goals as goal

pub loop-rest-init : goal.loop-rest-init
loop-rest-init c =
    let bs = c.args.bytes.now in
    let fit : (i : ℕ) → get_or bs i 0 < 256 = λ i. omega (arith, c.type_inv.bytes i) in
    record { long = c.requires; same = crc_taken-none bs c.requires fit }

pub loop-rest-preserved : goal.loop-rest-preserved
loop-rest-preserved c =
    let rest = c.loop-rest.rest.now in
    let part = take_rest rest 40 in
    let size = length-drop 40 rest in
    let part_size = ap length part in
    record { long = omega arith; same = cc }
