use Rattle.std.proofs.Common.{◌≡◌, length}
use Rattle.pst_checksum.specs.Crc.{crc_from}
use Rattle.pst_checksum.proofs.checksum.after_words.Given as goal

abbrev pub invariant-loop-rest : goal.invariant-loop-rest
invariant-loop-rest l = crc_from l.register l.rest ≡ crc_from l.fn.c l.fn.bytes

abbrev pub decreases-loop-rest : goal.decreases-loop-rest
decreases-loop-rest l = length l.rest
