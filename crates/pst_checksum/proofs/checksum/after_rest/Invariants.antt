use Rattle.std.proofs.Common.{◌≡◌, drop}
use Rattle.pst_checksum.specs.Crc.{crc_from}
use Rattle.pst_checksum.proofs.checksum.after_rest.Given as goal

abbrev pub invariant-loop-b : goal.invariant-loop-b
invariant-loop-b l = crc_from l.register (drop l.b-index l.bytes) ≡ crc_from l.fn.c l.bytes
