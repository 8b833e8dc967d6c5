use Rattle.std.proofs.Common.{◌≡◌, drop}
use Rattle.pst_checksum.specs.Crc.{crc_from, crc_of}
use Rattle.rates.proofs.crc.one_table.crc_by_one_table.Given as goal

abbrev pub invariant-loop-b : goal.invariant-loop-b
invariant-loop-b l = crc_from l.register (drop l.b-index l.bytes) ≡ crc_of l.bytes
