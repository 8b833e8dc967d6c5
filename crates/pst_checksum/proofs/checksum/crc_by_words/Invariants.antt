use Rattle.std.proofs.Common.{◌≡◌, ◌≤◌, length}
use Rattle.pst_checksum.specs.Crc.{crc_of}
use Rattle.pst_checksum.specs.Taken.{crc_taken}
use Rattle.pst_checksum.proofs.checksum.crc_by_words.Given as goal

abbrev pub invariant-loop-rest : goal.invariant-loop-rest
invariant-loop-rest l = record {
  long : 40 ≤ length l.rest;
  same : crc_taken l.taken.a l.taken.b l.taken.c l.taken.d l.taken.e l.rest ≡ crc_of l.bytes;
}

abbrev pub decreases-loop-rest : goal.decreases-loop-rest
decreases-loop-rest l = length l.rest
