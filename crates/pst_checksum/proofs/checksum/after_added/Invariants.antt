use Rattle.std.proofs.Common.{◌≡◌, ◌≤◌, ◌+◌, ◌*◌, drop, length}
use Rattle.pst_checksum.specs.Taken.{crc_added}
use Rattle.pst_checksum.proofs.checksum.after_added.Given as goal

abbrev pub invariant-loop-word : goal.invariant-loop-word
invariant-loop-word l = record {
  long : 40 ≤ length l.rest + 8 * l.word-index;
  same : crc_added l.register (drop l.word-index l.word-items) l.rest ≡ crc_added 0 l.fn.words l.fn.bytes;
}
