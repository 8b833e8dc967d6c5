use Rattle.pst_checksum.specs.Taken.{crc_taken}
use Rattle.pst_checksum.proofs.checksum.Taken.finish.Goals as goal

pub returns : goal.returns
unfolding crc_taken
returns c = cc
