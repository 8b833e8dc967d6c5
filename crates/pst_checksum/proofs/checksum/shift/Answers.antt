use Rattle.pst_checksum.specs.Taken.{shifted}
use Rattle.pst_checksum.proofs.checksum.shift.Goals as goal

pub returns : goal.returns
unfolding shifted
returns c = cc
