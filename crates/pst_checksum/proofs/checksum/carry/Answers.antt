use Rattle.pst_checksum.specs.Taken.{carried}
use Rattle.pst_checksum.proofs.checksum.carry.Goals as goal

pub returns : goal.returns
unfolding carried
returns c = cc
