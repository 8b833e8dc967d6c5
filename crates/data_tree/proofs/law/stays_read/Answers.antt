use Rattle.data_tree.proofs.GrownLaws.{blocks_gives}
use Rattle.data_tree.proofs.law.stays_read.Goals as goal

pub returns : goal.returns
returns c = λ find found more eof longer grows bid. blocks_gives find found more eof longer grows bid
