use Rattle.subnode_tree.proofs.GrownLaws.{subs_gives}
use Rattle.subnode_tree.proofs.law.subs_stay_read.Goals as goal

pub returns : goal.returns
returns c = λ find found more eof longer grows bid. subs_gives find found more eof longer grows bid
