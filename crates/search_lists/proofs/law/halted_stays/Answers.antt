use Rattle.search_lists.proofs.RowLaws.{halted_stays}
use Rattle.search_lists.proofs.law.halted_stays.Goals as goal

pub returns : goal.returns
returns c = halted_stays
