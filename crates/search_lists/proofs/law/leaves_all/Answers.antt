use Rattle.search_lists.proofs.LeaveLaws.{leaves_all}
use Rattle.search_lists.proofs.law.leaves_all.Goals as goal

pub returns : goal.returns
returns c = leaves_all
