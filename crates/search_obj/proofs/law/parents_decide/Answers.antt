use Rattle.search_obj.proofs.ScopeLaws.{scope_decides}
use Rattle.search_obj.proofs.law.parents_decide.Goals as goal

pub returns : goal.returns
returns c = scope_decides
