use Rattle.search_lists.proofs.ThereLaws.{settles_there}
use Rattle.search_lists.proofs.law.settles_there.Goals as goal

pub returns : goal.returns
returns c = settles_there
