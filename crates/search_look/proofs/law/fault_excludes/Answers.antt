use Rattle.search_look.proofs.Excludes.{excludes}
use Rattle.search_look.proofs.law.fault_excludes.Goals as goal

pub returns : goal.returns
returns c = excludes
