use Rattle.search_mending.proofs.AllLaws.{tells_stale}
use Rattle.search_mending.proofs.law.tells_stale.Goals as goal

pub returns : goal.returns
returns c = tells_stale
