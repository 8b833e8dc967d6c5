use Rattle.search_lists.proofs.FreshLaws.{stays_fresh}
use Rattle.search_lists.proofs.law.stays_fresh.Goals as goal

pub returns : goal.returns
returns c = stays_fresh
