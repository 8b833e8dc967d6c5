use Rattle.search_obj.proofs.FoundLaws.{unique}
use Rattle.search_obj.proofs.law.criteria_are_unique.Goals as goal

pub returns : goal.returns
returns c = unique
