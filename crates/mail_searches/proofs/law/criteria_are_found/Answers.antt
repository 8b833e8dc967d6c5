use Rattle.mail_searches.proofs.CriteriaLaws.{says-found}
use Rattle.mail_searches.proofs.law.criteria_are_found.Goals as goal

pub returns : goal.returns
returns c = says-found
