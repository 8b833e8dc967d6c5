use Rattle.search_lists.proofs.ScopeLaws.{scopes_are_within}
use Rattle.search_lists.proofs.law.scopes_are_within.Goals as goal

pub returns : goal.returns
returns c = scopes_are_within
