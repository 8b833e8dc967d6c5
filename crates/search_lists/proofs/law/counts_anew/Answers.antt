use Rattle.search_lists.proofs.CountLaws.{counts_anew}
use Rattle.search_lists.proofs.law.counts_anew.Goals as goal

pub returns : goal.returns
returns c = counts_anew
