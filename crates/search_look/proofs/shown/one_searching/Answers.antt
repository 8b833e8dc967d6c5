use Rattle.search_look.proofs.One.{one_searching}
use Rattle.search_look.proofs.shown.one_searching.Goals as goal

pub returns : goal.returns
returns c = one_searching
