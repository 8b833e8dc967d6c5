use Rattle.tree_look.proofs.Again.{shows_found}
use Rattle.tree_look.proofs.shown.shows_found.Goals as goal

pub returns : goal.returns
returns c = shows_found
