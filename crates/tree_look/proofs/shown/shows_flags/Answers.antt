use Rattle.tree_look.proofs.Known.{shows_flags}
use Rattle.tree_look.proofs.shown.shows_flags.Goals as goal

pub returns : goal.returns
returns c = shows_flags
