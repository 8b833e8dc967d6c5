use Rattle.tree_look.proofs.Made.{shows_tree}
use Rattle.tree_look.proofs.shown.shows_tree.Goals as goal

pub returns : goal.returns
returns c = shows_tree
