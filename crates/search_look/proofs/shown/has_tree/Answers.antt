use Rattle.search_look.proofs.Without.{has_tree}
use Rattle.search_look.proofs.shown.has_tree.Goals as goal

pub returns : goal.returns
returns c = has_tree
