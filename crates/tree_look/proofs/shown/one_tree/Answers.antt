use Rattle.tree_look.proofs.One.{one_tree}
use Rattle.tree_look.proofs.shown.one_tree.Goals as goal

pub returns : goal.returns
returns c = one_tree
