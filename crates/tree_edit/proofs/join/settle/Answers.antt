use Rattle.std.proofs.Common.{◌++◌, ◌∙◌, List, ap}
use Rattle.tree_edit.proofs.join.settle.Goals as goal

pub returns-clause-settles : goal.returns-clause-settles
returns-clause-settles g c = record {
  pieces = c.in_ok-pieces.pieces.items;
  makes = c.in_ok-pieces.ensures.makes;
  out = c.in_ok-append.ensures.items ∙ ap (λ (l : List _). l ++ c.in_ok-pieces.pieces.items) c.in_ok-push_kept.ensures;
}
