use Rattle.search_laws.proofs.Moves.{renames_in_order}
use Rattle.search_laws.proofs.law.renames_in_order.Goals as goal

pub returns : goal.returns
returns c = renames_in_order
