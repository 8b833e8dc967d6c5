use Rattle.search_laws.proofs.Moves.{moves_in_order}
use Rattle.search_laws.proofs.law.moves_in_order.Goals as goal

pub returns : goal.returns
returns c = moves_in_order
