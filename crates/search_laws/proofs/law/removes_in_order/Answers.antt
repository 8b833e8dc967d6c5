use Rattle.search_laws.proofs.Moves.{removes_in_order}
use Rattle.search_laws.proofs.law.removes_in_order.Goals as goal

pub returns : goal.returns
returns c = removes_in_order
