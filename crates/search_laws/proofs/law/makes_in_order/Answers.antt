use Rattle.search_laws.proofs.Making.{makes_in_order}
use Rattle.search_laws.proofs.law.makes_in_order.Goals as goal

pub returns : goal.returns
returns c = makes_in_order
