use Rattle.search_look.proofs.Keeping.{never_on}
use Rattle.search_look.proofs.look.look_criteria.Goals as goal

pub returns-in_err-node-clause-found : goal.returns-in_err-node-clause-found
returns-in_err-node-clause-found g c = λ N held. never_on _ _ c.in_err-node.field-0.0 _ c.from_residual.ensures.1 (c.in_err-node.ensures.found N held)
