use Rattle.property_context.proofs.UniqueLaws.{no-fault, same-rest, same-values}
use Rattle.property_context.proofs.law.one_context.Goals as goal

pub returns-clause-one : goal.returns-clause-one
returns-clause-one c = λ blocks subs values others rest left a b. (same-values blocks subs values others rest left a b, same-rest blocks subs values others rest left a b)

pub returns-clause-none : goal.returns-clause-none
returns-clause-none c = no-fault
