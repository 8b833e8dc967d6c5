use Rattle.search_obj.proofs.FlagLaws.{flags_of-Some, flags_of-number}
use Rattle.search_obj.proofs.law.flags_are_their_number.Goals as goal

pub returns-clause-found : goal.returns-clause-found
returns-clause-found c = flags_of-number

pub returns-clause-same : goal.returns-clause-same
returns-clause-same c = λ n f is. (flags_of-Some n f is).0

pub returns-clause-allowed : goal.returns-clause-allowed
returns-clause-allowed c = λ n f is. (flags_of-Some n f is).1
