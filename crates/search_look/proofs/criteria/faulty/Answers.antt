use Rattle.mail_searches.proofs.Said.{none_of_faulty}
use Rattle.search_look.proofs.criteria.faulty.Goals as goal

pub returns-clause-none : goal.returns-clause-none
returns-clause-none c =
    none_of_faulty c.args.props.now (record { bytes = c.binary_len-restriction.ensures; scope = λ b is. (c.binary_len-scope.ensures b is).1 }) c.requires
