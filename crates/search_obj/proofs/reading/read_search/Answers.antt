use Rattle.std.proofs.Common.{sym, ◌∙◌}
use Rattle.search_obj.proofs.FoundLaws.{fault_given, fault_of, foreign_found, marked_found}
use Rattle.search_obj.proofs.reading.read_search.Goals as goal

pub returns-in_default-clause-read : goal.returns-in_default-clause-read
returns-in_default-clause-read c = foreign_found c.args.props.now (sym c.version_at.ensures ∙ c.in_default.is)

pub returns-in_err-criteria-clause-fault : goal.returns-in_err-criteria-clause-fault
returns-in_err-criteria-clause-fault c =
    fault_given c.args.props.now c.in_err-criteria.field-0.0 _ c.from_residual.ensures.1
    (fault_of c.args.props.now c.in-Some.version c.in_err-criteria.field-0.0 (sym c.in-Some.ensures) c.in_err-criteria.ensures.exact)

pub returns-clause-read : goal.returns-clause-read
returns-clause-read c = record {
  marked = rw c.in_ok-criteria.ensures.version (marked_found c.args.props.now c.in-Some.version (sym c.in-Some.ensures));
  set = rw c.in_ok-criteria.ensures.version c.in_ok-criteria.ensures.says;
  sound = c.in_ok-criteria.ensures.sound;
}
