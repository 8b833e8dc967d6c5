use Rattle.std.proofs.Common.{refl}
use Rattle.search_obj.specs.Writing.{written}
use Rattle.search_obj.proofs.ValueLaws.{mark_fits}
use Rattle.search_obj.proofs.WriteLaws.{others_written, says_written}
use Rattle.search_obj.proofs.writing.write_search.Goals as goal

pub put_bytes-requires : goal.put_bytes-requires
put_bytes-requires c = rw (c.in_ok-text.ensures, c.mark.ensures) (mark_fits c.criteria.inside.version)

pub returns-clause-values : goal.returns-clause-values
unfolding written
returns-clause-values c = rw (c.in_ok-put_bytes.ensures, c.in_ok-text.ensures, c.mark.ensures, c.in_ok-put_criteria.ensures.values, ← c.criteria.view_is) refl

pub returns-clause-says : goal.returns-clause-says
returns-clause-says c = rw (returns-clause-values c) (says_written c.args.criteria.now c.args.props c.values.ensures.props c.in_ok-put_criteria.ensures.sound c.in_ok-put_criteria.ensures.fit)

pub returns-clause-others : goal.returns-clause-others
returns-clause-others c = rw (returns-clause-values c) (others_written c.args.criteria.now c.args.props)
