use Rattle.std.proofs.lemmas.Result.{err_from_is_err_and}
use Rattle.file_layout.proofs.Underway.{untouched_then}
use Rattle.copy_part.proofs.Keeping.{keeps_along, keeps_untouched}
use Rattle.mail_session.proofs.CompactLaws.{later_result, later_stops}
use Rattle.mail_session.proofs.compacting.copy_file.Goals as goal

pub returns-in_err-source-clause-stops : goal.returns-in_err-source-clause-stops
returns-in_err-source-clause-stops g c =
    let p = err_from_is_err_and c.from_residual-in_err-source.result c.from_residual-in_err-source.ensures.1 in
    rw (p.1, p.2) (later_stops (g.W.Outside.view c.find_source.new.w) c.in_err-source.field-0.0 c.in_ok-check_empty.ensures.same c.in_err-source.ensures.stops)

pub returns-clause-keeps : goal.returns-clause-keeps
returns-clause-keeps g c = keeps_along (keeps_untouched (untouched_then c.in_ok-check_empty.ensures.same c.in_ok-source.ensures.same)) c.copy_source.ensures.keeps

pub returns-clause-stops : goal.returns-clause-stops
returns-clause-stops g c = later_result (g.W.Outside.view c.copy_source.new.w) c.copy_source.result (untouched_then c.in_ok-check_empty.ensures.same c.in_ok-source.ensures.same) c.copy_source.ensures.stops
