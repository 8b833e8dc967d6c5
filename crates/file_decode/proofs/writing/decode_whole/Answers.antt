use Rattle.std.proofs.Common.{Err, ap, subst, sym}
use Rattle.std.proofs.lemmas.Result.{err_from_is_err_and}
use Rattle.pst_outside.specs.World.{Image}
use Rattle.file_layout.proofs.Underway.{untouched_then}
use Rattle.file_decode.specs.Source.{IsSource}
use Rattle.copy_part.proofs.Keeping.{keeps_along, keeps_untouched}
use Rattle.file_decode.proofs.StopLaws.{scan-stop, source-stop, writing-stops}
use Rattle.file_decode.proofs.writing.decode_whole.Goals as goal

pub returns-in_err-source-clause-stops : goal.returns-in_err-source-clause-stops
returns-in_err-source-clause-stops g c =
    let p = err_from_is_err_and c.from_residual.result c.from_residual.ensures.1 in
    rw (p.1, p.2) (source-stop c.in_err-source.field-0.0 (g.W.Outside.view c.args.w.now) (g.W.Outside.view c.open_source.new.w) c.in_err-source.ensures.same (λ e. c.in_err-source.ensures.fault (ap Err e)) c.in_err-source.ensures.refused)

pub returns-in_err-blocks-clause-stops : goal.returns-in_err-blocks-clause-stops
returns-in_err-blocks-clause-stops g c =
    let p = err_from_is_err_and c.from_residual-in_err-blocks.result c.from_residual-in_err-blocks.ensures.1 in
    rw (p.1, p.2)
    (scan-stop c.in_err-blocks.field-0.0 c.in_ok-source.source (g.W.Outside.view c.args.w.now) (g.W.Outside.view c.open_source.new.w) (g.W.Outside.view c.scan_blocks.new.w) c.in_ok-source.ensures.same c.in_err-blocks.ensures.same
    (λ e. c.in_err-blocks.ensures.fault (ap Err e)) c.in_ok-source.ensures.source c.in_err-blocks.ensures.refused)

pub write_copy-requires-clause-source : goal.write_copy-requires-clause-source
write_copy-requires-clause-source g c = λ told.
    let same = c.in_ok-blocks.ensures.same.stays in
    subst (λ (i : Image). IsSource i c.in_ok-source.source) (sym (same.here told)) (c.in_ok-source.ensures.source (same.told told))

pub returns-clause-keeps : goal.returns-clause-keeps
returns-clause-keeps g c = keeps_along (keeps_untouched (untouched_then c.in_ok-source.ensures.same c.in_ok-blocks.ensures.same)) c.write_copy.ensures.keeps

pub returns-clause-stops : goal.returns-clause-stops
returns-clause-stops g c =
    writing-stops c.write_copy.result (g.W.Outside.view c.args.w.now) (g.W.Outside.view c.scan_blocks.new.w) (g.W.Outside.view c.write_copy.new.w) (untouched_then c.in_ok-source.ensures.same c.in_ok-blocks.ensures.same).counts
    c.write_copy.ensures.fault c.write_copy.ensures.stops
