use Rattle.mail_folders.specs.Pieces.{line_of_folder}
use Rattle.mail_draft.proofs.DeskCalls.{reads_then}
use Rattle.mail_draft.proofs.DeskLoops.{after_reads, reads_exit, reads_none, reads_ok}
use Rattle.mail_folders.proofs.Steps.{each_on, each_stops, stopped}
use Rattle.mail_folders.proofs.list.folder_lines.Goals as goal

pub returns-in_err-line-clause-answer : goal.returns-in_err-line-clause-answer
returns-in_err-line-clause-answer g c =
    let I = c.loop-place.invariant in let stop = c.in_err-line.field-0.0 in
    record {
      says = λ T s. I.rest T s _ (stopped _ _ stop _ c.from_residual.ensures.1
          (each_stops _ (line_of_folder T) _ _ _ _ stop c.loop-place-test.true ((after_reads I.reads c.in_err-line.ensures.answer).says T s)));
    }

pub returns-in_err-line-clause-reads : goal.returns-in_err-line-clause-reads
returns-in_err-line-clause-reads g c = reads_exit _ (reads_then c.loop-place.invariant.reads c.in_err-line.ensures.reads) c.from_residual.ensures.1

pub loop-place-preserved : goal.loop-place-preserved
loop-place-preserved g c =
    let I = c.loop-place.invariant in
    record {
      reads = reads_ok tt (reads_then I.reads c.in_ok-line.ensures.reads);
      rest = λ T s result says. I.rest T s result
          (each_on _ (line_of_folder T) _ _ _ _ _ _ result c.loop-place-test.true c.in_ok-push.ensures.items ((after_reads I.reads c.in_ok-line.ensures.answer).says T s) says);
    }

pub returns-clause-reads : goal.returns-clause-reads
returns-clause-reads g c = reads_ok _ c.loop-place.invariant.reads
