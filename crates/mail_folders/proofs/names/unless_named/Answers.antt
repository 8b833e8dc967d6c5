use Rattle.mail_draft.proofs.DeskCalls.{reads_then}
use Rattle.mail_draft.proofs.DeskLoops.{after_reads, reads_exit, reads_none, reads_ok}
use Rattle.mail_folders.proofs.Steps.{named_on, named_stops, stopped}
use Rattle.mail_folders.proofs.names.unless_named.Goals as goal

pub loop-folder-init : goal.loop-folder-init
loop-folder-init g c = record { reads = reads_none _; rest = λ T s result says. says }

pub returns-in_err-unless_has_name-clause-answer : goal.returns-in_err-unless_has_name-clause-answer
returns-in_err-unless_has_name-clause-answer g c =
    let I = c.loop-folder.invariant in let stop = c.in_err-unless_has_name.field-0.0 in
    record {
      says = λ T s. I.rest T s _ (stopped _ _ stop _ c.from_residual.ensures.1 (named_stops T _ _ _ stop c.loop-folder-test.true ((after_reads I.reads c.in_err-unless_has_name.ensures.answer).says T s)));
    }

pub returns-in_err-unless_has_name-clause-reads : goal.returns-in_err-unless_has_name-clause-reads
returns-in_err-unless_has_name-clause-reads g c = reads_exit _ (reads_then c.loop-folder.invariant.reads c.in_err-unless_has_name.ensures.reads) c.from_residual.ensures.1

pub loop-folder-preserved : goal.loop-folder-preserved
loop-folder-preserved g c =
    let I = c.loop-folder.invariant in
    record {
      reads = reads_ok tt (reads_then I.reads c.in_ok-unless_has_name.ensures.reads);
      rest = λ T s result says. I.rest T s result (named_on T _ _ _ result c.loop-folder-test.true ((after_reads I.reads c.in_ok-unless_has_name.ensures.answer).says T s) says);
    }

pub returns-clause-reads : goal.returns-clause-reads
returns-clause-reads g c = reads_ok _ c.loop-folder.invariant.reads
