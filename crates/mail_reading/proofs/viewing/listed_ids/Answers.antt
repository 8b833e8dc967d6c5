use Rattle.std.proofs.Common.{ℕ}
use Rattle.std.specs.Global.{Vec}
use Rattle.search_folders.proofs.mail_draft_laws.DeskCalls.{reads_then}
use Rattle.search_folders.proofs.mail_draft_laws.DeskLoops.{after_reads, reads_exit, reads_ok}
use Rattle.search_folders.proofs.mail_folders_laws.Steps.{stopped}
use Rattle.mail_reading.proofs.ListedLaws.{all_gone, goes_on, goes_stop, of_all}
use Rattle.mail_reading.proofs.viewing.listed_ids.Goals as goal

pub returns-in_err-ids-clause-answer : goal.returns-in_err-ids-clause-answer
returns-in_err-ids-clause-answer g c =
    let I = c.loop-row.invariant in let stop = c.in_err-ids.field-0.0 in
    record {
      says = λ T s. of_all (λ (ids : Vec ℕ). ids.items) T c.args.rows.now _ (I.rest T s _ (stopped _ _ stop _ c.from_residual.ensures.1
          (goes_stop (λ (ids : Vec ℕ). ids.items) T _ c.args.rows.now c.loop-row.row-index c.row-item.result stop c.loop-row-test.true c.row-item.is ((after_reads I.reads c.in_err-ids.ensures.answer).says T s))));
    }

pub returns-in_err-ids-clause-reads : goal.returns-in_err-ids-clause-reads
returns-in_err-ids-clause-reads g c = reads_exit _ (reads_then c.loop-row.invariant.reads c.in_err-ids.ensures.reads) c.from_residual.ensures.1

pub loop-row-preserved : goal.loop-row-preserved
loop-row-preserved g c =
    let I = c.loop-row.invariant in
    record {
      reads = reads_ok tt (reads_then I.reads c.in_ok-ids.ensures.reads);
      rest = λ T s result says. I.rest T s result
          (goes_on (λ (ids : Vec ℕ). ids.items) T _ c.args.rows.now c.loop-row.row-index c.row-item.result c.in_ok-ids.ids result c.loop-row-test.true c.row-item.is ((after_reads I.reads c.in_ok-ids.ensures.answer).says T s) says);
    }

pub returns-clause-answer : goal.returns-clause-answer
returns-clause-answer g c =
    let I = c.loop-row.invariant in
    record { says = λ T s. of_all (λ (ids : Vec ℕ). ids.items) T c.args.rows.now _ (I.rest T s _ (all_gone (λ (ids : Vec ℕ). ids.items) T c.args.rows.now c.loop-row.row-index c.loop-row.ids c.loop-row-test.false)) }

pub returns-clause-reads : goal.returns-clause-reads
returns-clause-reads g c = reads_ok _ c.loop-row.invariant.reads
