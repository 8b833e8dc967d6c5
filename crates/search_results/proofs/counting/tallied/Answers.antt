use Rattle.std.proofs.Common.{arith}
use Rattle.std.proofs.lemmas.Result.{err_from_is_err_and}
use Rattle.mail_draft.proofs.DeskCalls.{reads_then}
use Rattle.mail_draft.proofs.DeskLoops.{after_reads, reads_exit, reads_none, reads_ok}
use Rattle.search_results.proofs.CountLaws.{counts_all, counts_none, counts_one, counts_stop}
use Rattle.search_results.proofs.counting.tallied.Goals as goal

pub loop-id-init : goal.loop-id-init
loop-id-init g c = record { few = omega arith; fewer = omega arith; reads = reads_none _; counts = λ T s. counts_none T _ _ }

pub returns-in_err-flag-clause-answer : goal.returns-in_err-flag-clause-answer
returns-in_err-flag-clause-answer g c =
    let p = err_from_is_err_and c.from_residual.result c.from_residual.ensures.1 in
    record {
      says = λ T s. rw (p.1, p.2)
          (counts_stop T _ _ c.loop-id.id-index _ _ c.loop-id-test.true ((after_reads c.loop-id.invariant.reads c.in_err-flag.ensures.answer).says T s) (c.loop-id.invariant.counts T s));
    }

pub returns-in_err-flag-clause-reads : goal.returns-in_err-flag-clause-reads
returns-in_err-flag-clause-reads g c = reads_exit _ (reads_then c.loop-id.invariant.reads c.in_err-flag.ensures.reads) c.from_residual.ensures.1

pub with_flag-count-requires-clause-few : goal.with_flag-count-requires-clause-few
with_flag-count-requires-clause-few g c = omega (arith, c.loop-id.invariant.few)

pub loop-id-preserved : goal.loop-id-preserved
loop-id-preserved g c = record {
  few = omega (arith, c.loop-id.invariant.few, c.with_flag-count.ensures.few);
  fewer = c.with_flag-count.ensures.fewer;
  reads = reads_ok tt (reads_then c.loop-id.invariant.reads c.in_ok-flag.ensures.reads);
  counts = λ T s.
      counts_one T _ _ c.loop-id.id-index _ _ c.in_ok-flag.flag c.loop-id-test.true c.with_flag-count.ensures.count
      ((after_reads c.loop-id.invariant.reads c.in_ok-flag.ensures.answer).says T s) (c.loop-id.invariant.counts T s);
}

pub returns-clause-answer : goal.returns-clause-answer
returns-clause-answer g c = record { says = λ T s. counts_all T _ _ c.loop-id.id-index _ (omega arith) (c.loop-id.invariant.counts T s) }

pub returns-clause-reads : goal.returns-clause-reads
returns-clause-reads g c = reads_ok _ c.loop-id.invariant.reads
