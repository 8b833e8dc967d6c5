use Rattle.std.proofs.Common.{arith}
use Rattle.std.proofs.lemmas.Result.{err_from_is_err_and}
use Rattle.mail_draft.proofs.UnreadLaws.{counts_all, counts_none, counts_one, counts_stop}
use Rattle.mail_draft.proofs.DeskCalls.{reads_then}
use Rattle.mail_draft.proofs.DeskLoops.{after_reads, reads_exit, reads_none, reads_ok}
use Rattle.mail_draft.proofs.on_desk.unread.unread_among.Goals as goal

pub loop-id-init : goal.loop-id-init
loop-id-init g c = record { few = omega arith; reads = reads_none _; counts = λ T s. counts_none T _ _ }

pub returns-in_err-one_more-clause-answer : goal.returns-in_err-one_more-clause-answer
returns-in_err-one_more-clause-answer g c =
    let p = err_from_is_err_and c.from_residual.result c.from_residual.ensures.1 in
    record {
      says = λ T s. rw (p.1, p.2)
          (counts_stop T _ _ c.loop-id.id-index c.loop-id.unread _ c.loop-id-test.true ((after_reads c.loop-id.invariant.reads c.in_err-one_more.ensures.answer).says T s) (c.loop-id.invariant.counts T s));
    }

pub returns-in_err-one_more-clause-reads : goal.returns-in_err-one_more-clause-reads
returns-in_err-one_more-clause-reads g c = reads_exit _ (reads_then c.loop-id.invariant.reads c.in_err-one_more.ensures.reads) c.from_residual.ensures.1

pub overflow_add-unread : goal.overflow_add-unread
overflow_add-unread g c = omega (arith, c.loop-id.invariant.few)

pub loop-id-preserved : goal.loop-id-preserved
loop-id-preserved g c = record {
  few = omega (arith, c.loop-id.invariant.few, c.one_if-unread.ensures.few);
  reads = reads_ok tt (reads_then c.loop-id.invariant.reads c.in_ok-one_more.ensures.reads);
  counts = λ T s.
      counts_one T _ _ c.loop-id.id-index c.loop-id.unread _ c.in_ok-one_more.one_more c.loop-id-test.true c.one_if-unread.ensures.value
      ((after_reads c.loop-id.invariant.reads c.in_ok-one_more.ensures.answer).says T s) (c.loop-id.invariant.counts T s);
}

pub returns-clause-answer : goal.returns-clause-answer
returns-clause-answer g c = record { says = λ T s. counts_all T _ _ c.loop-id.id-index _ (omega arith) (c.loop-id.invariant.counts T s) }

pub returns-clause-reads : goal.returns-clause-reads
returns-clause-reads g c = reads_ok _ c.loop-id.invariant.reads
