use Rattle.std.proofs.Common.{arith}
use Rattle.mail_draft.proofs.DeskCalls.{reads_then}
use Rattle.mail_draft.proofs.DeskLoops.{after_reads, reads_exit, reads_ok}
use Rattle.search_results.specs.Moving.{carried_in}
use Rattle.search_results.proofs.JoinLaws.{all_below, joined_all, joined_on, joined_stops, listed_says, stop_again, stopped}
use Rattle.search_results.proofs.moving.messages_below.Goals as goal

pub returns-in_err-more-clause-answer : goal.returns-in_err-more-clause-answer
returns-in_err-more-clause-answer g c =
    let I = c.loop-place.invariant in let stop = c.in_err-more.field-0.0 in
    record {
      says = λ T s. all_below _ T c.args.folder.bits _ c.as_slice-place-items.ensures (I.rest T s _ (stopped _ _ stop _ c.from_residual.ensures.1
          (joined_stops _ (carried_in T c.args.folder.bits) _ _ _ _ stop c.loop-place-test.true (stop_again _ _ (carried_in T c.args.folder.bits _) stop ((after_reads I.reads c.in_err-more.ensures.answer).says T s)))));
    }

pub returns-in_err-more-clause-reads : goal.returns-in_err-more-clause-reads
returns-in_err-more-clause-reads g c = reads_exit _ (reads_then c.loop-place.invariant.reads c.in_err-more.ensures.reads) c.from_residual.ensures.1

pub loop-place-preserved : goal.loop-place-preserved
loop-place-preserved g c =
    let I = c.loop-place.invariant in
    record {
      reads = reads_ok tt (reads_then I.reads c.in_ok-more.ensures.reads);
      rest = λ T s result says. I.rest T s result
          (joined_on _ (carried_in T c.args.folder.bits) _ _ _ _ _ _ result c.loop-place-test.true c.in_ok-append.ensures.items
          (listed_says (λ ts. ts.items) (carried_in T c.args.folder.bits _) c.in_ok-more.more ((after_reads I.reads c.in_ok-more.ensures.answer).says T s)) says);
    }

pub returns-clause-answer : goal.returns-clause-answer
returns-clause-answer g c = record {
  says = λ T s. all_below _ T c.args.folder.bits _ c.as_slice-place-items.ensures
      (c.loop-place.invariant.rest T s _ (joined_all (λ x. x.items) (carried_in T c.args.folder.bits) c.as_slice-place-items.result.now c.loop-place.place-index c.loop-place.touches (omega (arith, c.loop-place-test.false))));
}

pub returns-clause-reads : goal.returns-clause-reads
returns-clause-reads g c = reads_ok _ c.loop-place.invariant.reads
