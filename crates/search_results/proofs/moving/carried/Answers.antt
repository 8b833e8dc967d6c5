use Rattle.std.proofs.Common.{[], ◌∷◌, arith}
use Rattle.mail_draft.proofs.DeskCalls.{reads_then}
use Rattle.mail_draft.proofs.DeskLoops.{after_reads, reads_exit, reads_ok}
use Rattle.mail_draft.proofs.Passes.{stop_says}
use Rattle.search_results.proofs.JoinLaws.{from_single, joined_all, joined_on, joined_stops, single, single_says, stopped}
use Rattle.search_results.proofs.moving.carried.Goals as goal

pub returns-in_err-touch-clause-answer : goal.returns-in_err-touch-clause-answer
returns-in_err-touch-clause-answer g c =
    let I = c.loop-id.invariant in let stop = c.in_err-touch.field-0.0 in
    record {
      says = λ T s. from_single _ T _ _ (I.rest T s _ (stopped _ _ stop _ c.from_residual.ensures.1
          (joined_stops _ (single T) _ _ _ _ stop c.loop-id-test.true (stop_says _ _ _ _ stop ((after_reads I.reads c.in_err-touch.ensures.answer).says T s)))));
    }

pub returns-in_err-touch-clause-reads : goal.returns-in_err-touch-clause-reads
returns-in_err-touch-clause-reads g c = reads_exit _ (reads_then c.loop-id.invariant.reads c.in_err-touch.ensures.reads) c.from_residual.ensures.1

pub loop-id-preserved : goal.loop-id-preserved
loop-id-preserved g c =
    let I = c.loop-id.invariant in
    record {
      reads = reads_ok tt (reads_then I.reads c.in_ok-touch.ensures.reads);
      rest = λ T s result says. I.rest T s result
          (joined_on _ (single T) _ _ _ (c.in_ok-touch.touch ∷ []) _ _ result c.loop-id-test.true c.in_ok-push.ensures.items (single_says T _ _ ((after_reads I.reads c.in_ok-touch.ensures.answer).says T s)) says);
    }

pub returns-clause-answer : goal.returns-clause-answer
returns-clause-answer g c = record {
  says = λ T s. from_single _ T _ _ (c.loop-id.invariant.rest T s _ (joined_all (λ x. x.items) (single T) c.args.ids.now c.loop-id.id-index c.loop-id.touches (omega (arith, c.loop-id-test.false))));
}

pub returns-clause-reads : goal.returns-clause-reads
returns-clause-reads g c = reads_ok _ c.loop-id.invariant.reads
