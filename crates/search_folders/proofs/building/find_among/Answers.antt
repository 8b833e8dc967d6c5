use Rattle.std.proofs.Common.{ap, ◌∙◌}
use Rattle.mapi_values.specs.Tables.{Tab}
use Rattle.mail_draft.proofs.DeskCalls.{reads_then}
use Rattle.mail_draft.proofs.DeskLoops.{reads_ok}
use Rattle.mail_folders.proofs.Steps.{stopped}
use Rattle.search_folders.proofs.Built.{message_on, message_stops}
use Rattle.search_folders.proofs.building.find_among.Goals as goal

pub returns-in_err-find_at-clause-answer : goal.returns-in_err-find_at-clause-answer
returns-in_err-find_at-clause-answer g c =
    let I = c.loop-message.invariant in let stop = c.in_err-find_at.field-0.0 in
    record {
      says = λ T s. I.rest T s _ _ (stopped _ _ stop _ c.from_residual.ensures.1
          (message_stops _ _ T _ _ _ _ _ _ stop c.loop-message-test.true (c.in_err-find_at.ensures.answer.says T (I.reads.shows T s))));
    }

pub loop-message-preserved : goal.loop-message-preserved
loop-message-preserved g c =
    let I = c.loop-message.invariant in
    let columns = ap (λ (t : Tab). t.columns) c.in_ok-find_at.ensures.same in
    record {
      reads = reads_ok tt (reads_then I.reads c.in_ok-find_at.ensures.reads);
      same = c.in_ok-find_at.ensures.same ∙ I.same;
      rest = λ T s rows result says. I.rest T s rows result
          (message_on _ _ T _ _ _ _ _ _ _ result c.loop-message-test.true (c.in_ok-find_at.ensures.answer.says T (I.reads.shows T s)) (rw columns at says));
    }
