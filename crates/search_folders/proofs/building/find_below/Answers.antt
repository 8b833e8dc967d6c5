use Rattle.std.proofs.Common.{ap, ◌∙◌}
use Rattle.mapi_values.specs.Tables.{Tab}
use Rattle.mail_draft.proofs.DeskCalls.{reads_then}
use Rattle.mail_draft.proofs.DeskLoops.{reads_ok}
use Rattle.mail_folders.proofs.Steps.{stopped}
use Rattle.search_folders.proofs.Built.{folder_on, folder_stops}
use Rattle.search_folders.proofs.building.find_below.Goals as goal

pub returns-in_err-find_in-clause-answer : goal.returns-in_err-find_in-clause-answer
returns-in_err-find_in-clause-answer g c =
    let I = c.loop-place.invariant in let stop = c.in_err-find_in.field-0.0 in
    record {
      says = λ T s. I.rest T s _ _ (stopped _ _ stop _ c.from_residual-in_err-find_in.ensures.1
          (folder_stops _ _ T _ _ _ _ _ _ stop c.loop-place-test.true (c.in_err-find_in.ensures.answer.says T (I.reads.shows T s))));
    }

pub loop-place-preserved : goal.loop-place-preserved
loop-place-preserved g c =
    let I = c.loop-place.invariant in
    let columns = ap (λ (t : Tab). t.columns) c.in_ok-find_in.ensures.same in
    record {
      reads = reads_ok tt (reads_then I.reads c.in_ok-find_in.ensures.reads);
      same = c.in_ok-find_in.ensures.same ∙ I.same;
      rest = λ T s rows result says. I.rest T s rows result
          (folder_on _ _ T _ _ _ _ _ _ _ result c.loop-place-test.true (c.in_ok-find_in.ensures.answer.says T (I.reads.shows T s)) (rw columns at says));
    }
