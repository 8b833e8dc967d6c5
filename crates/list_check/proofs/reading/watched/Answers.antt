use Rattle.std.specs.Global.{Vec}
use Rattle.mail_draft.proofs.Looking.{looks_then, shown_still}
use Rattle.mail_folders.proofs.Steps.{stopped}
use Rattle.list_check.specs.Watching.{watches_of}
use Rattle.list_check.specs.declared.watching.Watched.{Watched}
use Rattle.list_check.proofs.Steps.{search_on, search_stops}
use Rattle.list_check.proofs.reading.watched.Goals as goal

pub returns-in_err-watched-clause-answer : goal.returns-in_err-watched-clause-answer
returns-in_err-watched-clause-answer g c = λ T s.
    let I = c.loop-search.invariant in let stop = c.in_err-watched.field-0.0 in
    I.rest T s _ (stopped _ _ stop _ c.from_residual.ensures.1
    (search_stops {D = Vec Watched} (λ ws. watches_of ws.items) T _ _ c.search-item.result _ stop c.loop-search-test.true c.search-item.is (c.in_err-watched.ensures.answer T (shown_still T I.looks s))))

pub loop-search-preserved : goal.loop-search-preserved
loop-search-preserved g c =
    let I = c.loop-search.invariant in
    record {
      looks = looks_then I.looks c.in_ok-watched.ensures.looks;
      rest = λ T s result says. I.rest T s result
          (search_on {D = Vec Watched} (λ ws. watches_of ws.items) T _ _ c.search-item.result _ c.in_ok-watched.watched result c.loop-search-test.true c.search-item.is (c.in_ok-watched.ensures.answer T (shown_still T I.looks s)) says);
    }
