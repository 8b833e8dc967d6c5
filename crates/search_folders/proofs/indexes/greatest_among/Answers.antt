use Rattle.std.proofs.Common.{◌+◌, Ok, drop, max, subst}
use Rattle.mail_tree.specs.Changing.{◌>>=◌}
use Rattle.mail_draft.specs.Answers.{Says}
use Rattle.mail_draft.proofs.DeskCalls.{reads_then}
use Rattle.mail_draft.proofs.DeskLoops.{reads_ok}
use Rattle.mail_folders.proofs.Steps.{stopped}
use Rattle.search_folders.proofs.IndexLaws.{greatest_goes, greatest_stops}
use Rattle.search_folders.specs.Pieces.{greatest_among}
use Rattle.search_folders.proofs.indexes.greatest_among.Goals as goal

pub returns-in_err-index-clause-answer : goal.returns-in_err-index-clause-answer
returns-in_err-index-clause-answer g c =
    let I = c.loop-place.invariant in let stop = c.in_err-index.field-0.0 in
    record {
      says = λ T s. I.rest T s _ (stopped _ _ stop _ c.from_residual.ensures.1 (greatest_stops T _ _ _ _ stop c.loop-place-test.true (c.in_err-index.ensures.answer.says T (I.reads.shows T s))));
    }

pub loop-place-preserved : goal.loop-place-preserved
loop-place-preserved g c =
    let I = c.loop-place.invariant in let i = c.loop-place.place-index in let ps = c.args.places.now in
    record {
      reads = reads_ok tt (reads_then I.reads c.in_ok-index.ensures.reads);
      rest = λ T s result says. I.rest T s result (greatest_goes T _ _ _ _ _ result c.loop-place-test.true (c.in_ok-index.ensures.answer.says T (I.reads.shows T s))
          (subst (λ n. Says (λ k. k) (greatest_among T (drop (i + 1) ps) >>= λ m. Ok (max n m)) result) c.max-greatest.ensures says));
    }
