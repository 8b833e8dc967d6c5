use Rattle.std.proofs.Common.{List, Ok, Option, Result, subst, sym}
use Rattle.pst_base.specs.declared.ids.Nid.{Nid}
use Rattle.mail_tree.specs.declared.places.FolderPlace.{FolderPlace}
use Rattle.mail_draft.specs.Answers.{Says}
use Rattle.mail_draft.specs.declared.stop.Stop.{Stop}
use Rattle.mail_draft.proofs.Looking.{looks_then, shown_still}
use Rattle.mail_folders.proofs.Steps.{stopped}
use Rattle.list_check.specs.Watching.{bits_of, stale_below, watches_of}
use Rattle.list_check.proofs.Steps.{folder_on, folder_stops, folder_tells}
use Rattle.list_check.proofs.passing.stale_below.Goals as goal

pub returns-in_err-stale-clause-answer : goal.returns-in_err-stale-clause-answer
returns-in_err-stale-clause-answer g c = λ T s e.
    let I = c.loop-place.invariant in let stop = c.in_err-stale.field-0.0 in
    subst (λ (ps : List FolderPlace). Says bits_of (stale_below T (watches_of c.args.watched.now) ps) c.from_residual.result) c.as_slice-place-items.ensures
    (I.rest T s e c.from_residual.result (stopped _ _ stop _ c.from_residual.ensures.1 (folder_stops T _ _ _ _ stop c.loop-place-test.true (c.in_err-stale.ensures.answer T (shown_still T I.looks s) e))))

pub returns-then-is_some-clause-answer : goal.returns-then-is_some-clause-answer
returns-then-is_some-clause-answer g c = λ T s e.
    let I = c.loop-place.invariant in let told : Result (Option Nid) Stop = Ok c.in_ok-stale.stale in
    subst (λ (ps : List FolderPlace). Says bits_of (stale_below T (watches_of c.args.watched.now) ps) told) c.as_slice-place-items.ensures
    (I.rest T s e told (folder_tells T _ _ _ _ c.in_ok-stale.stale c.loop-place-test.true (sym c.if-is_some.ensures) (c.in_ok-stale.ensures.answer T (shown_still T I.looks s) e)))

pub loop-place-preserved : goal.loop-place-preserved
loop-place-preserved g c =
    let I = c.loop-place.invariant in
    record {
      looks = looks_then I.looks c.in_ok-stale.ensures.looks;
      rest = λ T s e result says. I.rest T s e result
          (folder_on T _ _ _ _ c.in_ok-stale.stale result c.loop-place-test.true (sym c.if-is_some.ensures) (c.in_ok-stale.ensures.answer T (shown_still T I.looks s) e) says);
    }
