use Rattle.std.proofs.Common.{sym}
use Rattle.mail_draft.proofs.Looking.{looks_then, shown_still}
use Rattle.mail_folders.proofs.Steps.{stopped}
use Rattle.list_check.proofs.Steps.{message_on, message_stops, message_tells}
use Rattle.list_check.proofs.passing.stale_among.Goals as goal

pub returns-in_err-stale-clause-answer : goal.returns-in_err-stale-clause-answer
returns-in_err-stale-clause-answer g c = λ T s e.
    let I = c.loop-message.invariant in let stop = c.in_err-stale.field-0.0 in
    I.rest T s e _ (stopped _ _ stop _ c.from_residual.ensures.1 (message_stops T _ _ _ _ stop c.loop-message-test.true (c.in_err-stale.ensures.answer T (shown_still T I.looks s) e)))

pub returns-then-is_some-clause-answer : goal.returns-then-is_some-clause-answer
returns-then-is_some-clause-answer g c = λ T s e.
    let I = c.loop-message.invariant in
    I.rest T s e _ (message_tells T _ _ _ _ c.in_ok-stale.stale c.loop-message-test.true (sym c.if-is_some.ensures) (c.in_ok-stale.ensures.answer T (shown_still T I.looks s) e))

pub loop-message-preserved : goal.loop-message-preserved
loop-message-preserved g c =
    let I = c.loop-message.invariant in
    record {
      looks = looks_then I.looks c.in_ok-stale.ensures.looks;
      rest = λ T s e result says. I.rest T s e result
          (message_on T _ _ _ _ c.in_ok-stale.stale result c.loop-message-test.true (sym c.if-is_some.ensures) (c.in_ok-stale.ensures.answer T (shown_still T I.looks s) e) says);
    }
