use Rattle.std.proofs.Common.{◌∙◌, ap, sym}
use Rattle.std.specs.Global.{Vec}
use Rattle.mail_draft.proofs.Looking.{shown_still}
use Rattle.list_check.specs.Watching.{watches_of}
use Rattle.list_check.specs.declared.watching.Watched.{Watched}
use Rattle.list_check.proofs.CheckLaws.{checks_stopped, none_watched, rest_told, stray_told, watched_stops, watched_told}
use Rattle.list_check.proofs.check.find_stale.Goals as goal

pub returns-in_err-watched-clause-answer : goal.returns-in_err-watched-clause-answer
returns-in_err-watched-clause-answer g c = λ X s k m f w a.
    checks_stopped X c.in_err-watched.field-0.0 _
    (watched_stops X w a {D = Vec Watched} (λ ws. watches_of ws.items) _ c.in_err-watched.field-0.0 (f ∙ sym c.as_slice.ensures) (c.in_err-watched.ensures.answer X.tree s))
    c.from_residual.ensures.1

pub returns-then-is_empty-clause-answer : goal.returns-then-is_empty-clause-answer
returns-then-is_empty-clause-answer g c = λ X s k m f w a.
    none_watched X w a {D = Vec Watched} (λ ws. ws.items) _ c.in_ok-watched.watched _ c.is_empty.result (f ∙ sym c.as_slice.ensures) (c.in_ok-watched.ensures.answer X.tree s) c.as_slice-running.ensures.value c.is_empty.ensures c.if-is_empty.true

pub returns-then-is_some-clause-answer : goal.returns-then-is_some-clause-answer
returns-then-is_some-clause-answer g c = λ X s k m f w a.
    stray_told X w a c.args.known.now.flags k.flags m _ c.stray_of-stray.result
    (ap watches_of c.as_slice-running.ensures.value ∙ watched_told X w a {D = Vec Watched} (λ ws. watches_of ws.items) _ c.in_ok-watched.watched (f ∙ sym c.as_slice.ensures) (c.in_ok-watched.ensures.answer X.tree s))
    c.stray_of-stray.ensures (sym c.is_some.ensures ∙ c.if-is_some.true)

pub returns-clause-answer : goal.returns-clause-answer
returns-clause-answer g c = λ X s k m f w a.
    rest_told X w a c.args.known.now.flags k.flags m _ c.stray_of-stray.result c.args.known.now.places c.stale_below.result
    (ap watches_of c.as_slice-running.ensures.value ∙ watched_told X w a {D = Vec Watched} (λ ws. watches_of ws.items) _ c.in_ok-watched.watched (f ∙ sym c.as_slice.ensures) (c.in_ok-watched.ensures.answer X.tree s))
    c.stray_of-stray.ensures (sym c.is_some.ensures ∙ c.if-is_some.false) k.places
    (c.stale_below.ensures.answer X.tree (shown_still X.tree c.in_ok-watched.ensures.looks s) k.places)
