use Rattle.std.proofs.Common.{ap, sym, ◌∙◌, take, ◌∷◌, [], ◌++◌}
use Rattle.std.proofs.lemmas.List.{take_more}
use Rattle.pst_outside.specs.Replay.{part_of, replay}
use Rattle.pst_outside.proofs.Histories.{replay-push}
use Rattle.pst_outside.proofs.crash.outcome.Goals as goal

pub loop-event-preserved : goal.loop-event-preserved
loop-event-preserved c = λ disk first.
    let i = c.loop-event.event-index in
    let events = c.args.events.now in
    let event = c.event-item.result in
    c.in_ok-follow.ensures (replay disk (take i events)) (c.loop-event.invariant disk first)
    ∙ ap (part_of c.args.part) (sym (replay-push disk (take i events) event))
    ∙ ap (λ l. part_of c.args.part (replay disk l)) (ap (λ e. take i events ++ e ∷ []) c.event-item.is ∙ sym (take_more events i event c.loop-event-test.true))
