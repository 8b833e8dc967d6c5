use Rattle.std.proofs.Common.{ap, sym, ◌∙◌, take, get_or}
use Rattle.std.proofs.lemmas.List.{take_more}
use Rattle.pst_base.specs.declared.places.Place.{Place}
use Rattle.pst_outside.specs.Replay.{junked, junk_range}
use Rattle.pst_outside.proofs.Picks.{junked-push}
use Rattle.pst_outside.proofs.crash.junk.Goals as goal

pub loop-range-preserved : goal.loop-range-preserved
loop-range-preserved c =
    let i = c.loop-range.range-index in
    let ranges = c.args.ranges.now in
    let none : Place = record { ib = 0; len = 0 } in
    c.junk_one.ensures
    ∙ ap (λ b. junk_range b (get_or ranges i none)) c.loop-range.invariant
    ∙ sym (junked-push c.args.bytes.now (take i ranges) (get_or ranges i none))
    ∙ ap (junked c.args.bytes.now) (sym (take_more ranges i none c.loop-range-test.true))
