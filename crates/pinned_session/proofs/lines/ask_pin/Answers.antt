use Rattle.std.proofs.Common.{sym, ap, subst}
use Rattle.store_session.proofs.mail_draft_laws.Looking.{untouched_same}
use Rattle.store_session.specs.mail_draft.Answers.{Says}
use Rattle.mail_reading.specs.Asked.{asked}
use Rattle.mail_reading.proofs.Answered.{asked_given, asked_stop}
use Rattle.mail_reading.specs.search_folders.Comings.{comes_to}
use Rattle.node_port.specs.Pins.{Pins}
use Rattle.store_session.specs.Disks.{Effects, effects_of}
use Rattle.store_session.proofs.Carry.{its_medium, quiet_leaves, same_medium}
use Rattle.pinned_session.specs.Holding.{IsView}
use Rattle.pinned_session.specs.Sits.{Sits, StandsNow}
use Rattle.pinned_session.specs.Sitting.{Sitting}
use Rattle.pinned_session.proofs.AskLaws.{refused_step}
use Rattle.pinned_session.proofs.MakeLaws.{named_none, named_some, place_found, sitting_same, tree_named}
use Rattle.pinned_session.proofs.PinAnswers.{at_none, at_replies, at_stops}
use Rattle.pinned_session.proofs.PinLaws.{has_mapped}
use Rattle.pinned_session.proofs.PinnedKeeps.{sits_stands}
use Rattle.pinned_session.proofs.lines.ask_pin.Goals as goal

pub returns-in_default-clause-carries : goal.returns-in_default-clause-carries
returns-in_default-clause-carries g c = λ found tidy S h tells.
    let v = g.W.Outside.view c.args.world.now in
    let effects : Pins → Effects = λ pins. effects_of pins g.K.Keeper.measures g.K.Keeper.applied g.K.Saver.saved in
    let room = g.K.NodeReader.room c.args.pinned.store.store.keeper in
    let stands = StandsNow g.K.Keeper.stands found tidy in
    let here = sits_stands g.W.Outside.view g.K.NodeReader.holds g.K.NodeReader.last g.K.NodeReader.pinned g.K.NodeReader.room g.K.NodeReader.has_disk g.K.Keeper.stands g.K.Keeper.rests effects g.met.K.Keeper.held_stands found tidy c.args.pinned c.args.world.now S h in
    let n = named_none _ S c.args.pinned.pins.items c.args.pin h.views (place_found c.as_slice.result.now c.args.pinned.pins.items c.args.pin _ _ c.place_of.ensures c.as_slice.ensures.value c.in_default.is) in
    at_none effects room S v v (λ t. its_medium v) (λ (Z : Sitting). Sits g.W.Outside.view g.K.NodeReader.holds g.K.NodeReader.last g.K.NodeReader.pinned g.K.NodeReader.room g.K.Keeper.rests c.args.pinned c.args.world.now found tidy Z) stands c.args.pin c.args.command.now h (quiet_leaves stands S S h.store.settled (untouched_same v) here) c.pin_spoken.result n.0 c.pin_spoken.ensures

pub returns-in-Ok-clause-carries : goal.returns-in-Ok-clause-carries
returns-in-Ok-clause-carries g c = λ found tidy S h tells.
    let v = g.W.Outside.view c.args.world.now in
    let done = c.ask_keeping-keeper.ensures in
    let w = g.W.Outside.view c.ask_keeping-keeper.new.world in
    let effects : Pins → Effects = λ pins. effects_of pins g.K.Keeper.measures g.K.Keeper.applied g.K.Saver.saved in
    let room = g.K.NodeReader.room c.args.pinned.store.store.keeper in
    let stands = StandsNow g.K.Keeper.stands found tidy in
    let here = sits_stands g.W.Outside.view g.K.NodeReader.holds g.K.NodeReader.last g.K.NodeReader.pinned g.K.NodeReader.room g.K.NodeReader.has_disk g.K.Keeper.stands g.K.Keeper.rests effects g.met.K.Keeper.held_stands found tidy c.args.pinned c.args.world.now S h in
    let at = named_some _ S c.args.pinned.pins.items c.index.result.now c.args.pin c.in-Some.place h.views (place_found c.as_slice.result.now c.args.pinned.pins.items c.args.pin _ _ c.place_of.ensures c.as_slice.ensures.value c.in-Some.is) in
    let X = at.2.0.tree in
    let view = subst (λ x. IsView (g.K.NodeReader.pinned c.args.pinned.store.store.keeper v) x at.2.0) (sym c.index.ensures) at.2.2 in
    let s = h.store.stores.tree.shown in
    let stays = done.stays s.nodes X s.held view.tells in
    let given = asked_given (comes_to X) X c.args.command.now view.tells.whole view.tells.are c.in-Ok.coming (subst (λ r. Says (comes_to X) (asked X c.args.command.now) r) c.in-Ok.is (done.answer s.nodes X s.held view.tells)) in
    at_replies effects room S v w (λ t. same_medium v w (done.same.stays.here t) done.same.stays.written) (λ (Z : Sitting). Sits g.W.Outside.view g.K.NodeReader.holds g.K.NodeReader.last g.K.NodeReader.pinned g.K.NodeReader.room g.K.Keeper.rests (record { store = record { store = record { keeper = c.ask_keeping-keeper.result.0; known = c.args.pinned.store.store.known }; searches = c.args.pinned.store.searches }; given = c.args.pinned.given; pins = c.args.pinned.pins; views = c.args.pinned.views }) c.ask_keeping-keeper.new.world found tidy Z) stands c.args.pin c.args.command.now
    (sitting_same S h (λ store. has_mapped tidy S.now stays.0 stays.2 done.same store) (ap (λ r. r.found) done.room) stays.1 (ap (λ r. r.pins) done.room))
    (quiet_leaves stands S S h.store.settled done.same here) X (tree_named S c.args.pin at.0 at.2.0 at.1 at.2.1) c.reply_spoken.result c.in-Ok.coming.outcome.reply given.1 c.reply_spoken.ensures

pub returns-in-Err-clause-carries : goal.returns-in-Err-clause-carries
returns-in-Err-clause-carries g c = λ found tidy S h tells.
    let v = g.W.Outside.view c.args.world.now in
    let done = c.ask_keeping-keeper.ensures in
    let w = g.W.Outside.view c.ask_keeping-keeper.new.world in
    let effects : Pins → Effects = λ pins. effects_of pins g.K.Keeper.measures g.K.Keeper.applied g.K.Saver.saved in
    let room = g.K.NodeReader.room c.args.pinned.store.store.keeper in
    let stands = StandsNow g.K.Keeper.stands found tidy in
    let here = sits_stands g.W.Outside.view g.K.NodeReader.holds g.K.NodeReader.last g.K.NodeReader.pinned g.K.NodeReader.room g.K.NodeReader.has_disk g.K.Keeper.stands g.K.Keeper.rests effects g.met.K.Keeper.held_stands found tidy c.args.pinned c.args.world.now S h in
    let at = named_some _ S c.args.pinned.pins.items c.index.result.now c.args.pin c.in-Some.place h.views (place_found c.as_slice.result.now c.args.pinned.pins.items c.args.pin _ _ c.place_of.ensures c.as_slice.ensures.value c.in-Some.is) in
    let X = at.2.0.tree in
    let view = subst (λ x. IsView (g.K.NodeReader.pinned c.args.pinned.store.store.keeper v) x at.2.0) (sym c.index.ensures) at.2.2 in
    let s = h.store.stores.tree.shown in
    let stays = done.stays s.nodes X s.held view.tells in
    let given = asked_stop (comes_to X) X c.args.command.now view.tells.whole view.tells.are c.in-Err.stop (subst (λ r. Says (comes_to X) (asked X c.args.command.now) r) c.in-Err.is (done.answer s.nodes X s.held view.tells)) in
    at_stops effects room S v w (λ t. same_medium v w (done.same.stays.here t) done.same.stays.written) (λ (Z : Sitting). Sits g.W.Outside.view g.K.NodeReader.holds g.K.NodeReader.last g.K.NodeReader.pinned g.K.NodeReader.room g.K.Keeper.rests (record { store = record { store = record { keeper = c.ask_keeping-keeper.result.0; known = c.args.pinned.store.store.known }; searches = c.args.pinned.store.searches }; given = c.args.pinned.given; pins = c.args.pinned.pins; views = c.args.pinned.views }) c.ask_keeping-keeper.new.world found tidy Z) stands c.args.pin c.args.command.now
    (sitting_same S h (λ store. has_mapped tidy S.now stays.0 stays.2 done.same store) (ap (λ r. r.found) done.room) stays.1 (ap (λ r. r.pins) done.room))
    (quiet_leaves stands S S h.store.settled done.same here) X (tree_named S c.args.pin at.0 at.2.0 at.1 at.2.1) c.in-Err.stop c.stopped.result c.stopped.ensures given (refused_step X c.args.command.now c.requires.only)
