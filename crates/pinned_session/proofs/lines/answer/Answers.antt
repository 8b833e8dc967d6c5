use Rattle.std.proofs.Common.{Ok, inl, refl, subst, sym}
use Rattle.store_session.proofs.mail_draft_laws.Looking.{untouched_same}
use Rattle.node_port.specs.Pins.{Pins}
use Rattle.session_lines.specs.declared.line.SessionLine.TheVariants.{Pin, At, Unpin, OpenView, ShowView, CloseView, Embedded, Command as StoreCommand}
use Rattle.store_session.specs.Disks.{Effects, effects_of}
use Rattle.store_session.proofs.Carry.{its_medium, quiet_leaves}
use Rattle.pinned_session.specs.Sits.{Sits, StandsNow}
use Rattle.pinned_session.specs.Sitting.{Sitting}
use Rattle.pinned_session.proofs.LineLaws.{asked_carries}
use Rattle.pinned_session.proofs.PinAnswers.{pin_carries, unpin_carries}
use Rattle.pinned_session.proofs.PinnedKeeps.{sits_stands}
use Rattle.pinned_session.proofs.MakeLaws.{sitting_shows}
use Rattle.pinned_session.proofs.ViewLaws.{answers_view}
use Rattle.pinned_session.proofs.lines.answer.Goals as goal

pub ask_pin-requires : goal.ask_pin-requires
ask_pin-requires g c = record { only = c.requires.read c.in-At.pin c.in-At.command c.in-At.is }

pub returns-in-Command-clause-carries : goal.returns-in-Command-clause-carries
returns-in-Command-clause-carries g c = λ found tidy S h tells.
    let v = g.W.Outside.view c.args.world.now in
    let effects : Pins → Effects = λ pins. effects_of pins g.K.Keeper.measures g.K.Keeper.applied g.K.Saver.saved in
    let room = g.K.NodeReader.room c.args.pinned.store.store.keeper in
    let stands = StandsNow g.K.Keeper.stands found tidy in
    asked_carries (λ (Z : Sitting). Sits g.W.Outside.view g.K.NodeReader.holds g.K.NodeReader.last g.K.NodeReader.pinned g.K.NodeReader.room g.K.Keeper.rests c.carry_command.result.0 c.carry_command.new.world found tidy Z) stands effects room v (g.W.Outside.view c.carry_command.new.world) S c.args.asked.now (StoreCommand c.in-Command.command) c.carry_command.result.1 c.in-Command.is
    (c.carry_command.ensures.carries found tidy S h tells)

pub returns-in-At-clause-carries : goal.returns-in-At-clause-carries
returns-in-At-clause-carries g c = λ found tidy S h tells.
    let v = g.W.Outside.view c.args.world.now in
    let effects : Pins → Effects = λ pins. effects_of pins g.K.Keeper.measures g.K.Keeper.applied g.K.Saver.saved in
    let room = g.K.NodeReader.room c.args.pinned.store.store.keeper in
    let stands = StandsNow g.K.Keeper.stands found tidy in
    asked_carries (λ (Z : Sitting). Sits g.W.Outside.view g.K.NodeReader.holds g.K.NodeReader.last g.K.NodeReader.pinned g.K.NodeReader.room g.K.Keeper.rests c.ask_pin.result.0 c.ask_pin.new.world found tidy Z) stands effects room v (g.W.Outside.view c.ask_pin.new.world) S c.args.asked.now (At c.in-At.pin c.in-At.command) c.ask_pin.result.1 c.in-At.is
    (c.ask_pin.ensures.carries found tidy S h tells)

pub returns-in-OpenView-clause-carries : goal.returns-in-OpenView-clause-carries
returns-in-OpenView-clause-carries g c = λ found tidy S h tells.
    let v = g.W.Outside.view c.args.world.now in
    let effects : Pins → Effects = λ pins. effects_of pins g.K.Keeper.measures g.K.Keeper.applied g.K.Saver.saved in
    let room = g.K.NodeReader.room c.args.pinned.store.store.keeper in
    let stands = StandsNow g.K.Keeper.stands found tidy in
    asked_carries (λ (Z : Sitting). Sits g.W.Outside.view g.K.NodeReader.holds g.K.NodeReader.last g.K.NodeReader.pinned g.K.NodeReader.room g.K.Keeper.rests c.open_view.result.0 c.open_view.new.world found tidy Z) stands effects room v (g.W.Outside.view c.open_view.new.world) S c.args.asked.now (OpenView c.in-OpenView.folder c.in-OpenView.tag c.in-OpenView.direction) c.open_view.result.1 c.in-OpenView.is
    (c.open_view.ensures.carries found tidy S h tells)

pub returns-in-ShowView-clause-carries : goal.returns-in-ShowView-clause-carries
returns-in-ShowView-clause-carries g c = λ found tidy S h tells.
    let v = g.W.Outside.view c.args.world.now in
    let effects : Pins → Effects = λ pins. effects_of pins g.K.Keeper.measures g.K.Keeper.applied g.K.Saver.saved in
    let room = g.K.NodeReader.room c.args.pinned.store.store.keeper in
    let stands = StandsNow g.K.Keeper.stands found tidy in
    asked_carries (λ (Z : Sitting). Sits g.W.Outside.view g.K.NodeReader.holds g.K.NodeReader.last g.K.NodeReader.pinned g.K.NodeReader.room g.K.Keeper.rests c.show_view.result.0 c.show_view.new.world found tidy Z) stands effects room v (g.W.Outside.view c.show_view.new.world) S c.args.asked.now (ShowView c.in-ShowView.view c.in-ShowView.grouped) c.show_view.result.1 c.in-ShowView.is
    (c.show_view.ensures.carries found tidy S h tells)

pub returns-in-Embedded-clause-carries : goal.returns-in-Embedded-clause-carries
returns-in-Embedded-clause-carries g c = λ found tidy S h tells.
    let v = g.W.Outside.view c.args.world.now in
    let effects : Pins → Effects = λ pins. effects_of pins g.K.Keeper.measures g.K.Keeper.applied g.K.Saver.saved in
    let room = g.K.NodeReader.room c.args.pinned.store.store.keeper in
    let stands = StandsNow g.K.Keeper.stands found tidy in
    asked_carries (λ (Z : Sitting). Sits g.W.Outside.view g.K.NodeReader.holds g.K.NodeReader.last g.K.NodeReader.pinned g.K.NodeReader.room g.K.Keeper.rests c.answer_embedded.result.0 c.answer_embedded.new.world found tidy Z) stands effects room v (g.W.Outside.view c.answer_embedded.new.world) S c.args.asked.now (Embedded c.in-Embedded.line) c.answer_embedded.result.1 c.in-Embedded.is
    (c.answer_embedded.ensures.carries found tidy S h tells)

pub returns-in-Pin-clause-carries : goal.returns-in-Pin-clause-carries
returns-in-Pin-clause-carries g c = λ found tidy S h tells.
    let v = g.W.Outside.view c.args.world.now in
    let effects : Pins → Effects = λ pins. effects_of pins g.K.Keeper.measures g.K.Keeper.applied g.K.Saver.saved in
    let room = g.K.NodeReader.room c.args.pinned.store.store.keeper in
    let stands = StandsNow g.K.Keeper.stands found tidy in
    let here = sits_stands g.W.Outside.view g.K.NodeReader.holds g.K.NodeReader.last g.K.NodeReader.pinned g.K.NodeReader.room g.K.NodeReader.has_disk g.K.Keeper.stands g.K.Keeper.rests effects g.met.K.Keeper.held_stands found tidy c.args.pinned c.args.world.now S h in
    let has = (λ (Z : Sitting). Sits g.W.Outside.view g.K.NodeReader.holds g.K.NodeReader.last g.K.NodeReader.pinned g.K.NodeReader.room g.K.Keeper.rests c.make_pin-spoken.new.pinned c.args.world.now found tidy Z) in
    asked_carries has stands effects room v v S c.args.asked.now Pin (Ok c.make_pin-spoken.result) c.in-Pin.is
    (pin_carries effects room S v v (λ t. its_medium v) has stands (λ Z. quiet_leaves stands S Z h.store.settled (untouched_same v) here) c.make_pin-spoken.result (c.make_pin-spoken.ensures c.args.world.now found tidy S h))

pub returns-in-Unpin-clause-carries : goal.returns-in-Unpin-clause-carries
returns-in-Unpin-clause-carries g c = λ found tidy S h tells.
    let v = g.W.Outside.view c.args.world.now in
    let effects : Pins → Effects = λ pins. effects_of pins g.K.Keeper.measures g.K.Keeper.applied g.K.Saver.saved in
    let room = g.K.NodeReader.room c.args.pinned.store.store.keeper in
    let stands = StandsNow g.K.Keeper.stands found tidy in
    let here = sits_stands g.W.Outside.view g.K.NodeReader.holds g.K.NodeReader.last g.K.NodeReader.pinned g.K.NodeReader.room g.K.NodeReader.has_disk g.K.Keeper.stands g.K.Keeper.rests effects g.met.K.Keeper.held_stands found tidy c.args.pinned c.args.world.now S h in
    let has = (λ (Z : Sitting). Sits g.W.Outside.view g.K.NodeReader.holds g.K.NodeReader.last g.K.NodeReader.pinned g.K.NodeReader.room g.K.Keeper.rests c.give_up-spoken.new.pinned c.args.world.now found tidy Z) in
    asked_carries has stands effects room v v S c.args.asked.now (Unpin c.in-Unpin.pin) (Ok c.give_up-spoken.result) c.in-Unpin.is
    (unpin_carries effects room S v v (λ t. its_medium v) has stands c.in-Unpin.pin (λ Z. quiet_leaves stands S Z h.store.settled (untouched_same v) here) c.give_up-spoken.result (c.give_up-spoken.ensures c.args.world.now found tidy S h))

pub returns-in-CloseView-clause-carries : goal.returns-in-CloseView-clause-carries
returns-in-CloseView-clause-carries g c = λ found tidy S h tells.
    let v = g.W.Outside.view c.args.world.now in
    let effects : Pins → Effects = λ pins. effects_of pins g.K.Keeper.measures g.K.Keeper.applied g.K.Saver.saved in
    let room = g.K.NodeReader.room c.args.pinned.store.store.keeper in
    let stands = StandsNow g.K.Keeper.stands found tidy in
    let here = sits_stands g.W.Outside.view g.K.NodeReader.holds g.K.NodeReader.last g.K.NodeReader.pinned g.K.NodeReader.room g.K.NodeReader.has_disk g.K.Keeper.stands g.K.Keeper.rests effects g.met.K.Keeper.held_stands found tidy c.args.pinned c.args.world.now S h in
    let has = (λ (Z : Sitting). Sits g.W.Outside.view g.K.NodeReader.holds g.K.NodeReader.last g.K.NodeReader.pinned g.K.NodeReader.room g.K.Keeper.rests (record c.args.pinned { views = c.close_view-spoken.new.views }) c.args.world.now found tidy Z) in
    asked_carries has stands effects room v v S c.args.asked.now (CloseView c.in-CloseView.view) (Ok c.close_view-spoken.result) c.in-CloseView.is
    (answers_view effects room S v v (λ t. its_medium v) has stands (CloseView c.in-CloseView.view) c.args.pinned.views c.close_view-spoken.new.views h.shows (λ V is. sitting_shows S h (λ store. store) (λ q N told. told) refl refl V is)
    (λ Z. quiet_leaves stands S Z h.store.settled (untouched_same v) here) (λ said V is. inl (V, is, refl, λ t. its_medium v)) c.close_view-spoken.result c.close_view-spoken.ensures)
