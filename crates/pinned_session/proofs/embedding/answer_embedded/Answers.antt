use Rattle.std.proofs.Common.{ap, subst}
use Rattle.node_port.specs.Pins.{Pins}
use Rattle.node_port.specs.Stops.{Room}
use Rattle.session_lines.specs.declared.line.SessionLine.TheVariants.{Command as StoreCommand}
use Rattle.store_session.specs.Carrying.{CarriesOut}
use Rattle.store_session.specs.Disks.{Effects, effects_of, medium}
use Rattle.store_session.proofs.Carry.{quiet_leaves, same_medium}
use Rattle.pinned_session.specs.Run.{SaysTo}
use Rattle.pinned_session.specs.Sits.{Sits, StandsNow}
use Rattle.pinned_session.specs.Sitting.{Sitting}
use Rattle.pinned_session.proofs.EmbeddingLaws.{meant_becomes, meant_replies, meant_stops}
use Rattle.pinned_session.proofs.MakeLaws.{sitting_shows}
use Rattle.pinned_session.proofs.PinnedKeeps.{sits_stands}
use Rattle.pinned_session.proofs.embedding.answer_embedded.Goals as goal

pub returns-in-Ok-Replies-clause-carries : goal.returns-in-Ok-Replies-clause-carries
returns-in-Ok-Replies-clause-carries g c = λ found tidy S h tells.
    let v = g.W.Outside.view c.args.world.now in
    let effects : Pins → Effects = λ pins. effects_of pins g.K.Keeper.measures g.K.Keeper.applied g.K.Saver.saved in
    let room = g.K.NodeReader.room c.args.pinned.store.store.keeper in
    let stands = StandsNow g.K.Keeper.stands found tidy in
    let here = sits_stands g.W.Outside.view g.K.NodeReader.holds g.K.NodeReader.last g.K.NodeReader.pinned g.K.NodeReader.room g.K.NodeReader.has_disk g.K.Keeper.stands g.K.Keeper.rests effects g.met.K.Keeper.held_stands found tidy c.args.pinned c.args.world.now S h in
    let mid = g.W.Outside.view c.mean_keeping-store.new.world in
    let done = c.mean_keeping-store.ensures in
    let stays = done.stays tidy S.now h.store in
    let means = done.answer tidy S.now h.store in
    let sits = sitting_shows S h (λ store. stays.0) stays.1 (ap (λ r. r.pins) done.room) (ap (λ r. r.found) done.room) S.views h.shows in
    let has = λ (Z : Sitting). Sits g.W.Outside.view g.K.NodeReader.holds g.K.NodeReader.last g.K.NodeReader.pinned g.K.NodeReader.room g.K.Keeper.rests (record { store = c.mean_keeping-store.result.0; given = c.args.pinned.given; pins = c.args.pinned.pins; views = c.args.pinned.views }) c.mean_keeping-store.new.world found tidy Z in
    meant_replies effects room S has stands c.args.line.now c.mean_keeping-store.result.1 means v mid (λ t. same_medium v mid (done.same.stays.here t) done.same.stays.written) sits (quiet_leaves stands S S h.store.settled done.same here)
    c.in-Ok-Replies.reply (rw c.in-Ok-Replies.field-0-is at c.in-Ok-Replies.is) c.reply_spoken.result c.reply_spoken.ensures

pub returns-in-Ok-Becomes-clause-carries : goal.returns-in-Ok-Becomes-clause-carries
returns-in-Ok-Becomes-clause-carries g c = λ found tidy S h tells.
    let v = g.W.Outside.view c.args.world.now in
    let effects : Pins → Effects = λ pins. effects_of pins g.K.Keeper.measures g.K.Keeper.applied g.K.Saver.saved in
    let room = g.K.NodeReader.room c.args.pinned.store.store.keeper in
    let stands = StandsNow g.K.Keeper.stands found tidy in
    let here = sits_stands g.W.Outside.view g.K.NodeReader.holds g.K.NodeReader.last g.K.NodeReader.pinned g.K.NodeReader.room g.K.NodeReader.has_disk g.K.Keeper.stands g.K.Keeper.rests effects g.met.K.Keeper.held_stands found tidy c.args.pinned c.args.world.now S h in
    let mid = g.W.Outside.view c.mean_keeping-store.new.world in
    let done = c.mean_keeping-store.ensures in
    let stays = done.stays tidy S.now h.store in
    let means = done.answer tidy S.now h.store in
    let sits = sitting_shows S h (λ store. stays.0) stays.1 (ap (λ r. r.pins) done.room) (ap (λ r. r.found) done.room) S.views h.shows in
    let has = λ (Z : Sitting). Sits g.W.Outside.view g.K.NodeReader.holds g.K.NodeReader.last g.K.NodeReader.pinned g.K.NodeReader.room g.K.Keeper.rests c.carry_command.result.0 c.carry_command.new.world found tidy Z in
    let new = g.W.Outside.view c.carry_command.new.world in
    meant_becomes effects room S has stands c.args.line.now c.mean_keeping-store.result.1 means new h.store.settled done.same here (λ t. c.carry_command.ensures.quiet.told t) c.in-Ok-Becomes.command (rw c.in-Ok-Becomes.field-0-is at c.in-Ok-Becomes.is) c.carry_command.result.1
    (subst (λ (r : Room). CarriesOut has stands (SaysTo effects r S (medium mid) (StoreCommand c.in-Ok-Becomes.command)) mid new S c.carry_command.result.1) done.room (c.carry_command.ensures.carries found tidy S sits tells))

pub returns-in-Err-clause-carries : goal.returns-in-Err-clause-carries
returns-in-Err-clause-carries g c = λ found tidy S h tells.
    let v = g.W.Outside.view c.args.world.now in
    let effects : Pins → Effects = λ pins. effects_of pins g.K.Keeper.measures g.K.Keeper.applied g.K.Saver.saved in
    let room = g.K.NodeReader.room c.args.pinned.store.store.keeper in
    let stands = StandsNow g.K.Keeper.stands found tidy in
    let here = sits_stands g.W.Outside.view g.K.NodeReader.holds g.K.NodeReader.last g.K.NodeReader.pinned g.K.NodeReader.room g.K.NodeReader.has_disk g.K.Keeper.stands g.K.Keeper.rests effects g.met.K.Keeper.held_stands found tidy c.args.pinned c.args.world.now S h in
    let mid = g.W.Outside.view c.mean_keeping-store.new.world in
    let done = c.mean_keeping-store.ensures in
    let stays = done.stays tidy S.now h.store in
    let means = done.answer tidy S.now h.store in
    let sits = sitting_shows S h (λ store. stays.0) stays.1 (ap (λ r. r.pins) done.room) (ap (λ r. r.found) done.room) S.views h.shows in
    let has = λ (Z : Sitting). Sits g.W.Outside.view g.K.NodeReader.holds g.K.NodeReader.last g.K.NodeReader.pinned g.K.NodeReader.room g.K.Keeper.rests (record { store = c.mean_keeping-store.result.0; given = c.args.pinned.given; pins = c.args.pinned.pins; views = c.args.pinned.views }) c.mean_keeping-store.new.world found tidy Z in
    meant_stops effects room S has stands c.args.line.now c.mean_keeping-store.result.1 means v mid (λ t. same_medium v mid (done.same.stays.here t) done.same.stays.written) sits (quiet_leaves stands S S h.store.settled done.same here)
    c.in-Err.stop c.in-Err.is c.stopped.result c.stopped.ensures
