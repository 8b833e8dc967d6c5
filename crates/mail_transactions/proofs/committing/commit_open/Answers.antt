use Rattle.std.proofs.Common.{Some, ap}
use Rattle.node_port.specs.Pins.{Pins}
use Rattle.line_server.specs.declared.spoken.Spoken.TheVariants as spoken_as
use Rattle.session_lines.specs.declared.line.TransactionLine.TheVariants.{Commit}
use Rattle.staged_store.specs.pinned_session.store_session.Disks.{Effects, effects_of}
use Rattle.staged_store.proofs.store_session_laws.Carry.{its_medium}
use Rattle.staged_store.proofs.store_session_laws.mail_draft_laws.Looking.{untouched_same}
use Rattle.mail_transactions.specs.Opening.{inside}
use Rattle.mail_transactions.specs.Stands.{Stands, StandsCommitted}
use Rattle.mail_transactions.specs.State.{State}
use Rattle.node_port.specs.declared.node.Counts.{Counts}
use Rattle.mail_transactions.proofs.StandLaws.{with_keeper}
use Rattle.mail_transactions.proofs.TurnLaws.{commit_done, commit_lacks, commit_stops, ends_of, lacks_said, still_leaves}
use Rattle.mail_transactions.proofs.committing.commit_open.Goals as goal

pub returns-in_default-clause-carries : goal.returns-in_default-clause-carries
returns-in_default-clause-carries g c = λ found tidy i S h tells.
    let view = g.W.Outside.view in
    let holds = g.K.NodeReader.holds in
    let last = g.K.NodeReader.last in
    let told = g.K.NodeReader.pinned in
    let room = g.K.NodeReader.room in
    let disk = g.K.NodeReader.has_disk in
    let rests = g.K.Keeper.rests in
    let effects : Pins → Effects = λ pins. effects_of pins g.K.Keeper.measures g.K.Keeper.applied g.K.Saver.saved in
    let stands = StandsCommitted g.K.Keeper.stands found tidy in
    let k = c.args.pinned.store.store.keeper in
    let v = view c.args.world.now in
    lacks_said effects (room k) (inside S i) v v (λ (Y : State). Stands view holds last told room rests (record { pinned = c.args.pinned; «open» = Some c.args.transaction }) c.args.world.now found tidy Y) stands h (λ t. its_medium v)
    (still_leaves view holds last told room disk g.K.Keeper.stands rests effects g.met.K.Keeper.held_stands found tidy c.args.pinned (Some c.args.transaction) c.args.world.now c.args.world.now (Some i) S (inside S i) h (untouched_same v)) Commit

pub returns-in_default-changes-clause-carries : goal.returns-in_default-changes-clause-carries
returns-in_default-changes-clause-carries g c = λ found tidy i S h tells.
    let view = g.W.Outside.view in
    let holds = g.K.NodeReader.holds in
    let last = g.K.NodeReader.last in
    let told = g.K.NodeReader.pinned in
    let room = g.K.NodeReader.room in
    let disk = g.K.NodeReader.has_disk in
    let rests = g.K.Keeper.rests in
    let effects : Pins → Effects = λ pins. effects_of pins g.K.Keeper.measures g.K.Keeper.applied g.K.Saver.saved in
    let stands = StandsCommitted g.K.Keeper.stands found tidy in
    let k = c.args.pinned.store.store.keeper in
    let v = view c.args.world.now in
    lacks_said effects (room k) (inside S i) v v (λ (Y : State). Stands view holds last told room rests (record { pinned = c.args.pinned; «open» = Some c.args.transaction }) c.args.world.now found tidy Y) stands h (λ t. its_medium v)
    (still_leaves view holds last told room disk g.K.Keeper.stands rests effects g.met.K.Keeper.held_stands found tidy c.args.pinned (Some c.args.transaction) c.args.world.now c.args.world.now (Some i) S (inside S i) h (untouched_same v)) Commit

pub returns-in-Ok-true-clause-carries : goal.returns-in-Ok-true-clause-carries
returns-in-Ok-true-clause-carries g c = λ found tidy i S h tells.
    let view = g.W.Outside.view in
    let holds = g.K.NodeReader.holds in
    let last = g.K.NodeReader.last in
    let told = g.K.NodeReader.pinned in
    let room = g.K.NodeReader.room in
    let disk = g.K.NodeReader.has_disk in
    let rests = g.K.Keeper.rests in
    let effects : Pins → Effects = λ pins. effects_of pins g.K.Keeper.measures g.K.Keeper.applied g.K.Saver.saved in
    let stands = StandsCommitted g.K.Keeper.stands found tidy in
    let k = c.args.pinned.store.store.keeper in
    let v = view c.args.world.now in
    let t = c.args.transaction in
    let F = i.nodes in
    let x = c.in-Ok-changes.changes in
    let ends = ends_of view holds last told room disk g.K.Keeper.stands rests effects g.met.K.Keeper.held_stands found tidy c.args.pinned t c.commit_changes.new.keeper c.args.world.now c.commit_changes.new.world i S h x.nodes.items x.counts.last x.room c.commit_changes.result
    (c.in-Ok-changes.ensures.nodes F h.now.staged.changes) (ap (λ (n : Counts). n.last) c.in-Ok-changes.ensures.counts) c.in-Ok-changes.ensures.room (λ counted enough. c.commit_changes.ensures.commits h.base h.held h.before.store.settled h.before.store.at_rest tells counted enough) in
    commit_done view holds last told room disk g.K.Keeper.stands rests effects g.met.K.Keeper.held_stands found tidy c.args.pinned t c.commit_changes.new.keeper c.args.world.now c.commit_changes.new.world i S h (rw (c.in-Ok-true.is, c.in-Ok-true.field-0-test) at ends) (spoken_as.Reply c.in-Ok.text) c.in-Ok.ensures

pub returns-in-Ok-false-clause-carries : goal.returns-in-Ok-false-clause-carries
returns-in-Ok-false-clause-carries g c = λ found tidy i S h tells.
    let view = g.W.Outside.view in
    let holds = g.K.NodeReader.holds in
    let last = g.K.NodeReader.last in
    let told = g.K.NodeReader.pinned in
    let room = g.K.NodeReader.room in
    let disk = g.K.NodeReader.has_disk in
    let rests = g.K.Keeper.rests in
    let effects : Pins → Effects = λ pins. effects_of pins g.K.Keeper.measures g.K.Keeper.applied g.K.Saver.saved in
    let stands = StandsCommitted g.K.Keeper.stands found tidy in
    let k = c.args.pinned.store.store.keeper in
    let v = view c.args.world.now in
    let t = c.args.transaction in
    let F = i.nodes in
    let x = c.in-Ok-changes.changes in
    let ends = ends_of view holds last told room disk g.K.Keeper.stands rests effects g.met.K.Keeper.held_stands found tidy c.args.pinned t c.commit_changes.new.keeper c.args.world.now c.commit_changes.new.world i S h x.nodes.items x.counts.last x.room c.commit_changes.result
    (c.in-Ok-changes.ensures.nodes F h.now.staged.changes) (ap (λ (n : Counts). n.last) c.in-Ok-changes.ensures.counts) c.in-Ok-changes.ensures.room (λ counted enough. c.commit_changes.ensures.commits h.base h.held h.before.store.settled h.before.store.at_rest tells counted enough) in
    commit_lacks view holds last told room disk g.K.Keeper.stands rests effects g.met.K.Keeper.held_stands found tidy c.args.pinned t c.commit_changes.new.keeper c.args.world.now c.commit_changes.new.world i S h (rw (c.in-Ok-false.is, c.in-Ok-false.field-0-test) at ends)

pub returns-in-Err-clause-carries : goal.returns-in-Err-clause-carries
returns-in-Err-clause-carries g c = λ found tidy i S h tells.
    let view = g.W.Outside.view in
    let holds = g.K.NodeReader.holds in
    let last = g.K.NodeReader.last in
    let told = g.K.NodeReader.pinned in
    let room = g.K.NodeReader.room in
    let disk = g.K.NodeReader.has_disk in
    let rests = g.K.Keeper.rests in
    let effects : Pins → Effects = λ pins. effects_of pins g.K.Keeper.measures g.K.Keeper.applied g.K.Saver.saved in
    let stands = StandsCommitted g.K.Keeper.stands found tidy in
    let k = c.args.pinned.store.store.keeper in
    let v = view c.args.world.now in
    let t = c.args.transaction in
    let F = i.nodes in
    let x = c.in-Ok-changes.changes in
    let ends = ends_of view holds last told room disk g.K.Keeper.stands rests effects g.met.K.Keeper.held_stands found tidy c.args.pinned t c.commit_changes.new.keeper c.args.world.now c.commit_changes.new.world i S h x.nodes.items x.counts.last x.room c.commit_changes.result
    (c.in-Ok-changes.ensures.nodes F h.now.staged.changes) (ap (λ (n : Counts). n.last) c.in-Ok-changes.ensures.counts) c.in-Ok-changes.ensures.room (λ counted enough. c.commit_changes.ensures.commits h.base h.held h.before.store.settled h.before.store.at_rest tells counted enough) in
    commit_stops view holds last told room disk g.K.Keeper.stands rests effects g.met.K.Keeper.held_stands found tidy c.args.pinned t c.commit_changes.new.keeper c.args.world.now c.commit_changes.new.world i S h (with_keeper c.args.pinned c.commit_changes.new.keeper) (Some t) c.in-Err.stop (rw c.in-Err.is at ends)
