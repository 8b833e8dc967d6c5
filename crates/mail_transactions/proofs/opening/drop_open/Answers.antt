use Rattle.std.proofs.Common.{None, Some, subst, sym}
use Rattle.node_port.specs.Pins.{Pins}
use Rattle.line_server.specs.declared.spoken.Spoken.TheVariants as spoken_as
use Rattle.session_lines.specs.declared.line.TransactionLine.TheVariants.{Rollback}
use Rattle.staged_store.specs.pinned_session.store_session.Disks.{Effects, effects_of}
use Rattle.staged_store.proofs.store_session_laws.Carry.{its_medium}
use Rattle.staged_store.proofs.store_session_laws.mail_draft_laws.Looking.{untouched_same}
use Rattle.mail_transactions.specs.Opening.{inside, outside}
use Rattle.mail_transactions.specs.Stands.{Stands, StandsIn, StandsCommitted}
use Rattle.mail_transactions.specs.State.{State, taken_back}
use Rattle.mail_transactions.proofs.StandLaws.{sits_back}
use Rattle.mail_transactions.proofs.TurnLaws.{lacks_said, rollback_said, still_leaves}
use Rattle.mail_transactions.proofs.opening.drop_open.Goals as goal

pub returns-in-Ok-clause-carries : goal.returns-in-Ok-clause-carries
returns-in-Ok-clause-carries g c = λ found tidy i S h tells.
    let view = g.W.Outside.view in
    let holds = g.K.NodeReader.holds in
    let last = g.K.NodeReader.last in
    let told = g.K.NodeReader.pinned in
    let room = g.K.NodeReader.room in
    let disk = g.K.NodeReader.has_disk in
    let rests = g.K.Keeper.rests in
    let effects : Pins → Effects = λ pins. effects_of pins g.K.Keeper.measures g.K.Keeper.applied g.K.Saver.saved in
    let stands = StandsCommitted g.K.Keeper.stands found tidy in
    let k = c.args.pinned.store.store.keeper in
    let v = view c.args.world.now in
    let has : State → Type 0 = λ Y. Stands view holds last told room rests (record { pinned = c.taken_back.result; «open» = None }) c.args.world.now found tidy Y in
    let back = sits_back view holds last told room rests c.args.pinned c.args.transaction c.args.world.now found tidy i S h in
    rollback_said effects (room k) v v i S has stands (spoken_as.Reply c.in-Ok.text) c.in-Ok.ensures
    (subst (λ p. StandsIn view holds last told room rests p None c.args.world.now found tidy None (taken_back S i)) (sym c.taken_back.ensures) back) (λ t. its_medium v)
    (still_leaves view holds last told room disk g.K.Keeper.stands rests effects g.met.K.Keeper.held_stands found tidy c.args.pinned (Some c.args.transaction) c.args.world.now c.args.world.now (Some i) S (outside (taken_back S i)) h (untouched_same v))

pub returns-in-Err-clause-carries : goal.returns-in-Err-clause-carries
returns-in-Err-clause-carries g c = λ found tidy i S h tells.
    let view = g.W.Outside.view in
    let holds = g.K.NodeReader.holds in
    let last = g.K.NodeReader.last in
    let told = g.K.NodeReader.pinned in
    let room = g.K.NodeReader.room in
    let disk = g.K.NodeReader.has_disk in
    let rests = g.K.Keeper.rests in
    let effects : Pins → Effects = λ pins. effects_of pins g.K.Keeper.measures g.K.Keeper.applied g.K.Saver.saved in
    let stands = StandsCommitted g.K.Keeper.stands found tidy in
    let k = c.args.pinned.store.store.keeper in
    let v = view c.args.world.now in
    lacks_said effects (room k) (inside S i) v v (λ (Y : State). Stands view holds last told room rests (record { pinned = c.args.pinned; «open» = Some c.args.transaction }) c.args.world.now found tidy Y) stands h (λ t. its_medium v)
    (still_leaves view holds last told room disk g.K.Keeper.stands rests effects g.met.K.Keeper.held_stands found tidy c.args.pinned (Some c.args.transaction) c.args.world.now c.args.world.now (Some i) S (inside S i) h (untouched_same v)) Rollback
