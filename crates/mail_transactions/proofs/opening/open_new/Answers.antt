use Rattle.std.proofs.Common.{None, Some, Result, subst, sym}
use Rattle.node_port.specs.Pins.{Pins}
use Rattle.line_server.specs.declared.spoken.Spoken.{Spoken}
use Rattle.line_server.specs.declared.spoken.Spoken.TheVariants as spoken_as
use Rattle.session_lines.specs.declared.line.TransactionLine.TheVariants.{Begin}
use Rattle.staged_store.specs.pinned_session.store_session.Carrying.{CarriesOut}
use Rattle.staged_store.specs.pinned_session.store_session.Disks.{Effects, effects_of, medium}
use Rattle.staged_store.specs.pinned_session.store_session.declared.carrying.StoreStop.{StoreStop}
use Rattle.staged_store.proofs.store_session_laws.Carry.{its_medium, same_medium}
use Rattle.staged_store.proofs.store_session_laws.mail_draft_laws.Looking.{untouched_same}
use Rattle.mail_transactions.specs.Opening.{inside, outside}
use Rattle.mail_transactions.specs.Run.{SaysTo}
use Rattle.mail_transactions.specs.Stands.{Stands, StandsCommitted}
use Rattle.mail_transactions.specs.State.{State}
use Rattle.staged_store.specs.staged_nodes.Room.{IsLeft}
use Rattle.staged_store.specs.staged_nodes.Staged.{none_staged}
use Rattle.mail_transactions.proofs.StandLaws.{GoesOn, sits_goes_on, with_keeper, within_first}
use Rattle.mail_transactions.proofs.TurnLaws.{begin_said, lacks_said, read_said, still_leaves}
use Rattle.mail_transactions.proofs.opening.open_new.Goals as goal

pub returns-in_default-clause-carries : goal.returns-in_default-clause-carries
returns-in_default-clause-carries g c = λ found tidy S h tells.
    let view = g.W.Outside.view in
    let holds = g.K.NodeReader.holds in
    let last = g.K.NodeReader.last in
    let told = g.K.NodeReader.pinned in
    let room = g.K.NodeReader.room in
    let disk = g.K.NodeReader.has_disk in
    let rests = g.K.Keeper.rests in
    let effects : Pins → Effects = λ pins. effects_of pins g.K.Keeper.measures g.K.Keeper.applied g.K.Saver.saved in
    let stands = StandsCommitted g.K.Keeper.stands found tidy in
    let k = c.args.pinned.store.store.keeper in
    let v = view c.args.world.now in
    lacks_said effects (room k) (outside S) v v (λ (Y : State). Stands view holds last told room rests (record { pinned = c.args.pinned; «open» = None }) c.args.world.now found tidy Y) stands h (λ t. its_medium v)
    (still_leaves view holds last told room disk g.K.Keeper.stands rests effects g.met.K.Keeper.held_stands found tidy c.args.pinned None c.args.world.now c.args.world.now None S (outside S) h (untouched_same v)) Begin

pub returns-in-Err-clause-carries : goal.returns-in-Err-clause-carries
returns-in-Err-clause-carries g c = λ found tidy S h tells.
    let view = g.W.Outside.view in
    let holds = g.K.NodeReader.holds in
    let last = g.K.NodeReader.last in
    let told = g.K.NodeReader.pinned in
    let room = g.K.NodeReader.room in
    let disk = g.K.NodeReader.has_disk in
    let rests = g.K.Keeper.rests in
    let effects : Pins → Effects = λ pins. effects_of pins g.K.Keeper.measures g.K.Keeper.applied g.K.Saver.saved in
    let stands = StandsCommitted g.K.Keeper.stands found tidy in
    let k = c.args.pinned.store.store.keeper in
    let v = view c.args.world.now in
    let w = view c.cells_left.new.w in
    let same = c.cells_left.ensures.untouched in
    let q = with_keeper c.args.pinned c.cells_left.new.keeper in
    let on : GoesOn view holds last told room c.args.pinned.store.store.keeper c.cells_left.new.keeper c.args.world.now c.cells_left.new.w = record { held = c.cells_left.ensures.stays; keeps = c.cells_left.ensures.pinned; counted = c.cells_left.ensures.last; room_same = c.cells_left.ensures.room; same = same } in
    let sits = sits_goes_on view holds last told room rests c.args.pinned c.cells_left.new.keeper c.args.world.now c.cells_left.new.w found tidy S on h in
    let leaves = λ (Z : State). still_leaves view holds last told room disk g.K.Keeper.stands rests effects g.met.K.Keeper.held_stands found tidy c.args.pinned None c.args.world.now c.cells_left.new.w None S Z h same in
    let medium_same = λ (t : w.tells). same_medium v w (same.stays.here t) same.stays.written in
    let has : State → Type 0 = λ Y. Stands view holds last told room rests (record { pinned = q; «open» = None }) c.cells_left.new.w found tidy Y in
    let s = h.store.stores.tree.shown in
    subst (λ (r : Result Spoken StoreStop). CarriesOut has stands (SaysTo effects (room k) (outside S) (medium v) Begin) v w (outside S) r) (sym c.read_stopped.ensures)
    (read_said effects (room k) (outside S) v w has stands sits medium_same (leaves (outside S)) Begin disk v.disk_faults w.disk_faults (holds k v) s.nodes s.held c.in-Err.stop c.in-Err.ensures.stops)

pub returns-in-Err-new_transaction-clause-carries : goal.returns-in-Err-new_transaction-clause-carries
returns-in-Err-new_transaction-clause-carries g c = λ found tidy S h tells.
    let view = g.W.Outside.view in
    let holds = g.K.NodeReader.holds in
    let last = g.K.NodeReader.last in
    let told = g.K.NodeReader.pinned in
    let room = g.K.NodeReader.room in
    let disk = g.K.NodeReader.has_disk in
    let rests = g.K.Keeper.rests in
    let effects : Pins → Effects = λ pins. effects_of pins g.K.Keeper.measures g.K.Keeper.applied g.K.Saver.saved in
    let stands = StandsCommitted g.K.Keeper.stands found tidy in
    let k = c.args.pinned.store.store.keeper in
    let v = view c.args.world.now in
    let w = view c.cells_left.new.w in
    let same = c.cells_left.ensures.untouched in
    let q = with_keeper c.args.pinned c.cells_left.new.keeper in
    let on : GoesOn view holds last told room c.args.pinned.store.store.keeper c.cells_left.new.keeper c.args.world.now c.cells_left.new.w = record { held = c.cells_left.ensures.stays; keeps = c.cells_left.ensures.pinned; counted = c.cells_left.ensures.last; room_same = c.cells_left.ensures.room; same = same } in
    let sits = sits_goes_on view holds last told room rests c.args.pinned c.cells_left.new.keeper c.args.world.now c.cells_left.new.w found tidy S on h in
    let leaves = λ (Z : State). still_leaves view holds last told room disk g.K.Keeper.stands rests effects g.met.K.Keeper.held_stands found tidy c.args.pinned None c.args.world.now c.cells_left.new.w None S Z h same in
    let medium_same = λ (t : w.tells). same_medium v w (same.stays.here t) same.stays.written in
    let has : State → Type 0 = λ Y. Stands view holds last told room rests (record { pinned = q; «open» = None }) c.cells_left.new.w found tidy Y in
    lacks_said effects (room k) (outside S) v w has stands sits medium_same (leaves (outside S)) Begin

pub returns-in-Ok-new_transaction-clause-carries : goal.returns-in-Ok-new_transaction-clause-carries
returns-in-Ok-new_transaction-clause-carries g c = λ found tidy S h tells.
    let view = g.W.Outside.view in
    let holds = g.K.NodeReader.holds in
    let last = g.K.NodeReader.last in
    let told = g.K.NodeReader.pinned in
    let room = g.K.NodeReader.room in
    let disk = g.K.NodeReader.has_disk in
    let rests = g.K.Keeper.rests in
    let effects : Pins → Effects = λ pins. effects_of pins g.K.Keeper.measures g.K.Keeper.applied g.K.Saver.saved in
    let stands = StandsCommitted g.K.Keeper.stands found tidy in
    let k = c.args.pinned.store.store.keeper in
    let v = view c.args.world.now in
    let w = view c.cells_left.new.w in
    let same = c.cells_left.ensures.untouched in
    let q = with_keeper c.args.pinned c.cells_left.new.keeper in
    let on : GoesOn view holds last told room c.args.pinned.store.store.keeper c.cells_left.new.keeper c.args.world.now c.cells_left.new.w = record { held = c.cells_left.ensures.stays; keeps = c.cells_left.ensures.pinned; counted = c.cells_left.ensures.last; room_same = c.cells_left.ensures.room; same = same } in
    let sits = sits_goes_on view holds last told room rests c.args.pinned c.cells_left.new.keeper c.args.world.now c.cells_left.new.w found tidy S on h in
    let leaves = λ (Z : State). still_leaves view holds last told room disk g.K.Keeper.stands rests effects g.met.K.Keeper.held_stands found tidy c.args.pinned None c.args.world.now c.cells_left.new.w None S Z h same in
    let medium_same = λ (t : w.tells). same_medium v w (same.stays.here t) same.stays.written in
    let t = c.in-Ok-new_transaction.transaction in
    let has : State → Type 0 = λ Y. Stands view holds last told room rests (record { pinned = q; «open» = Some t }) c.cells_left.new.w found tidy Y in
    let made = c.in-Ok-new_transaction.ensures in
    let s = h.store.stores.tree.shown in
    let left = subst (λ l. IsLeft (room c.cells_left.new.keeper) l) (sym made.left) (subst (λ r. IsLeft r c.in-Ok-cells_left.left) (sym c.cells_left.ensures.room) (c.in-Ok-cells_left.ensures.left s.nodes s.held)) in
    begin_said effects (room k) v w S has stands (spoken_as.Reply c.in-Ok.text) c.in-Ok.ensures (within_first view holds last told room rests q t c.cells_left.new.w found tidy S made.staged made.counts left made.known made.searches made.views sits) medium_same
    (leaves (inside S (record { before = S; nodes = none_staged })))
