use Rattle.std.proofs.Common.{None, Ok, Option, refl, subst}
use Rattle.node_port.specs.Pins.{Pins}
use Rattle.session_lines.specs.declared.line.TransactionLine.TheVariants.{Rollback}
use Rattle.staged_store.specs.pinned_session.store_session.Carrying.{CarriesOut}
use Rattle.staged_store.specs.pinned_session.store_session.Disks.{Effects, effects_of, medium}
use Rattle.staged_store.proofs.store_session_laws.Carry.{its_medium, quiet_leaves}
use Rattle.staged_store.proofs.store_session_laws.mail_draft_laws.Looking.{untouched_same}
use Rattle.mail_transactions.specs.Opening.{outside}
use Rattle.mail_transactions.specs.Run.{SaysTo}
use Rattle.mail_transactions.specs.Stands.{Stands, StandsIn, StandsCommitted}
use Rattle.mail_transactions.specs.State.{State}
use Rattle.mail_transactions.specs.declared.store.SessionStore.{SessionStore}
use Rattle.mail_transactions.proofs.Keeps.{here_in, settled_in}
use Rattle.mail_transactions.specs.declared.store.OpenTransaction.{OpenTransaction}
use Rattle.mail_transactions.proofs.TurnLaws.{in_none, in_some, none_said}
use Rattle.mail_transactions.proofs.opening.roll_back.Goals as goal

pub returns-in-None-clause-carries : goal.returns-in-None-clause-carries
returns-in-None-clause-carries g c = λ found tidy S h tells.
    let view = g.W.Outside.view in
    let holds = g.K.NodeReader.holds in
    let last = g.K.NodeReader.last in
    let told = g.K.NodeReader.pinned in
    let room = g.K.NodeReader.room in
    let rests = g.K.Keeper.rests in
    let effects : Pins → Effects = λ pins. effects_of pins g.K.Keeper.measures g.K.Keeper.applied g.K.Saver.saved in
    let stands = StandsCommitted g.K.Keeper.stands found tidy in
    let s = c.args.session in
    let k = s.pinned.store.store.keeper in
    let v = view c.args.world.now in
    let here = subst (λ (o : Option OpenTransaction). StandsIn view holds last told room rests s.pinned o c.args.world.now found tidy S.within S.sitting) c.in-None.is h in
    let session : SessionStore g.row.K.Denot = record { pinned = s.pinned; «open» = None } in
    let has : State → Type 0 = λ Y. Stands view holds last told room rests session c.args.world.now found tidy Y in
    let P : State → Type 0 = λ Z. CarriesOut has stands (SaysTo effects (room k) Z (medium v) Rollback) v v Z (Ok c.refusal_spoken.result) in
    in_none view holds last told room rests s.pinned c.args.world.now found tidy P S.within S.sitting here (λ h2.
    none_said effects (room k) (outside S.sitting) v v has stands h2 (λ t. its_medium v)
    (quiet_leaves stands (outside S.sitting) (outside S.sitting) (settled_in view holds last told room g.K.NodeReader.has_disk g.K.Keeper.stands rests effects s.pinned (None) c.args.world.now found tidy None S.sitting h2) (untouched_same v)
    (here_in view holds last told room g.K.NodeReader.has_disk g.K.Keeper.stands rests effects g.met.K.Keeper.held_stands s.pinned (None) c.args.world.now found tidy None S.sitting h2))
    Rollback (λ said says. (says, (refl, λ t. its_medium v))) c.refusal_spoken.result c.refusal_spoken.ensures)

pub returns-in-Some-clause-carries : goal.returns-in-Some-clause-carries
returns-in-Some-clause-carries g c = λ found tidy S h tells.
    let view = g.W.Outside.view in
    let holds = g.K.NodeReader.holds in
    let last = g.K.NodeReader.last in
    let told = g.K.NodeReader.pinned in
    let room = g.K.NodeReader.room in
    let rests = g.K.Keeper.rests in
    let effects : Pins → Effects = λ pins. effects_of pins g.K.Keeper.measures g.K.Keeper.applied g.K.Saver.saved in
    let stands = StandsCommitted g.K.Keeper.stands found tidy in
    let s = c.args.session in
    let k = s.pinned.store.store.keeper in
    let v = view c.args.world.now in
    let here = subst (λ (o : Option OpenTransaction). StandsIn view holds last told room rests s.pinned o c.args.world.now found tidy S.within S.sitting) c.in-Some.is h in
    let w = view c.drop_open.new.world in
    let P : State → Type 0 = λ Z. CarriesOut (λ (Y : State). Stands view holds last told room rests c.drop_open.result.0 c.drop_open.new.world found tidy Y) stands (SaysTo effects (room k) Z (medium v) Rollback) v w Z c.drop_open.result.1 in
    in_some view holds last told room rests s.pinned c.args.world.now found tidy P c.in-Some.transaction S.within S.sitting here (λ i h2.
    c.drop_open.ensures.carries found tidy i S.sitting h2 tells)
