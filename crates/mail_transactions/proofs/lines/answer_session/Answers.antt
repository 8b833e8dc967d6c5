use Rattle.std.proofs.Common.{None, Option, Some, subst}
use Rattle.node_port.specs.Pins.{Pins}
use Rattle.session_lines.specs.declared.line.TransactionLine.TheVariants.{Session}
use Rattle.staged_store.specs.pinned_session.store_session.Carrying.{CarriesOut}
use Rattle.staged_store.specs.pinned_session.store_session.Disks.{Effects, effects_of, medium}
use Rattle.staged_store.proofs.store_session_laws.Carry.{same_medium}
use Rattle.mail_transactions.specs.Opening.{inside}
use Rattle.mail_transactions.specs.Run.{SaysTo}
use Rattle.mail_transactions.specs.Stands.{Stands, StandsIn, StandsCommitted}
use Rattle.mail_transactions.specs.State.{State}
use Rattle.staged_store.specs.Saying.{Underway}
use Rattle.staged_store.specs.pinned_session.Sits.{Sits, StandsNow}
use Rattle.staged_store.specs.pinned_session.Sitting.{Sitting}
use Rattle.mail_transactions.specs.Stands.{IsWithin}
use Rattle.mail_transactions.specs.declared.store.OpenTransaction.{OpenTransaction}
use Rattle.mail_transactions.specs.declared.store.SessionStore.{SessionStore}
use Rattle.mail_transactions.proofs.TurnLaws.{in_none, in_some, inside_carries, outside_carries, sitting_of, still_leaves, within_of}
use Rattle.mail_transactions.proofs.lines.answer_session.Goals as goal

pub returns-in-None-clause-carries : goal.returns-in-None-clause-carries
returns-in-None-clause-carries g c = λ found tidy S h tells.
    let view = g.W.Outside.view in
    let holds = g.K.NodeReader.holds in
    let last = g.K.NodeReader.last in
    let told = g.K.NodeReader.pinned in
    let room = g.K.NodeReader.room in
    let disk = g.K.NodeReader.has_disk in
    let rests = g.K.Keeper.rests in
    let effects : Pins → Effects = λ pins. effects_of pins g.K.Keeper.measures g.K.Keeper.applied g.K.Saver.saved in
    let stands = StandsCommitted g.K.Keeper.stands found tidy in
    let s = c.args.session in
    let k = s.pinned.store.store.keeper in
    let v = view c.args.world.now in
    let w = view c.answer-pinned.new.world in
    let asked = c.args.asked.now in
    let r = c.answer-pinned.result.1 in
    let session : SessionStore g.row.K.Denot = record { pinned = c.answer-pinned.result.0; «open» = None } in
    let has : State → Type 0 = λ Y. Stands view holds last told room rests session c.answer-pinned.new.world found tidy Y in
    let here = subst (λ (o : Option OpenTransaction). StandsIn view holds last told room rests s.pinned o c.args.world.now found tidy S.within S.sitting) c.in-None.is h in
    in_none view holds last told room rests s.pinned c.args.world.now found tidy (λ Z. CarriesOut has stands (SaysTo effects (room k) Z (medium v) (Session asked)) v w Z r) S.within S.sitting here (λ h2.
    outside_carries effects (room k) v w S.sitting (λ (Z : Sitting). Sits view holds last told room rests c.answer-pinned.result.0 c.answer-pinned.new.world found tidy Z) has (StandsNow g.K.Keeper.stands found tidy) stands
    (λ Z sits. sits) (λ i Z is. is) asked r (c.answer-pinned.ensures.carries found tidy S.sitting h2 tells))

pub returns-in-Some-clause-carries : goal.returns-in-Some-clause-carries
returns-in-Some-clause-carries g c = λ found tidy S h tells.
    let view = g.W.Outside.view in
    let holds = g.K.NodeReader.holds in
    let last = g.K.NodeReader.last in
    let told = g.K.NodeReader.pinned in
    let room = g.K.NodeReader.room in
    let disk = g.K.NodeReader.has_disk in
    let rests = g.K.Keeper.rests in
    let effects : Pins → Effects = λ pins. effects_of pins g.K.Keeper.measures g.K.Keeper.applied g.K.Saver.saved in
    let stands = StandsCommitted g.K.Keeper.stands found tidy in
    let s = c.args.session in
    let k = s.pinned.store.store.keeper in
    let v = view c.args.world.now in
    let done = c.answer_staged-pinned in
    let w = view done.new.world in
    let asked = c.args.asked.now in
    let r = done.result.2 in
    let session : SessionStore g.row.K.Denot = record { pinned = done.result.0; «open» = Some done.result.1 } in
    let has : State → Type 0 = λ Y. Stands view holds last told room rests session done.new.world found tidy Y in
    let same = done.ensures.same in
    let here = subst (λ (o : Option OpenTransaction). StandsIn view holds last told room rests s.pinned o c.args.world.now found tidy S.within S.sitting) c.in-Some.is h in
    in_some view holds last told room rests s.pinned c.args.world.now found tidy (λ Z. CarriesOut has stands (SaysTo effects (room k) Z (medium v) (Session asked)) v w Z r) c.in-Some.transaction S.within S.sitting here (λ i h2.
    inside_carries effects (room k) v w i S.sitting (λ (U : Underway). IsWithin view holds last told room rests done.result.0 done.result.1 done.new.world found tidy (within_of i U) (sitting_of S.sitting U)) has stands
    (λ U is. is) asked (λ t. same_medium v w (same.stays.here t) same.stays.written)
    (λ U. still_leaves view holds last told room disk g.K.Keeper.stands rests effects g.met.K.Keeper.held_stands found tidy s.pinned (Some c.in-Some.transaction) c.args.world.now done.new.world (Some i) S.sitting (inside (sitting_of S.sitting U) (within_of i U)) h2 same)
    r (done.ensures.responds found tidy i S.sitting h2))
