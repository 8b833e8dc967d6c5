use Rattle.std.proofs.Common.{subst}
use Rattle.node_port.specs.Pins.{Pins}
use Rattle.session_lines.specs.declared.line.TransactionLine.TheVariants.{Begin, Commit, Rollback, Session}
use Rattle.staged_store.specs.pinned_session.store_session.Disks.{Effects, effects_of}
use Rattle.staged_store.proofs.store_session_laws.mail_draft_laws.Looking.{untouched_same}
use Rattle.mail_transactions.specs.Stands.{Stands, StandsCommitted}
use Rattle.mail_transactions.specs.State.{State}
use Rattle.staged_store.specs.pinned_session.store_session.Carrying.{SaysRefusal}
use Rattle.staged_store.proofs.pinned_session_laws.AskLaws.{at_only}
use Rattle.mail_transactions.proofs.LineLaws.{line_carries, refused_line, silent_line}
use Rattle.mail_transactions.proofs.ReadLaws.{session_read}
use Rattle.mail_transactions.proofs.TurnLaws.{still_leaves}
use Rattle.mail_transactions.proofs.lines.answer_line.Goals as goal

pub answer_session-requires : goal.answer_session-requires
answer_session-requires g c = record { read = λ pin command is. at_only c.args.bytes.now pin command (session_read c.args.bytes.now _ (rw (c.in-Ok-Session.field-0-is, is) at c.in-Ok-Session.ensures)) }

pub returns-in-Ok-Begin-clause-carries : goal.returns-in-Ok-Begin-clause-carries
returns-in-Ok-Begin-clause-carries g c = λ found tidy S h tells.
    let view = g.W.Outside.view in
    let holds = g.K.NodeReader.holds in
    let last = g.K.NodeReader.last in
    let told = g.K.NodeReader.pinned in
    let room = g.K.NodeReader.room in
    let disk = g.K.NodeReader.has_disk in
    let rests = g.K.Keeper.rests in
    let effects : Pins → Effects = λ pins. effects_of pins g.K.Keeper.measures g.K.Keeper.applied g.K.Saver.saved in
    let stands = StandsCommitted g.K.Keeper.stands found tidy in
    let v = view c.args.world.now in
    line_carries (λ (Z : State). Stands view holds last told room rests c.begin.result.0 c.begin.new.world found tidy Z) stands effects (room c.args.session.pinned.store.store.keeper) v (view c.begin.new.world) S Begin c.args.bytes.now c.begin.result.1
    (rw c.in-Ok-Begin.field-0-is at c.in-Ok-Begin.ensures) (c.begin.ensures.carries found tidy S h tells)

pub returns-in-Ok-Commit-clause-carries : goal.returns-in-Ok-Commit-clause-carries
returns-in-Ok-Commit-clause-carries g c = λ found tidy S h tells.
    let view = g.W.Outside.view in
    let holds = g.K.NodeReader.holds in
    let last = g.K.NodeReader.last in
    let told = g.K.NodeReader.pinned in
    let room = g.K.NodeReader.room in
    let disk = g.K.NodeReader.has_disk in
    let rests = g.K.Keeper.rests in
    let effects : Pins → Effects = λ pins. effects_of pins g.K.Keeper.measures g.K.Keeper.applied g.K.Saver.saved in
    let stands = StandsCommitted g.K.Keeper.stands found tidy in
    let v = view c.args.world.now in
    line_carries (λ (Z : State). Stands view holds last told room rests c.commit.result.0 c.commit.new.world found tidy Z) stands effects (room c.args.session.pinned.store.store.keeper) v (view c.commit.new.world) S Commit c.args.bytes.now c.commit.result.1
    (rw c.in-Ok-Commit.field-0-is at c.in-Ok-Commit.ensures) (c.commit.ensures.carries found tidy S h tells)

pub returns-in-Ok-Rollback-clause-carries : goal.returns-in-Ok-Rollback-clause-carries
returns-in-Ok-Rollback-clause-carries g c = λ found tidy S h tells.
    let view = g.W.Outside.view in
    let holds = g.K.NodeReader.holds in
    let last = g.K.NodeReader.last in
    let told = g.K.NodeReader.pinned in
    let room = g.K.NodeReader.room in
    let disk = g.K.NodeReader.has_disk in
    let rests = g.K.Keeper.rests in
    let effects : Pins → Effects = λ pins. effects_of pins g.K.Keeper.measures g.K.Keeper.applied g.K.Saver.saved in
    let stands = StandsCommitted g.K.Keeper.stands found tidy in
    let v = view c.args.world.now in
    line_carries (λ (Z : State). Stands view holds last told room rests c.roll_back.result.0 c.roll_back.new.world found tidy Z) stands effects (room c.args.session.pinned.store.store.keeper) v (view c.roll_back.new.world) S Rollback c.args.bytes.now c.roll_back.result.1
    (rw c.in-Ok-Rollback.field-0-is at c.in-Ok-Rollback.ensures) (c.roll_back.ensures.carries found tidy S h tells)

pub returns-in-Ok-Session-clause-carries : goal.returns-in-Ok-Session-clause-carries
returns-in-Ok-Session-clause-carries g c = λ found tidy S h tells.
    let view = g.W.Outside.view in
    let holds = g.K.NodeReader.holds in
    let last = g.K.NodeReader.last in
    let told = g.K.NodeReader.pinned in
    let room = g.K.NodeReader.room in
    let disk = g.K.NodeReader.has_disk in
    let rests = g.K.Keeper.rests in
    let effects : Pins → Effects = λ pins. effects_of pins g.K.Keeper.measures g.K.Keeper.applied g.K.Saver.saved in
    let stands = StandsCommitted g.K.Keeper.stands found tidy in
    let v = view c.args.world.now in
    line_carries (λ (Z : State). Stands view holds last told room rests c.answer_session.result.0 c.answer_session.new.world found tidy Z) stands effects (room c.args.session.pinned.store.store.keeper) v (view c.answer_session.new.world) S (Session c.in-Ok-Session.asked) c.args.bytes.now c.answer_session.result.1
    (rw c.in-Ok-Session.field-0-is at c.in-Ok-Session.ensures) (c.answer_session.ensures.carries found tidy S h tells)

pub returns-in-Err-Refused-clause-carries : goal.returns-in-Err-Refused-clause-carries
returns-in-Err-Refused-clause-carries g c = λ found tidy S h tells.
    let view = g.W.Outside.view in
    let holds = g.K.NodeReader.holds in
    let last = g.K.NodeReader.last in
    let told = g.K.NodeReader.pinned in
    let room = g.K.NodeReader.room in
    let disk = g.K.NodeReader.has_disk in
    let rests = g.K.Keeper.rests in
    let effects : Pins → Effects = λ pins. effects_of pins g.K.Keeper.measures g.K.Keeper.applied g.K.Saver.saved in
    let stands = StandsCommitted g.K.Keeper.stands found tidy in
    let s = c.args.session in
    let v = view c.args.world.now in
    refused_line effects (room s.pinned.store.store.keeper) S v (λ (Z : State). Stands view holds last told room rests s c.args.world.now found tidy Z) stands h
    (still_leaves view holds last told room disk g.K.Keeper.stands rests effects g.met.K.Keeper.held_stands found tidy s.pinned s.open c.args.world.now c.args.world.now S.within S.sitting S h (untouched_same v))
    c.in-Err-Refused.refusal c.args.bytes.now c.refusal_spoken-spoken.result (rw c.in-Err-Refused.field-0-is at c.in-Err-Refused.ensures) (subst (λ r. SaysRefusal r c.refusal_spoken-spoken.result) c.from.ensures c.refusal_spoken-spoken.ensures)

pub returns-in-Err-Memory-clause-carries : goal.returns-in-Err-Memory-clause-carries
returns-in-Err-Memory-clause-carries g c = λ found tidy S h tells.
    let view = g.W.Outside.view in
    let holds = g.K.NodeReader.holds in
    let last = g.K.NodeReader.last in
    let told = g.K.NodeReader.pinned in
    let room = g.K.NodeReader.room in
    let disk = g.K.NodeReader.has_disk in
    let rests = g.K.Keeper.rests in
    let effects : Pins → Effects = λ pins. effects_of pins g.K.Keeper.measures g.K.Keeper.applied g.K.Saver.saved in
    let stands = StandsCommitted g.K.Keeper.stands found tidy in
    let s = c.args.session in
    let v = view c.args.world.now in
    silent_line effects (room s.pinned.store.store.keeper) S v (λ (Z : State). Stands view holds last told room rests s c.args.world.now found tidy Z) stands h
    (still_leaves view holds last told room disk g.K.Keeper.stands rests effects g.met.K.Keeper.held_stands found tidy s.pinned s.open c.args.world.now c.args.world.now S.within S.sitting S h (untouched_same v)) c.args.bytes.now
