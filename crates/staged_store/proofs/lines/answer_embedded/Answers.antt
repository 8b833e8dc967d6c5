use Rattle.std.proofs.Common.{subst, sym}
use Rattle.node_port.specs.Stops.{Room}
use Rattle.pinned_session.proofs.store_session_laws.mail_draft_laws.Looking.{untouched_then}
use Rattle.staged_store.specs.Saying.{Underway}
use Rattle.staged_store.specs.Standing.{IsUnderway, Stages}
use Rattle.staged_store.proofs.RespondLaws.{becomes, replies, stops_meant}
use Rattle.staged_store.proofs.TellLaws.{keeps_then}
use Rattle.staged_store.proofs.lines.answer_embedded.Goals as goal

pub returns-in-Ok-Replies-clause-responds : goal.returns-in-Ok-Replies-clause-responds
returns-in-Ok-Replies-clause-responds g c = λ base tidy U held is.
    let room = g.K.NodeReader.room c.args.under.store.store.keeper in
    let done = c.mean-under.ensures in
    let has = λ (Z : Underway). IsUnderway base room c.mean-under.result.0 tidy Z in
    replies room U has (done.underway base tidy U held is) c.args.line.now c.mean-under.result.1 c.in-Ok-Replies.reply c.reply_spoken.result (done.answer base tidy U held is) (rw c.in-Ok-Replies.field-0-is at c.in-Ok-Replies.is) c.reply_spoken.ensures

pub returns-in-Ok-Becomes-clause-responds : goal.returns-in-Ok-Becomes-clause-responds
returns-in-Ok-Becomes-clause-responds g c = λ base tidy U held is.
    let room = g.K.NodeReader.room c.args.under.store.store.keeper in
    let done = c.mean-under.ensures in
    let keeps = done.stays base tidy U held is in
    let has = λ (Z : Underway). IsUnderway base room c.stage.result.0 tidy Z in
    let under = done.underway base tidy U held is in
    let there = subst (λ (r : Room). IsUnderway base r c.mean-under.result.0 tidy U) (sym keeps.room) under in
    becomes room U has c.args.line.now c.mean-under.result.1 c.in-Ok-Becomes.command c.stage.result.1 (done.answer base tidy U held is) (rw c.in-Ok-Becomes.field-0-is at c.in-Ok-Becomes.is)
    (subst (λ (r : Room). Stages r U c.in-Ok-Becomes.command (λ Z. IsUnderway base r c.stage.result.0 tidy Z) c.stage.result.1) keeps.room (c.stage.ensures.stages base tidy U (keeps.stays base held) there))

pub returns-in-Ok-Becomes-clause-stays : goal.returns-in-Ok-Becomes-clause-stays
returns-in-Ok-Becomes-clause-stays g c = λ base tidy U held is.
    let done = c.mean-under.ensures in
    let keeps = done.stays base tidy U held is in
    let under = done.underway base tidy U held is in
    let there = subst (λ (r : Room). IsUnderway base r c.mean-under.result.0 tidy U) (sym keeps.room) under in
    keeps_then keeps (c.stage.ensures.stays base tidy U (keeps.stays base held) there)

pub returns-in-Ok-Becomes-clause-same : goal.returns-in-Ok-Becomes-clause-same
returns-in-Ok-Becomes-clause-same g c = untouched_then c.mean-under.ensures.same c.stage.ensures.same

pub returns-in-Err-clause-responds : goal.returns-in-Err-clause-responds
returns-in-Err-clause-responds g c = λ base tidy U held is.
    let room = g.K.NodeReader.room c.args.under.store.store.keeper in
    let done = c.mean-under.ensures in
    let has = λ (Z : Underway). IsUnderway base room c.mean-under.result.0 tidy Z in
    stops_meant room U has (done.underway base tidy U held is) c.args.line.now c.mean-under.result.1 c.in-Err.stop c.stopped.result (done.answer base tidy U held is) c.in-Err.is c.stopped.ensures
