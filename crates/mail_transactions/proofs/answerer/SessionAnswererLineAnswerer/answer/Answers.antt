use Rattle.std.proofs.Common.{◌∙◌, IfErr, IfOk, ℕ, Bool, List, Option, Some, subst, sym}
use Rattle.line_server.specs.Spoken.{spoken_text}
use Rattle.node_port.specs.Pins.{Pins}
use Rattle.staged_store.specs.pinned_session.store_session.Disks.{Effects, effects_of}
use Rattle.mail_transactions.specs.Lines.{AnswersLine, StopsLine}
use Rattle.mail_transactions.specs.Stands.{StandsCommitted, StandsSome, room_of}
use Rattle.mail_transactions.specs.State.{State}
use Rattle.mail_transactions.specs.declared.store.SessionStore.{SessionStore}
use Rattle.mail_transactions.proofs.LineLaws.{line_answered, line_stopped}
use Rattle.mail_transactions.proofs.answerer.SessionAnswererLineAnswerer.answer.Goals as goal

pub returns-clause-answers : goal.returns-clause-answers
returns-clause-answers g c =
    let v = g.W.Outside.view c.args.world.now in
    let w = g.W.Outside.view c.answer_line-session.new.world in
    let effects : Pins → Effects = λ pins. effects_of pins g.K.Keeper.measures g.K.Keeper.applied g.K.Saver.saved in
    let r = c.answer_line-session.result.1 in
    let before : Option (SessionStore g.row.K.Denot) → List ℕ → Bool → State → Type 0 = λ s found tidy Z. StandsSome g.W.Outside.view g.K.NodeReader.holds g.K.NodeReader.last g.K.NodeReader.pinned g.K.NodeReader.room g.K.Keeper.rests s c.args.world.now found tidy Z in
    let after : List ℕ → Bool → State → Type 0 = λ found tidy Z. StandsSome g.W.Outside.view g.K.NodeReader.holds g.K.NodeReader.last g.K.NodeReader.pinned g.K.NodeReader.room g.K.Keeper.rests (Some c.answer_line-session.result.0) c.answer_line-session.new.world found tidy Z in
    subst (λ (s : Option (SessionStore g.row.K.Denot)). IfOk r (λ spoken. AnswersLine (before s) after (StandsCommitted g.K.Keeper.stands) effects (room_of g.K.NodeReader.room s) g.K.NodeReader.has_disk v w c.args.line.now (spoken_text spoken))) (sym c.in-Some.is ∙ c.take.ensures.value)
    (line_answered (before (Some c.in-Some.session)) after (StandsCommitted g.K.Keeper.stands) effects (room_of g.K.NodeReader.room (Some c.in-Some.session)) g.K.NodeReader.has_disk v w c.args.line.now r c.answer_line-session.ensures.carries)

pub returns-clause-stops : goal.returns-clause-stops
returns-clause-stops g c =
    let v = g.W.Outside.view c.args.world.now in
    let w = g.W.Outside.view c.answer_line-session.new.world in
    let effects : Pins → Effects = λ pins. effects_of pins g.K.Keeper.measures g.K.Keeper.applied g.K.Saver.saved in
    let r = c.answer_line-session.result.1 in
    let before : Option (SessionStore g.row.K.Denot) → List ℕ → Bool → State → Type 0 = λ s found tidy Z. StandsSome g.W.Outside.view g.K.NodeReader.holds g.K.NodeReader.last g.K.NodeReader.pinned g.K.NodeReader.room g.K.Keeper.rests s c.args.world.now found tidy Z in
    let after : List ℕ → Bool → State → Type 0 = λ found tidy Z. StandsSome g.W.Outside.view g.K.NodeReader.holds g.K.NodeReader.last g.K.NodeReader.pinned g.K.NodeReader.room g.K.Keeper.rests (Some c.answer_line-session.result.0) c.answer_line-session.new.world found tidy Z in
    subst (λ (s : Option (SessionStore g.row.K.Denot)). IfErr r (λ stop. StopsLine (before s) (StandsCommitted g.K.Keeper.stands) effects (room_of g.K.NodeReader.room s) g.K.NodeReader.has_disk v w c.args.line.now stop)) (sym c.in-Some.is ∙ c.take.ensures.value)
    (line_stopped (before (Some c.in-Some.session)) after (StandsCommitted g.K.Keeper.stands) effects (room_of g.K.NodeReader.room (Some c.in-Some.session)) g.K.NodeReader.has_disk v w c.args.line.now r c.answer_line-session.ensures.carries c.answer_line-session.ensures.cause)
