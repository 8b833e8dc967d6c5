-- What the session in memory answers.
use Rattle.std.specs.Prelude.{◌≡◌, ℕ, true, List, []}
use Rattle.line_server.specs.Lines.{line}
use Rattle.pst_outside.specs.Sure.{silent}
use Rattle.pst_outside.specs.World.{World}
use Rattle.file_filling.specs.mail_transactions.Stands.{StandsSome}
use Rattle.file_filling.specs.mail_transactions.State.{State}
use Rattle.mail_session.specs.declared.mailbox.Mailbox.{Mailbox}
use Rattle.mail_session.specs.declared.mailbox.NoStop.{NoStop}
use Rattle.mail_session.specs.declared.nowhere.Nowhere.{Nowhere}
use Rattle.mail_session.specs.Boxes.{AnswersFrom}
use Rattle.mail_session.specs.Memory.{memory_holds, memory_last, memory_pinned, memory_rests, memory_room}

-- the world over which its keeper is asked tells nothing
abbrev pub nowhere_view : Nowhere → World
nowhere_view w = silent 0 0 0 w.written

-- the mailbox stands in a state
abbrev pub Sits : Mailbox → State → Type 0
Sits box S = StandsSome nowhere_view memory_holds memory_last memory_pinned memory_room memory_rests box.session box.nowhere [] true S

-- a line was answered by the mailbox, and nothing was asked of the world
abbrev pub BoxAnswers : {W : Type 0} → Mailbox → W → List ℕ → List ℕ → Mailbox → W → Type 0
BoxAnswers a before bytes said b after = ((S : State) → Sits a S → (Z : State) × AnswersFrom S (line bytes) said Z × Sits b Z) × (after ≡ before)

-- it never stops at a line
abbrev pub BoxStops : {W : Type 0} → Mailbox → W → List ℕ → NoStop → Mailbox → W → Type 0
BoxStops a before bytes stop b after = ⊥
