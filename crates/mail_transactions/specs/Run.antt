-- A run of a session: the replies to lines, one after another, and the states and the disks after them.
use Rattle.std.specs.Prelude.{◌≡◌, ◌⊎◌, ℕ, List, [], ◌∷◌, Option, None, Some, Result, Ok, Err}
use Rattle.command_text.specs.declared.command.LineRefusal.{LineRefusal}
use Rattle.command_text.specs.declared.reply.CommandRefusal.TheVariants.{Limit, Line}
use Rattle.command_text.specs.declared.reply.Limit.TheVariants as limits
use Rattle.command_text.specs.declared.reply.LastLine.TheVariants.{NoMemory}
use Rattle.command_text.specs.Refused.{refusal_of}
use Rattle.command_text.specs.Replies.{text}
use Rattle.line_server.specs.Lines.{Piece, line, too_long, further}
use Rattle.mail_tree.specs.Folders.{replied}
use Rattle.node_port.specs.Pins.{Pins}
use Rattle.node_port.specs.Stops.{Room}
use Rattle.session_lines.specs.Lines.{transaction_line}
use Rattle.session_lines.specs.Texts.{transaction_text}
use Rattle.session_lines.specs.declared.line.SessionLine.{SessionLine}
use Rattle.session_lines.specs.declared.line.TransactionLine.{TransactionLine}
use Rattle.session_lines.specs.declared.line.TransactionLine.TheVariants.{Begin, Commit, Rollback, Session}
use Rattle.session_lines.specs.declared.line.TransactionReply.TheVariants.{Done}
use Rattle.staged_store.specs.Saying.{SaysOn, Underway}
use Rattle.staged_store.specs.pinned_session.Run.{Carries as CarriesOutside}
use Rattle.staged_store.specs.pinned_session.Sitting.{Sitting}
use Rattle.staged_store.specs.pinned_session.store_session.Disks.{Becomes, Effects, Medium, SameMedium}
use Rattle.staged_store.specs.pinned_session.store_session.Run.{refused}
use Rattle.staged_store.specs.pinned_session.store_session.Turns.{StoreTurn}
use Rattle.staged_store.specs.staged_nodes.Staged.{Staged, listed, none_staged}
use Rattle.mail_transactions.specs.State.{State, Within, pins_in, taken_back, underway, with_underway}

-- The changes of a transaction were committed, as one, by writing just these nodes; where there are none nothing was written.
pub record CommitsStaged (effects : Effects) (F : Staged) (old new : Medium) : Type 0 where
  pub written : (listed F ≡ [] → ⊥) → Becomes (effects.applied (listed F)) old new
  pub unwritten : listed F ≡ [] → SameMedium old new

-- From the state `before` and the disk `old` on, over which a keeper has this room: what is said, and the state and the disk after it. `effects`
-- says what room a disk has beside pins and what is made of it; what becomes of the disk is said where `told`.
module _ (effects : Pins → Effects) (room : Room) (before : State) (old : Medium) (told : Type 0) where
  -- nothing changed
  abbrev pub Stays : State → Medium → Type 0
  Stays after new = (after ≡ before) × (told → SameMedium old new)

  -- the line is none here
  abbrev pub IsNone : List ℕ → State → Medium → Type 0
  IsNone said after new = (said ≡ refused Line) × Stays after new

  -- a line outside of a transaction
  abbrev pub CarriesPlain : SessionLine → List ℕ → State → Medium → Type 0
  CarriesPlain asked said after new = (Z : Sitting) × CarriesOutside effects room before.sitting old told asked said Z new × (after ≡ record before { sitting = Z })

  -- a line within one: nothing is written
  abbrev pub CarriesStaged : Within → SessionLine → List ℕ → State → Medium → Type 0
  CarriesStaged w asked said after new = (U : Underway) × SaysOn room (underway before.sitting w) asked said U × (after ≡ with_underway before.sitting w U before) × (told → SameMedium old new)

  -- a line of a session
  abbrev pub CarriesIn : Option Within → SessionLine → List ℕ → State → Medium → Type 0
  CarriesIn None asked said after new = CarriesPlain asked said after new
  CarriesIn (Some w) asked said after new = CarriesStaged w asked said after new

  -- a transaction was opened; there is one at a time
  abbrev pub CarriesBegin : Option Within → List ℕ → State → Medium → Type 0
  CarriesBegin None said after new = (said ≡ transaction_text Done) × (after ≡ record before { within = Some (record { before = before.sitting; nodes = none_staged }) }) × (told → SameMedium old new)
  CarriesBegin (Some w) said after new = IsNone said after new

  -- the transaction was committed
  abbrev pub CarriesCommit : Option Within → List ℕ → State → Medium → Type 0
  CarriesCommit None said after new = IsNone said after new
  CarriesCommit (Some w) said after new = (said ≡ transaction_text Done) × (after ≡ record before { within = None }) × (told → CommitsStaged (effects (pins_in before)) w.nodes old new)

  -- it was dropped: the tree is the one from before it
  abbrev pub CarriesRollback : Option Within → List ℕ → State → Medium → Type 0
  CarriesRollback None said after new = IsNone said after new
  CarriesRollback (Some w) said after new = (said ≡ transaction_text Done) × (after ≡ record before { sitting = taken_back before.sitting w; within = None }) × (told → SameMedium old new)

  -- what a line asks for
  abbrev pub Carries : Result TransactionLine LineRefusal → List ℕ → State → Medium → Type 0
  Carries (Ok Begin) said after new = CarriesBegin before.within said after new
  Carries (Ok Commit) said after new = CarriesCommit before.within said after new
  Carries (Ok Rollback) said after new = CarriesRollback before.within said after new
  Carries (Ok (Session asked)) said after new = CarriesIn before.within asked said after new
  Carries (Err refusal) said after new = (said ≡ refused (refusal_of refusal)) × Stays after new

  -- want of memory: the line changes nothing
  abbrev pub LacksMemory : List ℕ → State → Medium → Type 0
  LacksMemory said after new = (said ≡ text (replied NoMemory)) × Stays after new

  -- the reply to a piece, and the state and the disk after it: a line that is too long is answered once
  abbrev pub Answers : Piece → List ℕ → State → Medium → Type 0
  Answers (line bytes) said after new = Carries (transaction_line bytes) said after new ⊎ LacksMemory said after new
  Answers too_long said after new = (said ≡ refused (Limit limits.Line)) × Stays after new
  Answers further said after new = (said ≡ []) × Stays after new

-- What is said to what a line asks for, or that there was no memory for it.
abbrev pub SaysTo : (Pins → Effects) → Room → State → Medium → TransactionLine → Type 0 → List ℕ → State → Medium → Type 0
SaysTo effects room before old asked told said after new = Carries effects room before old told (Ok asked) said after new ⊎ LacksMemory effects room before old told said after new

-- These pieces were answered, one after another, from a state and a disk on: each with the room of the disk before it.
abbrev pub Run : (Pins → Effects) → Type 0 → State → Medium → List Piece → List (StoreTurn State) → Type 0
Run effects told before old [] [] = Unit {0}
Run effects told before old (piece ∷ pieces) (turn ∷ turns) =
    ((room : Room) × (effects (pins_in before)).measures old.image room × Answers effects room before old told piece turn.said turn.tree turn.disk) × Run effects told turn.tree turn.disk pieces turns
Run effects told before old [] (turn ∷ turns) = ⊥
Run effects told before old (piece ∷ pieces) [] = ⊥
