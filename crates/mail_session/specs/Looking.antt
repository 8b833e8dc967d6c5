-- A store that is only read, as what answers lines.
use Rattle.std.specs.Prelude.{◌≡◌, ◌⊎◌, ℕ, Bool, true, false, List, [], ◌∷◌, Result, Ok, Err}
use Rattle.pst_outside.specs.World.{World}
use Rattle.pst_outside.specs.Calls.{Rose, Untouched}
use Rattle.command_text.specs.declared.command.Command.{Command}
use Rattle.command_text.specs.declared.command.LineRefusal.{LineRefusal}
use Rattle.command_text.specs.declared.embedded.EmbeddedCommand.{EmbeddedCommand}
use Rattle.command_text.specs.declared.embedded.EmbeddedCommand.TheVariants.{Embed, List as ListsInside, Get, Set, Unset}
use Rattle.command_text.specs.declared.reply.CommandRefusal.TheVariants.{Limit, Line}
use Rattle.command_text.specs.declared.reply.LastLine.TheVariants.{NoMemory}
use Rattle.command_text.specs.declared.reply.Limit.TheVariants as limits
use Rattle.command_text.specs.Replies.{text}
use Rattle.line_server.specs.Lines.{Piece, line, too_long, further}
use Rattle.mail_tree.specs.Folders.{replied}
use Rattle.mail_searches.specs.Searching.{Searching}
pub use Rattle.file_filling.specs.pinned_session.Holding.{TellsTree}
use Rattle.file_filling.specs.mail_reading.Asked.{reads}
use Rattle.file_filling.specs.pinned_session.mail_embedding.Meant.{Means}
use Rattle.file_filling.specs.pinned_session.mail_embedding.declared.meaning.Meaning.{Meaning}
use Rattle.file_filling.specs.pinned_session.mail_embedding.declared.meaning.Meaning.TheVariants.{Replies, Becomes}
use Rattle.file_filling.specs.store_session.declared.carrying.StoreStop.{StoreStop}
use Rattle.file_filling.specs.store_session.declared.carrying.StoreStop.TheVariants.{Disk}
use Rattle.file_filling.specs.store_session.Run.{Steps, refused}
use Rattle.session_lines.specs.Lines.{session_line}
use Rattle.session_lines.specs.declared.line.SessionLine.{SessionLine}
use Rattle.session_lines.specs.declared.line.SessionLine.TheVariants.{Pin, At, Unpin, OpenView, ShowView, CloseView, Embedded, Command as StoreCommand}
use Rattle.tree_look.specs.mail_draft.declared.stop.Stop.{Stop}
use Rattle.tree_look.specs.mail_draft.declared.stop.Stop.TheVariants.{Refused}

-- what is said to a command: to one that reads the reply of its step, which leaves the tree and its searches; to any other that it is no line
abbrev pub AsksCommand : Bool → Searching → Command → List ℕ → Type 0
AsksCommand true X c said = Steps X c said X
AsksCommand false X c said = said ≡ refused Line

-- the lines on the message in an attachment that only read it
abbrev pub reads_inside : EmbeddedCommand → Bool
reads_inside (Embed message source name) = false
reads_inside (ListsInside message attachment) = true
reads_inside (Get message attachment tag) = true
reads_inside (Set message attachment v) = false
reads_inside (Unset message attachment tag) = false

-- what such a line comes to is a reply or a refusal
abbrev pub SaysMeant : Result Meaning Stop → List ℕ → Type 0
SaysMeant (Ok (Replies reply)) said = said ≡ text reply
SaysMeant (Ok (Becomes c)) said = ⊥
SaysMeant (Err (Refused refusal)) said = said ≡ refused refusal
SaysMeant (Err lost) said = ⊥

-- what is said to a line on the message in an attachment: to one that only reads what it comes to, which leaves the tree and its searches; to any other that it is no line
abbrev pub AsksInside : Bool → Searching → EmbeddedCommand → List ℕ → Type 0
AsksInside true X asked said = (meant : Result Meaning Stop) × Means X.tree asked meant × SaysMeant meant said
AsksInside false X asked said = said ≡ refused Line

-- what is said to what a line asks for; a line that asks for nothing, for pins or for views is none, whatever is wrong with it
abbrev pub Asks : Searching → Result SessionLine LineRefusal → List ℕ → Type 0
Asks X (Ok (StoreCommand c)) said = AsksCommand (reads c) X c said
Asks X (Ok (Embedded asked)) said = AsksInside (reads_inside asked) X asked said
Asks X (Ok Pin) said = said ≡ refused Line
Asks X (Ok (At pin c)) said = said ≡ refused Line
Asks X (Ok (Unpin pin)) said = said ≡ refused Line
Asks X (Ok (OpenView folder tag direction)) said = said ≡ refused Line
Asks X (Ok (ShowView view grouped)) said = said ≡ refused Line
Asks X (Ok (CloseView view)) said = said ≡ refused Line
Asks X (Err refusal) said = said ≡ refused Line

-- what is said to a piece of the input: a line that is too long is answered once
abbrev pub LookAnswers : Searching → Piece → List ℕ → Type 0
LookAnswers X (line bytes) said = Asks X (session_line bytes) said ⊎ (said ≡ text (replied NoMemory))
LookAnswers X too_long said = said ≡ refused (Limit limits.Line)
LookAnswers X further said = said ≡ []

-- these replies to these pieces, one after another: the tree and its searches stay
abbrev pub LookRun : Searching → List Piece → List (List ℕ) → Type 0
LookRun X [] [] = Unit {0}
LookRun X (piece ∷ pieces) (said ∷ replies) = LookAnswers X piece said × LookRun X pieces replies
LookRun X [] (said ∷ replies) = ⊥
LookRun X (piece ∷ pieces) [] = ⊥

-- What a line asks for was answered: nothing changed, and what the store has it has still.
pub record ReaderSays (has has' : Searching → Type 0) (old new : World) (asked : Result SessionLine LineRefusal) (said : List ℕ) : Type 0 where
  pub same : Untouched old new
  pub says : (X : Searching) → has X → (Asks X asked said ⊎ (said ≡ text (replied NoMemory))) × has' X

-- A line was answered: nothing changed, and what the store has it has still.
pub record ReaderAnswers (has has' : Searching → Type 0) (old new : World) (bytes said : List ℕ) : Type 0 where
  pub same : Untouched old new
  pub answered : (X : Searching) → has X → LookAnswers X (line bytes) said × has' X

-- A line at which the session stops: nothing changed, and the disk failed, whatever tree the store has. That something changed never comes of a store that has a tree.
pub record ReaderStops (has : Searching → Type 0) (old new : World) (stop : StoreStop) : Type 0 where
  pub same : Untouched old new
  pub cause : stop ≡ Disk → Rose old.disk_faults new.disk_faults
  pub failed : (X : Searching) → has X → stop ≡ Disk
