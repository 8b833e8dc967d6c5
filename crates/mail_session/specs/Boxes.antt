-- What a session in memory is: a run from a new store, which has room for all and writes nothing.
use Rattle.std.specs.Prelude.{◌≡◌, ◌⊎◌, ℕ, true, List, [], codes, Option, None, Some}
use Rattle.command_text.specs.declared.reply.CommandRefusal.{CommandRefusal}
use Rattle.line_server.specs.Lines.{Piece}
use Rattle.mail_searches.specs.Searching.{Searching, StartsSearching}
use Rattle.mail_tree.specs.Changing.{Changed}
use Rattle.node_port.specs.Stops.{Room, SameSpace, ample}
use Rattle.pst_outside.specs.Sure.{nothing}
use Rattle.tree_look.specs.mail_draft.declared.stop.Stop.TheVariants.{Refused}
use Rattle.file_filling.specs.mail_store.Planning.{IsHindered}
use Rattle.file_filling.specs.mail_transactions.Run.{Answers, Run}
use Rattle.file_filling.specs.mail_transactions.Stands.{IsOrdered}
use Rattle.file_filling.specs.mail_transactions.State.{AfterEach, State, Within, begins, pins_in}
use Rattle.file_filling.specs.staged_nodes.Room.{room_beside}
use Rattle.file_filling.specs.staged_nodes.Staged.{staged_size}
use Rattle.file_filling.specs.store_session.Disks.{Medium}
use Rattle.file_filling.specs.store_session.Turns.{StoreTurn, replies_of}
use Rattle.mail_session.specs.Memory.{memory_effects}

-- the name of the store in memory
abbrev pub NAME : List ℕ
NAME = codes "scratch"

-- no disk
abbrev pub no_disk : Medium
no_disk = record { image = nothing; written = 0 }

-- a piece was answered from a state on, in memory, where nothing is told of a disk
abbrev pub AnswersFrom : State → Piece → List ℕ → State → Type 0
AnswersFrom S piece said Z = (room : Room) × (memory_effects (pins_in S)).measures nothing room × Answers memory_effects room S no_disk ⊥ piece said Z no_disk

-- the room that is left for a command, within a transaction or outside
abbrev pub room_left : Option Within → Room → Room
room_left None room = room
room_left (Some w) room = room_beside (staged_size w.nodes) room

-- want of room hinders no command, nor does want of numbers
abbrev pub IsFree : State → Type 0
IsFree S = (room : Room) → SameSpace ample room → (D : Changed) (refusal : CommandRefusal) → IsHindered (room_left S.within room) D (Refused refusal) → ⊥

-- the tree of a state is in order with its searches, each running one of which lists what filtering lists, and tidy; and nothing hinders a command but want of memory
pub record IsSound (S : State) : Type 0 where
  pub order : IsOrdered true S
  pub free : IsFree S

-- The replies to lines are those of a run of a session from a new store, which keeps to no disk; each state of it is sound.
pub record Serves (done : List Piece) (replies : List (List ℕ)) : Type 0 where
  pub start : Searching
  pub new : StartsSearching NAME start
  pub turns : List (StoreTurn State)
  pub run : Run memory_effects ⊥ (begins start) no_disk done turns
  pub are : replies ≡ replies_of turns
  pub first : IsSound (begins start)
  pub sound : AfterEach IsSound turns

-- the same, or there were no lines
abbrev pub IsSession : List Piece → List (List ℕ) → Type 0
IsSession done replies = ((done ≡ []) × (replies ≡ [])) ⊎ Serves done replies
