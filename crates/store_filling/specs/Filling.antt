-- How making a large input over a store ends.
use Rattle.std.specs.Prelude.{◌≡◌, ◌⊎◌, ℕ, ◌+◌, ◌<◌, ◌≤◌, List, [], ◌∷◌, ◌++◌, length, Some, Result, Ok, Err}
use Rattle.pst_outside.specs.World.{Image, World}
use Rattle.pst_outside.specs.Calls.{LeavesOnly, Settled}
use Rattle.command_text.specs.declared.command.Command.{Command}
use Rattle.command_text.specs.declared.command.Command.TheVariants.{ListFolder}
use Rattle.command_text.specs.declared.reply.CommandRefusal.{CommandRefusal}
use Rattle.command_text.specs.declared.reply.Reply.{Reply}
use Rattle.node_port.specs.Stops.{Room}
use Rattle.mail_reading.specs.mail_draft.declared.stop.Stop.{Stop}
use Rattle.mail_reading.specs.mail_draft.declared.stop.Stop.TheVariants as stops
use Rattle.store_session.specs.mail_store.Planning.{IsHindered}
use Rattle.store_session.specs.mail_store.Space.{HasRoom}
use Rattle.mail_searches.specs.Criteria.{Coming}
use Rattle.mail_searches.specs.Searching.{Searching}
use Rattle.mail_searches.specs.Step.{after, outcome}
use Rattle.store_session.specs.Disks.{Commits, Effects, Medium, SameMedium, medium}
use Rattle.store_filling.specs.Commands.{fill_command, made_after, nothing_made}
use Rattle.store_filling.specs.Counts.{AreCounted}
use Rattle.store_filling.specs.Places.{fill_places}
use Rattle.store_filling.specs.declared.commands.Made.{Made}
use Rattle.store_filling.specs.declared.counting.FillCounts.{FillCounts}
use Rattle.store_filling.specs.declared.places.FillPlaces.{FillPlaces}

-- ---- one command

-- A command that was carried out: what it answered, and the tree with its searches and the disk after it.
pub record FillTurn : Type 0 where
  pub reply : Reply
  pub tree : Searching
  pub disk : Medium

-- From the tree and the disk before it on, a command came to this turn: there was room for it, and a commit of its nodes takes the disk to the next. What becomes of the disk is said where `told`.
pub record Does (effects : Effects) (told : Type 0) (c : Command) (before : Searching) (old : Medium) (turn : FillTurn) : Type 0 where
  pub room : Room
  pub measured : effects.measures old.image room
  pub coming : Coming
  pub answers : outcome before c ≡ Ok coming
  pub reply : turn.reply ≡ coming.outcome.reply
  pub tree : turn.tree ≡ after before coming
  pub fits : HasRoom room coming.outcome.changed
  pub disk : told → Commits effects.applied coming old turn.disk

-- the command is refused, or the disk has no room or no number left for what it writes
abbrev pub Refuses : Effects → Command → Searching → Medium → CommandRefusal → Type 0
Refuses effects c before old refusal =
    (outcome before c ≡ Err (Some refusal)) ⊎ ((room : Room) × effects.measures old.image room × ((o : Coming) × (outcome before c ≡ Ok o) × IsHindered room o.outcome.changed (stops.Refused refusal)))

-- ---- one after another

-- the tree and the disk at the end
abbrev pub tree_at : Searching → List FillTurn → Searching
tree_at start [] = start
tree_at start (turn ∷ turns) = tree_at turn.tree turns

abbrev pub disk_at : Medium → List FillTurn → Medium
disk_at disk [] = disk
disk_at disk (turn ∷ turns) = disk_at turn.disk turns

-- what these turns made, from this place on
abbrev pub made_at : ℕ → Made → List FillTurn → Made
made_at n made [] = made
made_at n made (turn ∷ turns) = made_at (n + 1) (made_after n turn.reply made) turns

-- The commands of a large input from this place on came to these turns, from a tree and a disk on: each with the room of the disk before it.
abbrev pub Fills : Effects → Type 0 → FillPlaces → ℕ → ℕ → Made → Searching → Medium → List FillTurn → Type 0
Fills effects told places seed n made before old [] = Unit {0}
Fills effects told places seed n made before old (turn ∷ turns) =
    Does effects told (fill_command places seed n made) before old turn × Fills effects told places seed (n + 1) (made_after n turn.reply made) turn.tree turn.disk turns

-- nothing more was said, and the image stands for the tree after some of the turns
pub record IsFilled (stands : Image → Searching → Type 0) (first : List ℕ) (start : Searching) (turns : List FillTurn) (c : Image) : Type 0 where
  pub said : c.said ≡ first
  pub done : List FillTurn
  pub left : List FillTurn
  pub are : turns ≡ done ++ left
  pub tree : stands c (tree_at start done)

-- ---- the end

-- how many commands there are
abbrev pub commands_of : ℕ → ℕ
commands_of count = count + 3

-- why it was refused: the next command is, or behind the last one `ls` of the search or of the folder
abbrev pub IsRefusedAt : Effects → FillPlaces → ℕ → ℕ → Searching → Medium → List FillTurn → CommandRefusal → Type 0
IsRefusedAt effects places seed count start opened turns refusal =
    let made = made_at 0 nothing_made turns in
    let X = tree_at start turns in
    ((length turns < commands_of count) × Refuses effects (fill_command places seed (length turns) made) X (disk_at opened turns) refusal)
    ⊎ ((length turns ≡ commands_of count) × ((outcome X (ListFolder made.search) ≡ Err (Some refusal)) ⊎ (outcome X (ListFolder made.folder) ≡ Err (Some refusal))))

-- Why making it ended. That something changed never comes.
abbrev pub EndsSo : Effects → FillPlaces → ℕ → ℕ → Searching → Medium → List FillTurn → Result FillCounts Stop → Type 0
EndsSo effects places seed count start opened turns (Ok counts) = (length turns ≡ commands_of count) × AreCounted (tree_at start turns) (made_at 0 nothing_made turns) counts
EndsSo effects places seed count start opened turns (Err (stops.Refused refusal)) = IsRefusedAt effects places seed count start opened turns refusal
EndsSo effects places seed count start opened turns (Err stops.Fault) = Unit {0}
EndsSo effects places seed count start opened turns (Err (stops.Changed ib stored computed)) = ⊥
EndsSo effects places seed count start opened turns (Err stops.Memory) = Unit {0}

-- What making a large input came to in a store that had the tree with its searches, over the disk that its first command found. The turns that were carried out are a run of its commands, and where the disk failed one more may be in hand, of whose disk nothing is told.
pub record FillCame (effects : Effects) (opened : Medium) (told : Type 0) (start : Searching) (seed count : ℕ) (result : Result FillCounts Stop) : Type 0 where
  pub places : FillPlaces
  pub are : fill_places start.tree ≡ Ok (places.folder.bits, places.search.bits)
  pub turns : List FillTurn
  pub run : Fills effects told places seed 0 nothing_made start opened turns
  pub hand : List FillTurn
  pub in_hand : Fills effects ⊥ places seed (length turns) (made_at 0 nothing_made turns) (tree_at start turns) (disk_at opened turns) hand
  pub one : length hand ≤ 1
  pub none_in_hand : (result ≡ Err stops.Fault → ⊥) → hand ≡ []
  pub ends : EndsSo effects places seed count start opened turns result

-- So it ended, and a stop at any moment leaves a disk that stands for the tree after some of the turns. Unless the disk failed, it stands at the end for the tree after all of them, and nothing is pending.
pub record StoreFillEnds (effects : Effects) (stands : Image → Searching → Type 0) (rests : Image → Type 0) (opened : Medium) (first now : World) (start : Searching) (seed count : ℕ) (result : Result FillCounts Stop) : Type 0 where
  pub came : FillCame effects opened now.tells start seed count result
  pub images : LeavesOnly first now (IsFilled stands first.here.said start (came.turns ++ came.hand))
  pub ends_as : (result ≡ Err stops.Fault → ⊥) → stands now.here (tree_at start came.turns)
  pub disk_is : (result ≡ Err stops.Fault → ⊥) → now.tells → SameMedium (disk_at opened came.turns) (medium now)
  pub settled : (result ≡ Err stops.Fault → ⊥) → Settled now
  pub at_rest : (result ≡ Err stops.Fault → ⊥) → now.tells → rests now.here

-- the disk that the first command finds is that of the world at the call's start
pub record IsFound (first : World) (told : Type 0) (opened : Medium) : Type 0 where
  pub image : told → opened.image ≡ first.here
  pub written : opened.written ≡ first.written

-- so it ends in a store that had the tree with its searches at the call's start
abbrev pub FillsStore : Effects → (Image → Searching → Type 0) → (Image → Type 0) → World → World → Searching → ℕ → ℕ → Result FillCounts Stop → Type 0
FillsStore effects stands rests first now start seed count result = (opened : Medium) × IsFound first now.tells opened × StoreFillEnds effects stands rests opened first now start seed count result
