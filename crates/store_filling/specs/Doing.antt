-- What carrying out the commands of a large input comes to.
use Rattle.std.specs.Prelude.{◌≡◌, ◌⊎◌, ℕ, ◌<◌, ◌≤◌, List, [], ◌∷◌, ◌++◌, length, Result, Ok, Err}
use Rattle.pst_outside.specs.World.{Image, World}
use Rattle.pst_outside.specs.Calls.{LeavesOnly}
use Rattle.command_text.specs.declared.command.Command.{Command}
use Rattle.mail_reading.specs.mail_draft.declared.stop.Stop.{Stop}
use Rattle.mail_reading.specs.mail_draft.declared.stop.Stop.TheVariants as stops
use Rattle.mail_searches.specs.Searching.{Searching}
use Rattle.store_session.specs.Disks.{Effects, Medium, SameMedium, medium}
use Rattle.store_filling.specs.Commands.{fill_command, nothing_made}
use Rattle.store_filling.specs.Filling.{Does, FillTurn, Fills, IsFilled, Refuses, commands_of, disk_at, made_at, tree_at}
use Rattle.store_filling.specs.declared.commands.Made.{Made}
use Rattle.store_filling.specs.declared.places.FillPlaces.{FillPlaces}

-- ---- one command

-- it changed nothing
abbrev pub StaysSo : (Searching → Type 0) → Searching → World → World → List FillTurn → Type 0
StaysSo has X old new turns = (turns ≡ []) × has X × (new.tells → SameMedium (medium old) (medium new))

-- what became of a command, which came to these turns, at most one; of that `is` holds with what the call gives
abbrev pub TurnsSo : {R : Type 0} → Effects → (Searching → Type 0) → (R → FillTurn → Type 0) → Command → Searching → World → World → Result R Stop → List FillTurn → Type 0
TurnsSo effects has is c X old new (Ok r) turns = (turn : FillTurn) × (turns ≡ turn ∷ []) × Does effects new.tells c X (medium old) turn × is r turn × (turn.disk ≡ medium new) × has turn.tree
TurnsSo effects has is c X old new (Err (stops.Refused refusal)) turns = StaysSo has X old new turns × Refuses effects c X (medium old) refusal
TurnsSo effects has is c X old new (Err stops.Fault) turns = (turns ≡ []) ⊎ ((turn : FillTurn) × (turns ≡ turn ∷ []) × Does effects ⊥ c X (medium old) turn)
TurnsSo effects has is c X old new (Err (stops.Changed ib stored computed)) turns = ⊥
TurnsSo effects has is c X old new (Err stops.Memory) turns = StaysSo has X old new turns

-- The command came to this from the tree on: a stop at any moment leaves a disk that stands for the tree before it or after it.
pub record CommandEnds {R : Type 0} (effects : Effects) (stands : Image → Searching → Type 0) (has : Searching → Type 0) (is : R → FillTurn → Type 0) (c : Command) (X : Searching) (old new : World) (result : Result R Stop) : Type 0 where
  pub turns : List FillTurn
  pub so : TurnsSo effects has is c X old new result turns
  pub images : LeavesOnly old new (IsFilled stands old.here.said X turns)

-- ---- all commands

-- the commands so far came to these turns, and the store has the tree after them
pub record FilledTo (effects : Effects) (stands : Image → Searching → Type 0) (has : Searching → Type 0) (places : FillPlaces) (seed n : ℕ) (made : Made) (X : Searching) (old new : World) : Type 0 where
  pub turns : List FillTurn
  pub run : Fills effects new.tells places seed 0 nothing_made X (medium old) turns
  pub len : length turns ≡ n
  pub made_is : made_at 0 nothing_made turns ≡ made
  pub disk : disk_at (medium old) turns ≡ medium new
  pub has_it : has (tree_at X turns)
  pub images : LeavesOnly old new (IsFilled stands old.here.said X turns)

-- what the store has where a command wasn't carried out
abbrev pub StaysAt : (Searching → Type 0) → Searching → World → World → List FillTurn → List FillTurn → Type 0
StaysAt has X old new turns hand = (hand ≡ []) × has (tree_at X turns) × (new.tells → SameMedium (disk_at (medium old) turns) (medium new))

-- why they stopped behind these turns
abbrev pub StopsSo : Effects → (Searching → Type 0) → FillPlaces → ℕ → ℕ → Searching → World → World → Stop → List FillTurn → List FillTurn → Type 0
StopsSo effects has places seed count X old new (stops.Refused refusal) turns hand =
    StaysAt has X old new turns hand × (length turns < commands_of count) × Refuses effects (fill_command places seed (length turns) (made_at 0 nothing_made turns)) (tree_at X turns) (disk_at (medium old) turns) refusal
StopsSo effects has places seed count X old new stops.Fault turns hand = Unit {0}
StopsSo effects has places seed count X old new (stops.Changed ib stored computed) turns hand = ⊥
StopsSo effects has places seed count X old new stops.Memory turns hand = StaysAt has X old new turns hand

-- the commands stopped, behind some of them and maybe with one in hand
pub record StopsWithin (effects : Effects) (stands : Image → Searching → Type 0) (has : Searching → Type 0) (places : FillPlaces) (seed count : ℕ) (X : Searching) (old new : World) (stop : Stop) : Type 0 where
  pub turns : List FillTurn
  pub run : Fills effects new.tells places seed 0 nothing_made X (medium old) turns
  pub hand : List FillTurn
  pub in_hand : Fills effects ⊥ places seed (length turns) (made_at 0 nothing_made turns) (tree_at X turns) (disk_at (medium old) turns) hand
  pub one : length hand ≤ 1
  pub so : StopsSo effects has places seed count X old new stop turns hand
  pub images : LeavesOnly old new (IsFilled stands old.here.said X (turns ++ hand))

-- all were carried out, or they stopped
abbrev pub AllEnd : Effects → (Image → Searching → Type 0) → (Searching → Type 0) → FillPlaces → ℕ → ℕ → Searching → World → World → Result Made Stop → Type 0
AllEnd effects stands has places seed count X old new (Ok made) = FilledTo effects stands has places seed (commands_of count) made X old new
AllEnd effects stands has places seed count X old new (Err stop) = StopsWithin effects stands has places seed count X old new stop
