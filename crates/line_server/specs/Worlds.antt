-- What taking input, answering a line and saying a reply do to the world.
use Rattle.std.specs.Prelude.{◌≡◌, ℕ, List, ◌++◌, ◌≤◌, length, take}
use Rattle.pst_outside.specs.World.{World, SameDisk}
use Rattle.pst_outside.specs.Calls.{NeverFall, StaysButInput, StaysButSaid, NoMore, Elapses, Follows, Settled, LeavesOnly, SaysSome}

-- nothing changed but the input that is left
pub record Listens (old new : World) : Type 0 where
  pub counts : NeverFall old new
  pub stays : StaysButInput old new
  pub keeps_told : old.tells → new.tells
  pub crash : NoMore old new
  pub time : Elapses old new

-- the input that is left is as before, and no count of faults falls
pub record Quiet (old new : World) : Type 0 where
  pub counts : NeverFall old new
  pub told : new.tells → old.tells
  pub input : new.tells → new.input ≡ old.input

-- the text was said
abbrev pub Speaks : List ℕ → World → World → Type 0
Speaks text old new = new.tells → new.here.said ≡ old.here.said ++ text

-- a front of the text was said, and nothing else changed
pub record SaysFront (text : List ℕ) (old new : World) : Type 0 where
  pub counts : NeverFall old new
  pub stays : StaysButSaid old new
  pub crash : Follows SameDisk old new
  pub settled : Settled old → Settled new
  pub any_moment : LeavesOnly old new (SaysSome old text)
  pub front : new.tells → (k : ℕ) × (k ≤ length text) × (new.here.said ≡ old.here.said ++ take k text)
