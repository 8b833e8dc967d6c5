-- A line that is answered in a session.
use Rattle.std.specs.Prelude.{◌≡◌, ℕ, Bool, true, List}
use Rattle.pst_outside.specs.World.{Image, World}
use Rattle.line_server.specs.Lines.{line}
use Rattle.node_port.specs.Pins.{Pins}
use Rattle.node_port.specs.Stops.{Room}
use Rattle.staged_store.specs.pinned_session.store_session.Carrying.{IsCaused, Leaves}
use Rattle.staged_store.specs.pinned_session.store_session.Disks.{Effects, medium}
use Rattle.staged_store.specs.pinned_session.store_session.declared.carrying.StoreStop.{StoreStop}
use Rattle.staged_store.specs.pinned_session.store_session.declared.carrying.StoreStop.TheVariants.{Disk, Changed}
use Rattle.mail_transactions.specs.Run.{Answers}
use Rattle.mail_transactions.specs.State.{State}

-- Whatever state the session had, it has the one after the line, if the world tells what a disk holds.
pub record AnswersLine (has has' : List ℕ → Bool → State → Type 0) (stands : List ℕ → Bool → Image → State → Type 0) (effects : Pins → Effects) (room : Room) (disk : Bool) (old new : World) (bytes said : List ℕ) : Type 0 where
  pub carried : (found : List ℕ) (tidy : Bool) (S : State) → has found tidy S → (disk ≡ true → new.tells)
      → (Z : State) × Answers effects room S (medium old) new.tells (line bytes) said Z (medium new) × has' found tidy Z × Leaves (stands found tidy) old new S Z

-- how a line at which the session stops leaves the disk: for one state or another, and nothing else is told of it
abbrev pub StopLeaves : (Image → State → Type 0) → (Pins → Effects) → Room → World → World → State → List ℕ → StoreStop → Type 0
StopLeaves stands effects room old new S bytes Disk = (Z : State) × (said : List ℕ) × Answers effects room S (medium old) ⊥ (line bytes) said Z (medium new) × Leaves stands old new S Z
StopLeaves stands effects room old new S bytes (Changed ib stored computed) = ⊥

-- A line at which the session stops: the disk failed on the way to a state, whatever state the session had. That something changed never comes of a session that has one.
pub record StopsLine (has : List ℕ → Bool → State → Type 0) (stands : List ℕ → Bool → Image → State → Type 0) (effects : Pins → Effects) (room : Room) (disk : Bool) (old new : World) (bytes : List ℕ) (stop : StoreStop) : Type 0 where
  pub cause : IsCaused disk old new stop
  pub leaves : (found : List ℕ) (tidy : Bool) (S : State) → has found tidy S → (disk ≡ true → new.tells) → StopLeaves (stands found tidy) effects room old new S bytes stop
