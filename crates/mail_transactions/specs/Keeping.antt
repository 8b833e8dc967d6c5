-- What an answerer over a disk keeps to, so that its session can be told of.
use Rattle.std.specs.Prelude.{◌≡◌, ℕ, Bool, true, List}
use Rattle.pst_outside.specs.World.{Image, World, SameDisk}
use Rattle.pst_outside.specs.Calls.{Settled}
use Rattle.line_server.specs.History.{Answering, Stopping}
use Rattle.line_server.specs.Lines.{line}
use Rattle.node_port.specs.Stops.{Room}
use Rattle.node_port.specs.Pins.{Pins}
use Rattle.staged_store.specs.pinned_session.store_session.Carrying.{Leaves}
use Rattle.staged_store.specs.pinned_session.store_session.Disks.{Effects, medium}
use Rattle.staged_store.specs.pinned_session.store_session.declared.carrying.StoreStop.{StoreStop}
use Rattle.mail_transactions.specs.Lines.{StopLeaves}
use Rattle.mail_transactions.specs.Run.{Answers}
use Rattle.mail_transactions.specs.State.{State, pins_in}

-- An answerer over a world has a session's state, for which the disk stands, and the disk has its room; that stays while input is taken and replies are said, and answers go from state to state, and from disk to disk.
pub record Keeping {S W : Type 0} (view : W → World) (disk : Bool) (has : S → W → State → Type 0) (stands : Image → State → Type 0) (ordered : State → Type 0) (rests : Image → Type 0) (effects : Pins → Effects) (room : S → Room) (answers : Answering S W) (stops : Stopping S W StoreStop) : Type 0 where
  pub settled : (a : S) (v : W) (X : State) → has a v X → Settled (view v)
  pub at_rest : (a : S) (v : W) (X : State) → has a v X → (view v).tells → rests (view v).here
  pub here : (a : S) (v : W) (X : State) → has a v X → stands (view v).here X
  pub order : (a : S) (v : W) (X : State) → has a v X → ordered X
  pub measured : (a : S) (v : W) (X : State) → has a v X → (effects (pins_in X)).measures (view v).here (room a)
  pub stands_on : (c d : Image) (X : State) → SameDisk c d → stands c X → stands d X
  pub has_on : (a : S) (v w : W) (X : State) → has a v X → Settled (view w) → ((view w).tells → (view v).tells × SameDisk (view v).here (view w).here) → (disk ≡ true → (view w).tells) → has a w X
  pub answered : (a b : S) (v w : W) (bytes said : List ℕ) (X : State) → answers a v bytes said b w → has a v X → (disk ≡ true → (view w).tells)
      → (Y : State) × Answers effects (room a) X (medium (view v)) (view w).tells (line bytes) said Y (medium (view w)) × has b w Y × Leaves stands (view v) (view w) X Y
  pub stopped : (a b : S) (v w : W) (bytes : List ℕ) (stop : StoreStop) (X : State) → stops a v bytes stop b w → has a v X → (disk ≡ true → (view w).tells)
      → StopLeaves stands effects (room a) (view v) (view w) X bytes stop
