-- What committing the changes of a transaction to its keeper comes to.
use Rattle.std.specs.Prelude.{◌≡◌, ◌⊎◌, ◌≤◌, ℕ, Bool, true, false, List, [], Option, Result, Ok, Err}
use Rattle.pst_base.specs.declared.ids.Nid.{Nid}
use Rattle.pst_outside.specs.World.{Image, World}
use Rattle.pst_outside.specs.Calls.{LeavesOnly, Settled, Untouched}
use Rattle.node_port.specs.Nodes.{Nodes, changed}
use Rattle.node_port.specs.Stops.{Room, need}
use Rattle.node_port.specs.declared.keeper.PrepareStop.{PrepareStop}
use Rattle.node_port.specs.declared.keeper.PrepareStop.TheVariants as prepare
use Rattle.node_port.specs.declared.node.NodeRec.{NodeRec}
use Rattle.staged_store.specs.pinned_session.store_session.Disks.{Becomes, SameMedium, medium}
use Rattle.staged_store.specs.pinned_session.store_session.declared.carrying.StoreStop.{StoreStop}
use Rattle.staged_store.specs.pinned_session.store_session.declared.carrying.StoreStop.TheVariants.{Disk, Changed}

-- what a plan of the changes that stopped comes to; want of room and of numbers never come of a transaction that has its room
abbrev pub unprepared : PrepareStop → Result Bool StoreStop
unprepared prepare.Fault = Err Disk
unprepared (prepare.Changed ib stored computed) = Err (Changed ib stored computed)
unprepared prepare.Memory = Ok false
unprepared (prepare.Full free needed) = Err (Changed 0 0 0)
unprepared prepare.IdsSpent = Err (Changed 0 0 0)

-- there is room for changes, if there are some
abbrev pub HasRoomFor : Room → ℕ → List (Nid × Option NodeRec) → Type 0
HasRoomFor room asked cs = (cs ≡ [] → ⊥) → (room.spent ≡ false) × (need room.pages asked cs ≤ room.free)

-- at each moment the disk stands for the nodes from before with their counters, or for those with the changes and new ones
abbrev pub LeavesNodes : (Image → Nodes → List ℕ → Type 0) → List ℕ → World → World → Nodes → List (Nid × Option NodeRec) → List ℕ → Type 0
LeavesNodes stands last v w N cs counters = LeavesOnly v w (λ c. (c.said ≡ v.here.said) × (stands c N last ⊎ stands c (changed N cs) counters))

-- The changes were made: the keeper holds the nodes with them, the counters are the new ones, and its pins tell what they told. Where there is none nothing was written.
pub record MadeChanges (stands : Image → Nodes → List ℕ → Type 0) (applied : List (Nid × Option NodeRec) → ℕ → Image → Image → Type 0) (holds : Nodes → Type 0) (told pinned : ℕ → Nodes → Type 0) (before last : List ℕ) (old new : Room) (rests : Image → Type 0) (v w : World) (N : Nodes) (cs : List (Nid × Option NodeRec)) (counters : List ℕ) : Type 0 where
  pub held : holds (changed N cs)
  pub keeps : (p : ℕ) (M : Nodes) → told p M → pinned p M
  pub counted : last ≡ counters
  pub found : new.found ≡ old.found
  pub pins : new.pins ≡ old.pins
  pub settled : Settled w
  pub at_rest : w.tells → rests w.here
  pub written : w.tells → (cs ≡ [] → ⊥) → Becomes (applied cs) (medium v) (medium w)
  pub unwritten : w.tells → cs ≡ [] → SameMedium (medium v) (medium w)
  pub leaves : LeavesNodes stands before v w N cs counters

-- nothing was done
pub record LeftNodes (holds : Nodes → Type 0) (told pinned : ℕ → Nodes → Type 0) (before last : List ℕ) (old new : Room) (v w : World) (N : Nodes) : Type 0 where
  pub held : holds N
  pub keeps : (p : ℕ) (M : Nodes) → told p M → pinned p M
  pub counted : last ≡ before
  pub room : new ≡ old
  pub same : Untouched v w

-- The changes were made, or there was no memory and nothing was done, or the disk failed. That something changed never comes, nor want of room.
abbrev pub CommitsAs : (Image → Nodes → List ℕ → Type 0) → (List (Nid × Option NodeRec) → ℕ → Image → Image → Type 0) → (Nodes → Type 0) → (ℕ → Nodes → Type 0) → (ℕ → Nodes → Type 0) → List ℕ → List ℕ → Room → Room → (Image → Type 0) → World → World → Nodes → List (Nid × Option NodeRec) → List ℕ
    → Result Bool StoreStop → Type 0
CommitsAs stands applied holds told pinned before last old new rests v w N cs counters (Ok true) = MadeChanges stands applied holds told pinned before last old new rests v w N cs counters
CommitsAs stands applied holds told pinned before last old new rests v w N cs counters (Ok false) = LeftNodes holds told pinned before last old new v w N
CommitsAs stands applied holds told pinned before last old new rests v w N cs counters (Err Disk) = LeavesNodes stands before v w N cs counters
CommitsAs stands applied holds told pinned before last old new rests v w N cs counters (Err (Changed ib stored computed)) = ⊥
