-- Why calls on a keeper stop.
use Rattle.std.specs.Prelude.{◌≡◌, ℕ, ◌+◌, ◌*◌, ◌/◌, ◌^◌, ◌<◌, ◌≤◌, min, max, Bool, true, false, List, [], ◌∷◌, length, Option, None, Some, Result, Ok, Err}
use Rattle.pst_base.specs.Flat.{Flat}
use Rattle.pst_base.specs.declared.ids.Nid.{Nid}
use Rattle.pst_outside.specs.Calls.{Rose}
use Rattle.node_port.specs.Nodes.{Nodes}
use Rattle.node_port.specs.declared.node.NodeRec.{NodeRec}
use Rattle.node_port.specs.declared.keeper.KeepStop.{KeepStop}
use Rattle.node_port.specs.declared.keeper.KeepStop.TheVariants as keep
use Rattle.node_port.specs.declared.keeper.PrepareStop.{PrepareStop}
use Rattle.node_port.specs.declared.keeper.PrepareStop.TheVariants as prepare
use Rattle.node_port.specs.Pins.{Pins, no_pins}

-- whatever nodes are held, this is so of them
abbrev pub Tells : (Nodes → Type 0) → (Nodes → Type 0) → Type 0
Tells held P = (N : Nodes) → held N → P N

-- where nodes are held, what each pin told it tells still
abbrev pub KeepsPins : (Nodes → Type 0) → (ℕ → Nodes → Type 0) → (ℕ → Nodes → Type 0) → Type 0
KeepsPins held pinned pinned' = (N : Nodes) → held N → (p : ℕ) (M : Nodes) → pinned p M → pinned' p M

-- a fault comes only of a reader that has a disk, and shows in the count of the disk's; what was found changed never comes where nodes are told
abbrev pub KeepStops : Bool → ℕ → ℕ → (Nodes → Type 0) → KeepStop → Type 0
KeepStops disk before after held keep.Fault = Rose before after × (disk ≡ true)
KeepStops disk before after held (keep.Changed ib stored computed) = (N : Nodes) → held N → ⊥
KeepStops disk before after held keep.Memory = Unit {0}

-- the same; the others are `RoomDecides`
abbrev pub PrepareStops : Bool → ℕ → ℕ → (Nodes → Type 0) → PrepareStop → Type 0
PrepareStops disk before after held prepare.Fault = Rose before after × (disk ≡ true)
PrepareStops disk before after held (prepare.Changed ib stored computed) = (N : Nodes) → held N → ⊥
PrepareStops disk before after held prepare.Memory = Unit {0}
PrepareStops disk before after held (prepare.Full free need) = Unit {0}
PrepareStops disk before after held prepare.IdsSpent = Unit {0}

-- the free cells, the pages of the file's trees, whether a next number is used up, the header that was found at the opening, and the pins
pub record Room : Type 0 where
  pub free : ℕ
  pub pages : ℕ
  pub spent : Bool
  pub found : List ℕ
  pub pins : Pins

-- but for the pins both rooms are the same
pub record SameSpace (old new : Room) : Type 0 where
  pub free : new.free ≡ old.free
  pub pages : new.pages ≡ old.pages
  pub spent : new.spent ≡ old.spent
  pub found : new.found ≡ old.found

-- more than any change needs
abbrev pub ample : Room
ample = record { free = 2 ^ 64; pages = 0; spent = false; found = []; pins = no_pins }

-- how many subnodes there are, and how many data blocks in them
abbrev pub subs_size : List Flat → ℕ
subs_size [] = 0
subs_size (f ∷ flats) = 1 + length f.blocks + subs_size flats

-- how many data blocks, nodes and subnodes are new
abbrev pub size : List (Nid × Option NodeRec) → ℕ
size [] = 0
size ((nid, None) ∷ cs) = size cs
size ((nid, Some node) ∷ cs) = 1 + length node.blocks + subs_size node.subs + size cs

-- The cells that are kept for changes: some for each page of the trees, and three for each of the blocks that are asked for
-- or that are new, whichever are more.
abbrev pub need : ℕ → ℕ → List (Nid × Option NodeRec) → ℕ
need pages room cs = pages / 16 + 3 * max room (min (size cs) (2 ^ 60)) + 16

-- `Full` comes just where no number is used up and too little is free, and `IdsSpent` just where one is
abbrev pub RoomDecides : {R : Type 0} → Room → ℕ → List (Nid × Option NodeRec) → Result R PrepareStop → Type 0
RoomDecides has room cs (Ok ready) = (has.spent ≡ false) × (need has.pages room cs ≤ has.free)
RoomDecides has room cs (Err (prepare.Full free needed)) = (has.spent ≡ false) × (has.free < need has.pages room cs) × (free ≡ has.free) × (needed ≡ need has.pages room cs)
RoomDecides has room cs (Err prepare.IdsSpent) = has.spent ≡ true
RoomDecides has room cs (Err prepare.Fault) = Unit {0}
RoomDecides has room cs (Err (prepare.Changed ib stored computed)) = Unit {0}
RoomDecides has room cs (Err prepare.Memory) = Unit {0}
