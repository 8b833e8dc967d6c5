-- The cells of a file that a command needs.
use Rattle.std.specs.Prelude.{◌≡◌, ◌<◌, ◌≤◌, ℕ, false}
use Rattle.std.specs.FinMap as map
use Rattle.node_port.specs.Stops.{Room}
use Rattle.mail_tree.specs.Changing.{Changed}
use Rattle.mail_draft.specs.Space.{space_bound}

-- the command puts or removes an object, so nodes are written for it
abbrev pub WritesNodes : Changed → Type 0
WritesNodes D = D.objects ≡ map.empty → ⊥

-- the changes are written, a number is left for them, and fewer cells are free than their bound
pub record IsFull (room : Room) (D : Changed) (free cells : ℕ) : Type 0 where
  pub writes : WritesNodes D
  pub numbers : room.spent ≡ false
  pub free_is : free ≡ room.free
  pub needed : cells ≡ space_bound room.pages D
  pub few : free < cells

-- as many cells are free as the bound of the changes, and a number is left for them
pub record HasCells (room : Room) (D : Changed) : Type 0 where
  pub numbers : room.spent ≡ false
  pub free : space_bound room.pages D ≤ room.free

-- if the changes are written, there is room for them
abbrev pub HasRoom : Room → Changed → Type 0
HasRoom room D = WritesNodes D → HasCells room D
