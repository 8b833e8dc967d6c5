-- What room a transaction has.
use Rattle.std.specs.Prelude.{◌≡◌, ◌≤◌, ◌<◌, ◌+◌, ◌*◌, ◌/◌, ◌^◌, ℕ, true, false}
use Rattle.node_port.specs.Stops.{Room}
use Rattle.staged_nodes.specs.declared.cells.CellsLeft.{CellsLeft}
use Rattle.staged_nodes.specs.declared.cells.CellsLeft.TheVariants.{Spent, Cells, Ample}

-- What is known of a keeper's room: that a next number is used up; how many cells are free, and a sixteenth of its pages, for each of which a cell is kept; or that
-- there are more cells than 2^60 blocks need.
abbrev pub IsLeft : Room → CellsLeft → Type 0
IsLeft room Spent = room.spent ≡ true
IsLeft room (Cells free kept) = (room.spent ≡ false) × (room.free ≡ free) × (room.pages / 16 ≡ kept) × (kept < 2 ^ 60)
IsLeft room Ample = (room.spent ≡ false) × (room.pages / 16 + 3 * 2 ^ 60 + 16 ≤ room.free)

-- The room of a line in a transaction that puts so much so far: three more cells are kept for each of it, as for 48 pages.
abbrev pub room_beside : ℕ → Room → Room
room_beside size room = record room { pages = room.pages + 48 * size }
