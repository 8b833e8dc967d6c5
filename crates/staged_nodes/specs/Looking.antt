-- What reading leaves as it was.
use Rattle.std.specs.Prelude.{◌≡◌, ℕ, List}
use Rattle.pst_outside.specs.World.{World}
use Rattle.pst_outside.specs.Calls.{Untouched}
use Rattle.node_port.specs.Nodes.{Nodes}
use Rattle.node_port.specs.Stops.{KeepsPins, Room, Tells}

-- a keeper holds what it held, its pins tell what they told, its counters and its room are the same, and the world is untouched
pub record Looks (holds holds' : Nodes → Type 0) (pinned pinned' : ℕ → Nodes → Type 0) (last last' : List ℕ) (room room' : Room) (v w : World) : Type 0 where
  pub stays : Tells holds holds'
  pub pins : KeepsPins holds pinned pinned'
  pub counters : last' ≡ last
  pub space : room' ≡ room
  pub world : Untouched v w
