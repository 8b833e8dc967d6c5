-- What a keeper tells behind a line within a transaction.
use Rattle.std.specs.Prelude.{◌≡◌, ℕ, List}
use Rattle.node_port.specs.Nodes.{Nodes}
use Rattle.node_port.specs.Stops.{Room}
use Rattle.pinned_session.specs.pinned_views.Telling.{KeepsTold}

-- what a keeper holds, tells, counts and has room for is as it was
pub record Keeps (held holds : Nodes → Type 0) (told pinned : ℕ → Nodes → Type 0) (counters last : List ℕ) (before after : Room) : Type 0 where
  pub stays : (N : Nodes) → held N → holds N
  pub keeps : KeepsTold told pinned
  pub counted : last ≡ counters
  pub room : after ≡ before
