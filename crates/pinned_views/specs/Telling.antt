-- What a keeper's pins tell beside its nodes.
use Rattle.std.specs.Prelude.{◌≡◌, ℕ, List}
use Rattle.node_port.specs.Nodes.{Nodes}

-- whatever a pin told, it tells still
abbrev pub KeepsTold : (ℕ → Nodes → Type 0) → (ℕ → Nodes → Type 0) → Type 0
KeepsTold told pinned = (p : ℕ) (N : Nodes) → told p N → pinned p N

-- a keeper holds the nodes, and its pins tell what they are to tell
pub record HoldsPinned (told : ℕ → Nodes → Type 0) (holds : Nodes → Type 0) (pinned : ℕ → Nodes → Type 0) (N : Nodes) : Type 0 where
  pub held : holds N
  pub keeps : KeepsTold told pinned

-- A pin of a keeper tells the nodes. Beside it the keeper holds some nodes, and those that it is to hold; its pins tell what they are to tell, and its counters are those.
pub record TellsPin (held : Nodes → Type 0) (told : ℕ → Nodes → Type 0) (counters : List ℕ) (holds : Nodes → Type 0) (pinned : ℕ → Nodes → Type 0) (last : List ℕ) (pin : ℕ) (N : Nodes) : Type 0 where
  pub tells : pinned pin N
  pub some : Nodes
  pub has : holds some
  pub stays : (M : Nodes) → held M → holds M
  pub keeps : KeepsTold told pinned
  pub counted : last ≡ counters
