-- A subnode in a flat list of all that stand below a node.
use Rattle.std.specs.Prelude.{ℕ, List}

-- how many subnodes stand above it, its id, and its data blocks
pub record Flat : Type 0 where
  pub level : ℕ
  pub nid : ℕ
  pub blocks : List (List ℕ)
