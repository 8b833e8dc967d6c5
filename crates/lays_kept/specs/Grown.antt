-- Finders of some of the blocks that another finds.
use Rattle.std.specs.Prelude.{◌≡◌, ℕ, Bool, if◌then◌else◌, List, Option, None, Ok}
use Rattle.btree_pages.specs.declared.entry.NodeEntry.{NodeEntry}
use Rattle.file_layout.specs.Nodes.{Node, node_at}

-- the finder with only the blocks of some keys
abbrev pub restricted : (ℕ → Bool) → (ℕ → Option (List ℕ)) → ℕ → Option (List ℕ)
restricted some find key = if some key then find key else None

-- a node of an entry needs only the blocks of these keys
abbrev pub NeedsOnly : (ℕ → Option (List ℕ)) → ℕ → NodeEntry → (ℕ → Bool) → Type 0
NeedsOnly find eof e some = (n : Node) → node_at find eof e ≡ Ok n → node_at (restricted some find) eof e ≡ Ok n
