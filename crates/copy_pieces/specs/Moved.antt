-- The blocks of a copy: those that a file's nodes reach, at other places.
use Rattle.std.specs.Prelude.{◌≡◌, ◌==◌, ℕ, ◌+◌, min, if◌then◌else◌, List, [], ◌∷◌}
use Rattle.btree_pages.specs.declared.entry.BlockEntry.{BlockEntry}
use Rattle.file_blocks.specs.Blocks.{entry_key}

-- the entries of blocks that are reached, each at least once
abbrev pub reached : (ℕ → ℕ) → List BlockEntry → List BlockEntry
reached uses [] = []
reached uses (e ∷ es) = if uses (entry_key e) == 0 then reached uses es else e ∷ reached uses es

-- the same block at some place: its entry counts one more than its references, up to the most that the field holds
pub record IsMoved (uses : ℕ → ℕ) (old new : BlockEntry) : Type 0 where
  pub bid : (new.at).bid ≡ (old.at).bid
  pub size : new.cb ≡ old.cb
  pub refs : new.refs ≡ min (uses (entry_key old) + 1) 65535

-- the same blocks, one by one
abbrev pub AreMoved : (ℕ → ℕ) → List BlockEntry → List BlockEntry → Type 0
AreMoved uses [] news = news ≡ []
AreMoved uses (old ∷ olds) [] = ⊥
AreMoved uses (old ∷ olds) (new ∷ news) = IsMoved uses old new × AreMoved uses olds news
