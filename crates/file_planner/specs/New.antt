-- New blocks and pages of a file: their numbers, and where they stand.
use Rattle.std.specs.Prelude.{◌≡◌, ◌⊎◌, ◌+◌, nat_lt, if◌then◌else◌, ℕ, List, [], ◌∷◌, ◌++◌, Contains}
use Rattle.pst_base.specs.declared.ids.Bref.{Bref}
use Rattle.pst_base.specs.declared.places.Place.{Place}
use Rattle.btree_pages.specs.declared.entry.BlockEntry.{BlockEntry}
use Rattle.file_blocks.specs.Blocks.{entry_key}
use Rattle.file_layout.specs.Nodes.{place_of}

-- ---- blocks

-- a block has this number, but for bit 1, which is a mark, and stands there
pub record IsNewBlock (number : ℕ) (place : Place) (e : BlockEntry) : Type 0 where
  pub number_is : ((e.at).bid.bits ≡ number) ⊎ ((e.at).bid.bits ≡ number + 2)
  pub stands : place_of e ≡ place

-- the blocks have numbers from one on, each 4 above the one before, and stand at these places in order
abbrev pub AreNewBlocks : ℕ → List Place → List BlockEntry → Type 0
AreNewBlocks next [] es = es ≡ []
AreNewBlocks next (p ∷ ps) [] = ⊥
AreNewBlocks next (p ∷ ps) (e ∷ es) = IsNewBlock next p e × AreNewBlocks (next + 4) ps es

-- the entries whose keys aren't below a number
abbrev pub entries_from : ℕ → List BlockEntry → List BlockEntry
entries_from limit [] = []
entries_from limit (e ∷ es) = if nat_lt (entry_key e) limit then entries_from limit es else e ∷ entries_from limit es

-- ---- pages

-- pages with numbers from one on, each 1 above the one before, at these places in order
abbrev pub new_pages : ℕ → List Place → List Bref
new_pages next [] = []
new_pages next (p ∷ ps) = record { bid = record { bits = next }; ib = p.ib } ∷ new_pages (next + 1) ps

-- the pages of trees are some of those that were there, and all of the new ones
pub record AreRenewed (old new now : List Bref) : Type 0 where
  pub all : (at : Bref) → Contains now at → Contains (old ++ new) at
  pub each : (at : Bref) → Contains new at → Contains now at
