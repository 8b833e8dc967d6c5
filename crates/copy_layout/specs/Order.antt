-- Where the blocks and pages of a file without holes stand: one behind the other, beside the fixed pages.
use Rattle.std.specs.Prelude.{◌≡◌, ◌≤◌, ◌⊎◌, ℕ, ◌+◌, ◌*◌, ◌%◌, List, [], ◌∷◌}
use Rattle.pst_base.specs.declared.places.Place.{Place}
use Rattle.alloc_map.specs.Ends.{region_end}
use Rattle.alloc_map.specs.Rooms.{IsLeast}
use Rattle.alloc_map.specs.Standing.{fixed_slots}

-- so many bytes from p on meet no fixed page of any region; a region begins where those before it end
abbrev pub IsFree : ℕ → ℕ → Type 0
IsFree len p = (r : ℕ) → (p + len ≤ region_end r) ⊎ (region_end r + 64 * fixed_slots r ≤ p)

-- so many bytes may stand at p behind what ends at `at`: at a multiple of a unit, in no region's fixed pages
pub record MayStand (unit at len p : ℕ) : Type 0 where
  pub multiple : p % unit ≡ 0
  pub behind : at ≤ p
  pub free : IsFree len p

-- the first place for them
abbrev pub IsNext : ℕ → ℕ → ℕ → ℕ → Type 0
IsNext unit at len p = IsLeast (MayStand unit at len) p

-- Each place is the first for its length behind the one before it. The first of them is the first behind `from`, and the last ends at `end`.
abbrev pub InOrder : ℕ → ℕ → List Place → ℕ → Type 0
InOrder unit from [] end = end ≡ from
InOrder unit from (p ∷ ps) end = IsNext unit from p.len p.ib × InOrder unit (p.ib + p.len) ps end

-- a file ends where regions do: the least such end, of one region at least, that isn't below what the file needs
pub record IsEnd (need end : ℕ) : Type 0 where
  pub regions : ℕ
  pub some : 1 ≤ regions
  pub ends : end ≡ region_end regions
  pub enough : need ≤ end
  pub least : (n : ℕ) → 1 ≤ n → need ≤ region_end n → end ≤ region_end n
