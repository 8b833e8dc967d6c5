-- Bounds of regions, and how they are kept.
use Rattle.std.specs.Prelude.{◌≡◌, ◌<◌, ◌≤◌, ℕ, ◌+◌, ◌/◌, List, length, slice_index}

-- each bound is at most 128, and at most the number of its 64 regions
pub record AreTops (bounds tops : List ℕ) : Type 0 where
  pub size : length tops ≡ length bounds / 64 + 1
  pub few : length bounds ≤ 8192
  pub small : (r : ℕ) → r < length bounds → slice_index bounds r ≤ 128
  pub under : (r : ℕ) → r < length bounds → slice_index bounds r ≤ slice_index tops (r / 64)

-- the first region whose bound is at least n
pub record IsFirstAtLeast (bounds : List ℕ) (n r : ℕ) : Type 0 where
  pub within : r < length bounds
  pub enough : n ≤ slice_index bounds r
  pub first : (q : ℕ) → q < r → slice_index bounds q < n

-- the bounds from one on and below another become 128
pub record Raises (old new : List ℕ) (from to : ℕ) : Type 0 where
  pub size : length new ≡ length old
  pub raised : (r : ℕ) → from ≤ r → r < to → slice_index new r ≡ 128
  pub below : (r : ℕ) → r < from → slice_index new r ≡ slice_index old r
  pub above : (r : ℕ) → to ≤ r → slice_index new r ≡ slice_index old r
