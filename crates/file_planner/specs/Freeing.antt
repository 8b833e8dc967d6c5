-- What a commit frees, in the union of a file's slots with those that pins hold.
use Rattle.std.specs.Prelude.{◌≡◌, ◌<◌, ◌≤◌, ◌+◌, ℕ, Bool, List, length}
use Rattle.pst_base.specs.declared.places.Place.{Place}
use Rattle.alloc_map.specs.Slots.{is_used}
use Rattle.alloc_map.specs.Taken.{Taken}
use Rattle.pst_commit.specs.Held.{IsWithHeld}

-- just the n slots from a slot on have become used or free, as is said of each
pub record BecomesEach (old new : List Bool) (slot n : ℕ) (now : ℕ → Bool) : Type 0 where
  pub size : length new ≡ length old
  pub inside : (s : ℕ) → slot ≤ s → s < slot + n → is_used new s ≡ now s
  pub below : (s : ℕ) → s < slot → is_used new s ≡ is_used old s
  pub above : (s : ℕ) → slot + n ≤ s → is_used new s ≡ is_used old s

-- These places are still to be freed: with them the file uses more slots than after it, and the union is that of these and those of pins.
pub record IsLeft (after all : List Bool) (opened : List (ℕ × List Bool)) (places : List Place) : Type 0 where
  pub mid : List Bool
  pub left : Taken after mid places
  pub with_held : IsWithHeld mid opened all
