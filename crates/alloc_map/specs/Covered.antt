-- What is known once some places are covered.
use Rattle.std.specs.Prelude.{◌≡◌, ◌<◌, ◌≤◌, ◌⊎◌, ℕ, ◌+◌, Bool, true, List, [], ◌∷◌, length, min, Option, Some, None, IfSome}
use Rattle.pst_base.specs.declared.places.Place.{Place}
use Rattle.alloc_map.specs.Rooms.{IsLeast}
use Rattle.alloc_map.specs.Slots.{is_used}
use Rattle.alloc_map.specs.Standing.{Covers, SomeCovers, IsCovered}

-- two places of the list cover the slot
unfoldable pub IsTwice : List Place → ℕ → Type 0
IsTwice [] slot = ⊥
IsTwice (p ∷ ps) slot = (Covers p slot × SomeCovers ps slot) ⊎ IsTwice ps slot

-- no slot is covered twice
abbrev pub Once : List Place → Type 0
Once places = (slot : ℕ) → IsTwice places slot → ⊥

-- the slot is used, and one of n from a slot on
pub record IsUsedIn (used : List Bool) (from n slot : ℕ) : Type 0 where
  pub low : from ≤ slot
  pub high : slot < from + n
  pub taken : is_used used slot ≡ true

-- the least number of which P holds, or none where there is none
abbrev pub IsLeastOf : (ℕ → Type 0) → Option ℕ → Type 0
IsLeastOf P None = (p : ℕ) → P p → ⊥
IsLeastOf P (Some p) = IsLeast P p

-- the lesser of two numbers that may be none
abbrev pub least_of : Option ℕ → Option ℕ → Option ℕ
least_of None b = b
least_of (Some a) None = Some a
least_of (Some a) (Some b) = Some (min a b)

-- just the slots of the places are used, and the slot is the least that two of them cover
pub record IsCovering (places : List Place) (used : List Bool) (twice : Option ℕ) : Type 0 where
  pub covered : IsCovered places used
  pub least : IsLeastOf (IsTwice places) twice
  pub within : IfSome twice (λ slot. slot < length used)
