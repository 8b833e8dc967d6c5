-- Places taken one after another, and given back.
use Rattle.std.specs.Prelude.{◌≡◌, ℕ, Bool, true, false, List, [], ◌∷◌, length, All}
use Rattle.pst_base.specs.declared.places.Place.{Place}
use Rattle.alloc_map.specs.Slots.{AreAll, Becomes, BeginsLeast, IsLaid, IsPageRoom, IsRoom, is_used, regions_of, slot_of, slots_in}
use Rattle.alloc_map.specs.Standing.{SomeCovers}
use Rattle.alloc_map.specs.Covered.{Once}

-- the least free place for a block of this length, or for a page
abbrev pub IsBlockPlace : List Bool → Place → Type 0
IsBlockPlace used p = BeginsLeast (IsRoom used (slots_in p)) p.ib

abbrev pub IsPagePlace : List Bool → Place → Type 0
IsPagePlace used p = BeginsLeast (IsPageRoom used) p.ib

-- each place is the least one in the slots that those before it left
abbrev pub Takes : (List Bool → Place → Type 0) → List Bool → List Place → List Bool → Type 0
Takes IsPlaceIn used [] after = after ≡ used
Takes IsPlaceIn used (p ∷ ps) after = (mid : List Bool) × IsPlaceIn used p × Becomes used mid (slot_of p.ib) (slots_in p) true × Takes IsPlaceIn mid ps after

-- just the slots of the places, which were free, are used now besides
pub record Taken (before now : List Bool) (ps : List Place) : Type 0 where
  pub size : length now ≡ length before
  pub laid : All (IsLaid (regions_of before)) ps
  pub covered : (slot : ℕ) → SomeCovers ps slot → (is_used now slot ≡ true) × (is_used before slot ≡ false)
  pub others : (slot : ℕ) → (SomeCovers ps slot → ⊥) → is_used now slot ≡ is_used before slot
  pub once : Once ps

-- the place is made of whole slots of the regions, of which each is used, or each is free
pub record IsAll (used : List Bool) (p : Place) (value : Bool) : Type 0 where
  pub laid : IsLaid (regions_of used) p
  pub all : AreAll used (slot_of p.ib) (slots_in p) value
