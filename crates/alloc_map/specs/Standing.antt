-- The places that stand in a file, which two of them meet, and which slots they take.
use Rattle.std.specs.Prelude.{◌≡◌, ◌==◌, ◌<◌, ◌≤◌, ◌⊎◌, ◌↔◌, ℕ, Bool, true, length, suc, zero, ◌+◌, ◌*◌, ◌%◌, List, [], ◌∷◌, ◌++◌, if◌then◌else◌}
use Rattle.pst_base.specs.declared.places.Place.{Place}
use Rattle.pst_base.specs.declared.stops.MemOr.{MemOr}
use Rattle.pst_base.specs.declared.stops.MemOr.TheVariants.{Memory, Refused}
use Rattle.alloc_map.specs.declared.overlap.Overlap.{Overlap}
use Rattle.alloc_map.specs.Slots.{is_used, slot_of, slots_in, start_of}

-- how many slots the fixed pages of a region take, which follow one another from its start: eight for the AMap page, eight for a PMap page in each eighth region, and eight for an FMap page in region 128 and each 496th after it
abbrev pub fixed_slots : ℕ → ℕ
fixed_slots r = if r % 496 == 128 then 24 else (if r % 8 == 0 then 16 else 8)

-- the fixed pages of a region, as one place
abbrev pub fixed_place : ℕ → Place
fixed_place r = record { ib = start_of (3968 * r); len = 64 * fixed_slots r }

-- those of the first regions
unfoldable pub fixed_places : ℕ → List Place
fixed_places zero = []
fixed_places (suc r) = fixed_place r ∷ fixed_places r

-- the AMap page of a region, its first 512 bytes
abbrev pub amap_place : ℕ → Place
amap_place r = record { ib = start_of (3968 * r); len = 512 }

-- those of the first regions
unfoldable pub amap_places : ℕ → List Place
amap_places zero = []
amap_places (suc r) = amap_place r ∷ amap_places r

-- the places of which no two may meet in so many regions: those that are given, and the AMap pages
abbrev pub standing : List Place → ℕ → List Place
standing places regions = places ++ amap_places regions

-- the places whose slots are used in so many regions: those that are given, and all fixed pages
abbrev pub occupied : List Place → ℕ → List Place
occupied places regions = places ++ fixed_places regions

-- the slot is one of the place's
pub record Covers (p : Place) (slot : ℕ) : Type 0 where
  pub begins : slot_of p.ib ≤ slot
  pub ends : slot < slot_of p.ib + slots_in p

-- the slot is one of those of a place of the list
unfoldable pub SomeCovers : List Place → ℕ → Type 0
SomeCovers [] slot = ⊥
SomeCovers (p ∷ ps) slot = Covers p slot ⊎ SomeCovers ps slot

-- just the slots of the places are used
abbrev pub IsCovered : List Place → List Bool → Type 0
IsCovered places used = (slot : ℕ) → slot < length used → (is_used used slot ≡ true) ↔ SomeCovers places slot

-- two places share slots, of which this is the first: one of the two begins there
pub record Meet (p q : Place) (slot : ℕ) : Type 0 where
  pub first : Covers p slot
  pub second : Covers q slot
  pub later : (slot ≡ slot_of p.ib) ⊎ (slot ≡ slot_of q.ib)

-- the place meets one of the list so
unfoldable pub MeetsSome : Place → List Place → ℕ → Type 0
MeetsSome p [] slot = ⊥
MeetsSome p (q ∷ qs) slot = Meet p q slot ⊎ MeetsSome p qs slot

-- two places of the list meet, of which the later begins at the slot
unfoldable pub IsMeeting : List Place → ℕ → Type 0
IsMeeting [] slot = ⊥
IsMeeting (p ∷ ps) slot = MeetsSome p ps slot ⊎ IsMeeting ps slot

-- two places meet, and the later start of any two that meet is at ib or after it
pub record IsOverlap (places : List Place) (ib : ℕ) : Type 0 where
  pub slot : ℕ
  pub start : ib ≡ start_of slot
  pub meets : IsMeeting places slot
  pub least : (other : ℕ) → IsMeeting places other → slot ≤ other

-- a refusal names the least later start of two that meet
abbrev pub StopsAtOverlap : List Place → MemOr Overlap → Type 0
StopsAtOverlap places Memory = Unit {0}
StopsAtOverlap places (Refused overlap) = IsOverlap places overlap.ib
