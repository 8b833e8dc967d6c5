-- The disk's state after a list of events, and the images that a crash may leave of it.
use Rattle.std.specs.Prelude.{◌≡◌, ℕ, ◌+◌, ◌-◌, ◌<◌, ◌≤◌, min, List, [], ◌∷◌, ◌++◌, length, take, drop, replicate, slice_index}
use Rattle.std.specs.List.{Contains}
use Rattle.std.proofs.Common.{sym, subst}
use Rattle.std.proofs.Math.Nat.{le_refl}
use Rattle.std.proofs.lemmas.List.{take_all}
use Rattle.pst_base.specs.declared.places.Place.{Place}
use Rattle.pst_outside.specs.World.{Image, World, after_write}
use Rattle.pst_outside.specs.declared.outside.Part.{Part}
use Rattle.pst_outside.specs.declared.outside.Part.TheVariants.{Main, Side, Copy}
use Rattle.pst_outside.specs.declared.record.Event.{Event}
use Rattle.pst_outside.specs.declared.record.Event.TheVariants.{Wrote, Lost, Synced, Said}
use Rattle.pst_outside.specs.declared.crash.Pick.{Pick}
use Rattle.pst_outside.specs.declared.crash.Pick.TheVariants.{Old, New, Junk}

-- a part: what is stable, what a read gives, and the ranges written since the last sync that succeeded
pub record PartState : Type 0 where
  pub synced : List ℕ
  pub now : List ℕ
  pub ranges : List Place

-- the three parts, and what has been said
pub record Disk : Type 0 where
  pub main : PartState
  pub side : PartState
  pub copy : PartState
  pub said : List ℕ

-- all stable
abbrev pub stable : List ℕ → PartState
stable bytes = record { synced = bytes; now = bytes; ranges = [] }

-- after a write
abbrev pub part_after_write : ℕ → List ℕ → PartState → PartState
part_after_write at bytes part = record { synced = part.synced; now = after_write part.now at bytes; ranges = part.ranges ++ record { ib = at; len = length bytes } ∷ [] }

-- after a write that failed
abbrev pub part_after_loss : ℕ → ℕ → PartState → PartState
part_after_loss at n part = record { synced = part.synced; now = part.now; ranges = part.ranges ++ record { ib = at; len = n } ∷ [] }

-- after a sync
abbrev pub part_after_sync : PartState → PartState
part_after_sync part = stable part.now

-- the disk with one part changed
abbrev pub change : Part → (PartState → PartState) → Disk → Disk
change Main f disk = record { main = f disk.main; side = disk.side; copy = disk.copy; said = disk.said }
change Side f disk = record { main = disk.main; side = f disk.side; copy = disk.copy; said = disk.said }
change Copy f disk = record { main = disk.main; side = disk.side; copy = f disk.copy; said = disk.said }

-- one part of the disk
abbrev pub part_of : Part → Disk → PartState
part_of Main disk = disk.main
part_of Side disk = disk.side
part_of Copy disk = disk.copy

-- the disk after one more event
abbrev pub step : Disk → Event → Disk
step disk (Wrote part at bytes) = change part (part_after_write at bytes) disk
step disk (Lost part at n) = change part (part_after_loss at n) disk
step disk (Synced part) = change part part_after_sync disk
step disk (Said bytes) = record { main = disk.main; side = disk.side; copy = disk.copy; said = disk.said ++ bytes }

-- the state after all events, the first of them first
abbrev pub replay : Disk → List Event → Disk
replay disk [] = disk
replay disk (event ∷ events) = replay (step disk event) events

-- the place lies in one of the ranges
abbrev pub InRanges : List Place → ℕ → Type 0
InRanges ranges i = (range : Place) × Contains ranges range × (range.ib ≤ i) × (i < range.ib + range.len)

-- What a crash may leave of a part: a length between, the stable bytes outside the ranges, and any bytes elsewhere.
pub record IsPartImage (part : PartState) (c : List ℕ) : Type 0 where
  pub no_shorter : length part.synced ≤ length c
  pub no_longer : length c ≤ length part.now
  pub same : (i : ℕ) → i < length part.synced → (InRanges part.ranges i → ⊥) → slice_index c i ≡ slice_index part.synced i

-- what a crash may leave
pub record IsImage (disk : Disk) (c : Image) : Type 0 where
  pub main : IsPartImage disk.main c.main
  pub side : IsPartImage disk.side c.side
  pub copy : IsPartImage disk.copy c.copy
  pub said : c.said ≡ disk.said

-- what a read gives, and what has been said
abbrev pub held : Disk → Image
held disk = record { main = disk.main.now; side = disk.side.now; copy = disk.copy.now; said = disk.said }

-- the list with A5h in a range, as far as the list goes
abbrev pub junk_range : List ℕ → Place → List ℕ
junk_range bytes range = take range.ib bytes ++ replicate (min range.len (length bytes - range.ib)) 0xA5 ++ drop (range.ib + range.len) bytes

-- the list with A5h in each of the ranges
abbrev pub junked : List ℕ → List Place → List ℕ
junked bytes [] = bytes
junked bytes (range ∷ ranges) = junked (junk_range bytes range) ranges

-- the outcome of a crash that the pick asks for
abbrev pub picked : Pick → PartState → List ℕ
picked Old part = part.synced
picked New part = part.now
picked Junk part = junked part.now part.ranges

-- what a crash might have left at some moment since t
abbrev pub Left : Disk → List Event → ℕ → Image → Type 0
Left first events t c = (k : ℕ) × (t ≤ k) × (k ≤ length events) × IsImage (replay first (take k events)) c

pub only_last : (first : Disk) (events : List Event) (c : Image) → Left first events (length events) c → IsImage (replay first events) c
only_last first events c left = subst (λ (l : List Event). IsImage (replay first l) c) (take_all left.0 events left.1) left.3

pub last_counts : (first : Disk) (events : List Event) (t : ℕ) (c : Image) → t ≤ length events → IsImage (replay first events) c → Left first events t c
last_counts first events t c le image =
    (length events, le, le_refl (length events), subst (λ (l : List Event). IsImage (replay first l) c) (sym (take_all (length events) events (le_refl (length events)))) image)

-- the world whose disk held `first` at the start, and has had these events
abbrev pub world_of : Disk → List Event → ℕ → ℕ → ℕ → ℕ → List ℕ → World
world_of first events in_faults out_faults disk_faults written input = record {
  in_faults = in_faults;
  out_faults = out_faults;
  disk_faults = disk_faults;
  written = written;
  tells = Unit {0};
  here = held (replay first events);
  input = input;
  may_leave = IsImage (replay first events);
  moment = length events;
  left_since = Left first events;
  told = λ t c left. tt;
  said = λ c left. left.said;
  counts_now = last_counts first events;
  only_now = only_last first events;
}
