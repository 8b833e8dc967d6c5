-- What a source of blocks is to contracts, and how it may change.
use Rattle.std.specs.Prelude.{◌≡◌, ℕ, ◌+◌, ◌-◌, ◌^◌, ◌≤◌, min, List, length, Option, Some, None}
use Rattle.pst_base.specs.Ids.{key_of}
use Rattle.pst_base.specs.declared.ids.Bid.{Bid}
use Rattle.pst_base.specs.declared.stops.MemOr.{MemOr}
use Rattle.pst_base.specs.declared.stops.MemOr.TheVariants.{Memory, Refused}
use Rattle.pst_base.specs.declared.stops.SourceStop.{SourceStop}
use Rattle.pst_base.specs.declared.stops.SourceStop.TheVariants.{Failed, Changed}

-- the data of the block of each key, or none
abbrev pub Finder : Type 0
Finder = ℕ → Option (List ℕ)

-- how many bytes a block has, if there is one
abbrev pub length_if : Option (List ℕ) → Option ℕ
length_if None = None
length_if (Some b) = Some (length b)

-- the same of the block with this id, whose bit 0 doesn't count
abbrev pub size_in : (ℕ → Option (List ℕ)) → Bid → Option ℕ
size_in find bid = length_if (find (key_of bid.bits))

-- a source of blocks, of type A
pub record Source (A : Type 0) : Type 1 where
  -- it tells its blocks, and they are these; one that tells nothing holds none
  pub holds : (ℕ → Option (List ℕ)) → Type 0
  -- how often its device has failed
  pub fails : ℕ
  -- how often it found changed what it had looked at before
  pub changes : ℕ
  -- how long the file is, which no data tree may pass
  pub eof : ℕ
  -- whether it comes of an earlier one by calls alone, which leave what stands around it
  pub since : A → Type 0

-- the count rose, or stands at its end
abbrev pub Rose : ℕ → ℕ → Type 0
Rose before now = min (before + 1) (2 ^ 64 - 1) ≤ now

-- no count fell, what the source told it tells, and it comes of all that it came of
pub record Later {A : Type 0} (old new : Source A) : Type 0 where
  pub fails : old.fails ≤ new.fails
  pub changes : old.changes ≤ new.changes
  pub eof : new.eof ≡ old.eof
  pub told : (find : ℕ → Option (List ℕ)) → old.holds find → new.holds find
  pub since : (first : A) → old.since first → new.since first

-- a stop by the device shows in its count; what was found changed shows in its own, and never comes of a source that tells
abbrev pub StoppedBy : {A : Type 0} → Source A → Source A → SourceStop → Type 0
StoppedBy old new Failed = Rose old.fails new.fails
StoppedBy old new (Changed ib stored computed) = Rose old.changes new.changes × ((find : ℕ → Option (List ℕ)) → old.holds find → ⊥)

-- the same, or want of memory
abbrev pub SourceStops : {A : Type 0} → Source A → Source A → MemOr SourceStop → Type 0
SourceStops old new Memory = Unit {0}
SourceStops old new (Refused stop) = StoppedBy old new stop
