-- A source of pages to contracts: how it may change, and why a call over it stops.
use Rattle.std.specs.Prelude.{◌≡◌, ◌⊎◌, ℕ, ◌+◌, ◌-◌, ◌^◌, ◌≤◌, min, List, Option, Some}
use Rattle.pst_base.specs.declared.ids.Bref.{Bref}
use Rattle.pst_base.specs.declared.stops.MemOr.{MemOr}
use Rattle.pst_base.specs.declared.stops.MemOr.TheVariants.{Memory, Refused}
use Rattle.pst_base.specs.declared.stops.SourceStop.{SourceStop}
use Rattle.pst_base.specs.declared.stops.SourceStop.TheVariants.{Failed, Changed}
use Rattle.tree_edit.specs.Shapes.{IsWhole}
use Rattle.tree_edit.specs.Pages.{shapes}

-- a source of pages, of type A
pub record Source (A : Type 0) : Type 1 where
  -- it tells its pages, and these are their contents; one that tells nothing holds none
  pub holds : (Bref → Option (List ℕ)) → Type 0
  -- how often its device has failed
  pub fails : ℕ
  -- how often it found changed what it had looked at before
  pub changes : ℕ
  -- whether it comes of an earlier one by calls alone, which leave what stands around it
  pub since : A → Type 0

-- the count rose, or stands at its end
abbrev pub Rose : ℕ → ℕ → Type 0
Rose before now = min (before + 1) (2 ^ 64 - 1) ≤ now

-- no count fell, what the source told it tells, and it comes of all that it came of
pub record Later {A : Type 0} (old new : Source A) : Type 0 where
  pub fails : old.fails ≤ new.fails
  pub changes : old.changes ≤ new.changes
  pub told : (find : Bref → Option (List ℕ)) → old.holds find → new.holds find
  pub since : (first : A) → old.since first → new.since first

-- a stop by the device shows in its count; what was found changed shows in its own, and never comes of a source that tells
abbrev pub StoppedBy : {A : Type 0} → Source A → Source A → SourceStop → Type 0
StoppedBy old new Failed = Rose old.fails new.fails
StoppedBy old new (Changed ib stored computed) = Rose old.changes new.changes × ((find : Bref → Option (List ℕ)) → old.holds find → ⊥)

-- the same, or want of memory
abbrev pub SourceStops : {A : Type 0} → Source A → Source A → MemOr SourceStop → Type 0
SourceStops old new Memory = Unit {0}
SourceStops old new (Refused stop) = StoppedBy old new stop

-- the source gave a page of this place
pub record Gave {A : Type 0} (s : Source A) (ib : ℕ) : Type 0 where
  pub at : Bref
  pub body : List ℕ
  pub place : at.ib ≡ ib
  pub given : (find : Bref → Option (List ℕ)) → s.holds find → find at ≡ Some body

-- A call that reads a tree stopped. A stop by the device shows in its count. What was found changed shows in its own count, or the place is that of a page that the source gave, and it never comes of a source that tells such a tree.
abbrev pub StoppedOn : {A : Type 0} → ((Bref → Option (List ℕ)) → Type 0) → Source A → Source A → SourceStop → Type 0
StoppedOn Tells old new Failed = Rose old.fails new.fails
StoppedOn Tells old new (Changed ib stored computed) = (Rose old.changes new.changes ⊎ Gave old ib) × ((find : Bref → Option (List ℕ)) → old.holds find → Tells find → ⊥)

-- the same, or want of memory
abbrev pub StopsOn : {A : Type 0} → ((Bref → Option (List ℕ)) → Type 0) → Source A → Source A → MemOr SourceStop → Type 0
StopsOn Tells old new Memory = Unit {0}
StopsOn Tells old new (Refused stop) = StoppedOn Tells old new stop

-- the contents tell a tree of this root
abbrev pub TellsWhole : {E : Type 0} → (ℕ → ℕ) → ℕ → (List ℕ → E) → (E → ℕ) → Bref → (Bref → Option (List ℕ)) → Type 0
TellsWhole {E} rule size entry_of key root find = (es : List E) × (ps : List Bref) × IsWhole (shapes rule size entry_of find) key root es ps
