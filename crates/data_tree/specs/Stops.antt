-- What an answer about a tree of blocks says of the tree's reading.
use Rattle.std.specs.Prelude.{◌≡◌, ℕ, List, Option, Result, Ok, Err}
use Rattle.pst_base.specs.declared.stops.MemOr.{MemOr}
use Rattle.pst_base.specs.declared.stops.MemOr.TheVariants.{Memory, Refused}
use Rattle.data_tree.specs.declared.source.TreeStop.{TreeStop}
use Rattle.data_tree.specs.declared.source.TreeStop.TheVariants.{Source as BySource}
use Rattle.data_tree.specs.Source.{Source, StoppedBy}

-- a stop by the source is its own; each other is the fault that the reading gives of the blocks told
abbrev pub TreeStops : {A Y : Type 0} → Source A → Source A → ((ℕ → Option (List ℕ)) → Result Y TreeStop) → MemOr TreeStop → Type 0
TreeStops old new reading Memory = Unit {0}
TreeStops old new reading (Refused (BySource stop)) = StoppedBy old new stop
TreeStops old new reading (Refused fault) = (find : ℕ → Option (List ℕ)) → old.holds find → reading find ≡ Err fault

-- what was read, seen by view, is what the reading gives of the blocks told, and each stop is as above
abbrev pub Reads : {A X Y : Type 0} → (X → Y) → Source A → Source A → ((ℕ → Option (List ℕ)) → Result Y TreeStop) → Result X (MemOr TreeStop) → Type 0
Reads view old new reading (Ok x) = (find : ℕ → Option (List ℕ)) → old.holds find → reading find ≡ Ok (view x)
Reads view old new reading (Err stop) = TreeStops old new reading stop

-- the same where no source is asked: each stop is a fault of the reading, or want of memory
abbrev pub FaultStops : {Y : Type 0} → Result Y TreeStop → MemOr TreeStop → Type 0
FaultStops reading Memory = Unit {0}
FaultStops reading (Refused (BySource stop)) = ⊥
FaultStops reading (Refused fault) = reading ≡ Err fault

abbrev pub ReadsAlone : {X Y : Type 0} → (X → Y) → Result X (MemOr TreeStop) → Result Y TreeStop → Type 0
ReadsAlone view (Ok x) reading = reading ≡ Ok (view x)
ReadsAlone view (Err stop) reading = FaultStops reading stop
