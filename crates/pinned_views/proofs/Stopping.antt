-- Why a reading stops, of what tells less.
use Rattle.std.proofs.Common.{ℕ, Bool, Result, Ok, Err, IfErr}
use Rattle.node_port.specs.Nodes.{Nodes}
use Rattle.node_port.specs.Stops.{KeepStops}
use Rattle.node_port.specs.declared.keeper.KeepStop.{KeepStop}
use Rattle.node_port.specs.declared.keeper.KeepStop.TheVariants.{Fault, Changed, Memory}

-- a stop that never comes where some nodes are held never comes where others are held beside them
pub stops_beside : {R : Type 0} (disk : Bool) (before after : ℕ) (held beside : Nodes → Type 0) → ((N : Nodes) → beside N → (M : Nodes) × held M) → (r : Result R KeepStop) → IfErr r (KeepStops disk before after held) → IfErr r (KeepStops disk before after beside)
stops_beside disk before after held beside finds (Ok x) is = tt
stops_beside disk before after held beside finds (Err Fault) is = is
stops_beside disk before after held beside finds (Err (Changed ib stored computed)) is = λ N h. let found = finds N h in is found.0 found.1
stops_beside disk before after held beside finds (Err Memory) is = tt
