-- What opening a transaction, and dropping one, comes to.
use Rattle.std.specs.Prelude.{None, Some, Result, Ok, Err}
use Rattle.line_server.specs.declared.spoken.Spoken.{Spoken}
use Rattle.line_server.specs.declared.spoken.Spoken.TheVariants.{NoMemory}
use Rattle.node_port.specs.declared.keeper.KeepStop.{KeepStop}
use Rattle.node_port.specs.declared.keeper.KeepStop.TheVariants as keep
use Rattle.staged_store.specs.pinned_session.Sitting.{Sitting}
use Rattle.staged_store.specs.pinned_session.store_session.declared.carrying.StoreStop.{StoreStop}
use Rattle.staged_store.specs.pinned_session.store_session.declared.carrying.StoreStop.TheVariants.{Disk, Changed}
use Rattle.mail_transactions.specs.State.{State, Within}

-- what a reading that stopped comes to
abbrev pub read_as : KeepStop → Result Spoken StoreStop
read_as keep.Fault = Err Disk
read_as (keep.Changed ib stored computed) = Err (Changed ib stored computed)
read_as keep.Memory = Ok NoMemory

-- a session outside of a transaction, and one within
abbrev pub outside : Sitting → State
outside S = record { sitting = S; within = None }

abbrev pub inside : Sitting → Within → State
inside S w = record { sitting = S; within = Some w }
