-- How a session over a store ends.
use Rattle.std.specs.Prelude.{◌≡◌, Bool, true}
use Rattle.pst_outside.specs.World.{World}
use Rattle.pst_outside.specs.Calls.{Rose}
use Rattle.line_server.specs.declared.end.ServerEnd.{ServerEnd}
use Rattle.line_server.specs.declared.end.ServerEnd.TheVariants as server_ends
use Rattle.store_session.specs.declared.carrying.StoreStop.{StoreStop}
use Rattle.store_session.specs.declared.carrying.StoreStop.TheVariants as store_stops
use Rattle.store_session.specs.declared.session.SessionEnd.{SessionEnd}
use Rattle.store_session.specs.declared.session.SessionEnd.TheVariants.{Done, Input, Output, Lines, Disk, Changed}

-- the end of a session whose server of lines ended so
abbrev pub end_of : ServerEnd StoreStop → SessionEnd
end_of server_ends.Done = Done
end_of server_ends.Input = Input
end_of server_ends.Output = Output
end_of server_ends.Lines = Lines
end_of (server_ends.Stopped store_stops.Disk) = Disk
end_of (server_ends.Stopped (store_stops.Changed ib stored computed)) = Changed ib stored computed

-- the count of the device that failed rose; a disk fails only where there is one
abbrev pub HasCause : Bool → World → World → SessionEnd → Type 0
HasCause disk old new Input = Rose old.in_faults new.in_faults
HasCause disk old new Output = Rose old.out_faults new.out_faults
HasCause disk old new Disk = Rose old.disk_faults new.disk_faults × (disk ≡ true)
HasCause disk old new other = Unit {0}
