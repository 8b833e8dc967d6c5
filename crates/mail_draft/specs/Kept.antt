-- The stop of a keeper as that of a command.
use Rattle.node_port.specs.declared.keeper.KeepStop.{KeepStop}
use Rattle.node_port.specs.declared.keeper.KeepStop.TheVariants as keep
use Rattle.mail_draft.specs.declared.stop.Stop.{Stop}
use Rattle.node_port.specs.declared.keeper.PrepareStop.{PrepareStop}
use Rattle.node_port.specs.declared.keeper.PrepareStop.TheVariants as prepare
use Rattle.command_text.specs.declared.reply.CommandRefusal.TheVariants as refusals
use Rattle.mail_draft.specs.declared.stop.Stop.TheVariants.{Refused, Fault, Changed, Memory}

abbrev pub stop_of : KeepStop → Stop
stop_of keep.Fault = Fault
stop_of (keep.Changed ib stored computed) = Changed ib stored computed
stop_of keep.Memory = Memory

-- the stop of a keeper's plan as that of a command: no room, and no numbers left, are refusals
abbrev pub plan_stop_of : PrepareStop → Stop
plan_stop_of prepare.Fault = Fault
plan_stop_of (prepare.Changed ib stored computed) = Changed ib stored computed
plan_stop_of prepare.Memory = Memory
plan_stop_of (prepare.Full free need) = Refused (refusals.Full free need)
plan_stop_of prepare.IdsSpent = Refused refusals.Ids
