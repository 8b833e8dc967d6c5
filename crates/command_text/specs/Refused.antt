-- The refusal of a line, as that of a command.
use Rattle.command_text.specs.declared.command.LineRefusal.{LineRefusal}
use Rattle.command_text.specs.declared.command.LineRefusal.TheVariants.{Line, Value}
use Rattle.command_text.specs.declared.reply.CommandRefusal.{CommandRefusal}
use Rattle.command_text.specs.declared.reply.CommandRefusal.TheVariants.{Line as LineRefused, Value as ValueRefused}

-- the refusal of the same name
abbrev pub refusal_of : LineRefusal → CommandRefusal
refusal_of Line = LineRefused
refusal_of Value = ValueRefused
