-- A server as a state.
use Rattle.line_server.specs.declared.server.Server.{Server}
use Rattle.line_server.specs.Step.{State}

abbrev pub state_of : Server → State
state_of s = record { held = s.lines; long = s.long; ended = s.ended }
