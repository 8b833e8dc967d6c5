use Rattle.std.proofs.Common.{◌≡◌, take}
use Rattle.std.specs.Prelude.{string_bytes}
use Rattle.std.specs.List.{flat_map}
use Rattle.mail_session.specs.Texts.{node_line}
use Rattle.mail_session.proofs.texts.nodes_text.Given as goal

-- the lines so far are printed
abbrev pub invariant-loop-node : goal.invariant-loop-node
invariant-loop-node l = string_bytes l.text ≡ flat_map node_line (take l.node-index l.nodes)
