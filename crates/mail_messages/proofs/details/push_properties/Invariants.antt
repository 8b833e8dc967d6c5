use Rattle.std.proofs.Common.{◌≡◌, ◌++◌, map, take}
use Rattle.mail_tree.specs.Messages.{property_line}
use Rattle.mail_messages.proofs.details.push_properties.Given as goal

abbrev pub invariant-loop-value : goal.invariant-loop-value
invariant-loop-value l = l.lines.items ≡ l.initial.lines.items ++ map property_line (take l.value-index l.values)
