use Rattle.std.proofs.Common.{◌≡◌, ◌++◌, map, take}
use Rattle.mail_tree.specs.Messages.{attachment_line}
use Rattle.mail_messages.proofs.details.push_attachments.Given as goal

abbrev pub invariant-loop-part : goal.invariant-loop-part
invariant-loop-part l = l.lines.items ≡ l.initial.lines.items ++ map attachment_line (take l.part-index l.parts)
