use Rattle.std.proofs.Common.{◌≡◌, ◌++◌, map, take}
use Rattle.mail_tree.specs.Messages.{recipient_line}
use Rattle.mail_messages.proofs.details.push_recipients.Given as goal

abbrev pub invariant-loop-recipient : goal.invariant-loop-recipient
invariant-loop-recipient l = l.lines.items ≡ l.initial.lines.items ++ map recipient_line (take l.recipient-index l.recipients)
