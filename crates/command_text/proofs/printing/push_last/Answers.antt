use Rattle.std.proofs.Common.{append_assoc, rules}
use Rattle.command_text.specs.Replies.{last_text}
use Rattle.command_text.proofs.printing.push_last.Goals as goal

pub returns : goal.returns
unfolding last_text
returns c = rw (← append_assoc, ← c.in_ok-push_last_words.ensures) search rules
