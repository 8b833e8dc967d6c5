use Rattle.std.proofs.Common.{◌∙◌}
use Rattle.command_text.specs.declared.reply.LastLine.TheVariants.{Done}
use Rattle.mail_tree.specs.Folders.{replied}
use Rattle.mail_reading.proofs.mail_draft_laws.DeskCalls.{comes_unchanged}
use Rattle.mail_reading.specs.Asked.{read}
use Rattle.mail_reading.proofs.reading.read.Goals as goal

pub returns-in-Quit-clause-answer : goal.returns-in-Quit-clause-answer
unfolding read
returns-in-Quit-clause-answer g c =
    let coming = c.replied.ensures in let reply = c.without_data.ensures in
    rw c.in-Quit.is (comes_unchanged c.replied.result (replied Done) c.requires.fresh coming.places coming.last (coming.reply ∙ λ i. record { lines = reply.lines i; last = reply.last i }))
