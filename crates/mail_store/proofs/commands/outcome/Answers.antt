use Rattle.std.proofs.Common.{◌∙◌, inl, inr}
use Rattle.command_text.specs.declared.reply.LastLine.TheVariants.{Done}
use Rattle.mail_tree.specs.Folders.{replied}
use Rattle.mail_tree.specs.Step.{outcome}
use Rattle.mail_draft.proofs.DeskCalls.{comes_unchanged}
use Rattle.mail_store.proofs.commands.outcome.Goals as goal

pub returns-in-Save-clause-answer : goal.returns-in-Save-clause-answer
unfolding outcome
returns-in-Save-clause-answer g c =
    let coming = c.replied.ensures in let reply = c.without_data.ensures in
    let done = comes_unchanged c.replied.result (replied Done) c.requires.fresh coming.places coming.last (coming.reply ∙ λ i. record { lines = reply.lines i; last = reply.last i }) in
    elim c.in-Save.is [ inl e ↦ rw e done | inr e ↦ rw e done ]
