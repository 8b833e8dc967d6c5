use Rattle.std.proofs.Common.{◌∙◌, ap}
use Rattle.mapi_values.specs.declared.part.Part.{Part}
use Rattle.mail_tree.specs.Parts.{with_part}
use Rattle.mail_parts.proofs.DeskTests.{comes_remade}
use Rattle.mail_parts.proofs.embedding.hold.Goals as goal

pub returns-clause-answer : goal.returns-clause-answer
returns-clause-answer g c =
    comes_remade (c.in_ok-mail.ensures ∙ ap (λ (q : Part). with_part q c.args.mail) c.in_ok-part.ensures.value) c.done.ensures.reason c.done.ensures.last c.remake_message.ensures.answer
