use Rattle.std.proofs.Common.{◌++◌, Ok}
use Rattle.mail_folders.specs.Pieces.{with_messages}
use Rattle.mail_draft.proofs.DeskCalls.{answers_exit, answers_of}
use Rattle.mail_folders.proofs.list.with_messages.Goals as goal

pub returns-in_err-messages-clause-answer : goal.returns-in_err-messages-clause-answer
unfolding with_messages
returns-in_err-messages-clause-answer g c = answers_exit _ c.in_err-messages.ensures.answer c.from_residual.ensures.1

pub returns-clause-answer : goal.returns-clause-answer
unfolding with_messages
returns-clause-answer g c = answers_of _ (λ messages. Ok (c.args.lines.items ++ messages)) _ c.in_ok-messages.ensures.answer c.in_ok-append.ensures.items
