use Rattle.std.proofs.Common.{Ok, refl}
use Rattle.mapi_values.specs.Messages.{Mes}
use Rattle.mail_tree.specs.Changing.{◌>>=◌}
use Rattle.mail_tree.specs.Messages.{message_in}
use Rattle.embedded_obj.specs.Embedding.{embedding}
use Rattle.mail_parts.proofs.mail_draft_laws.DeskCalls.{answers_exit, answers_of, answers_then, told}
use Rattle.mail_embedding.specs.Meant.{embedding_of}
use Rattle.mail_embedding.proofs.embed.embedding_of.Goals as goal

pub returns-in_err-mail-clause-answer : goal.returns-in_err-mail-clause-answer
unfolding embedding_of
returns-in_err-mail-clause-answer g c = answers_exit _ c.in_err-mail.ensures.answer c.from_residual.ensures.1

pub returns-in_err-copied-clause-answer : goal.returns-in_err-copied-clause-answer
unfolding embedding_of
returns-in_err-copied-clause-answer g c =
    answers_then (λ T D (M : Mes). message_in T c.args.source.bits >>= λ x. embedding M x c.args.name.now >>= λ u. Ok x) c.in_ok-mail.ensures.answer c.in_ok-mail.ensures.reads
    (answers_exit _ c.in_err-copied.ensures.answer c.from_residual-in_err-copied.ensures.1)

pub returns-in_err-check_room-clause-answer : goal.returns-in_err-check_room-clause-answer
unfolding embedding_of
returns-in_err-check_room-clause-answer g c =
    let M = c.in_ok-mail.mail in let x = c.in_ok-copied.copied in let name = c.args.name.now in
    answers_then (λ T D (M : Mes). message_in T c.args.source.bits >>= λ x. embedding M x name >>= λ u. Ok x) c.in_ok-mail.ensures.answer c.in_ok-mail.ensures.reads
    (answers_then (λ T D (y : Mes). embedding M y name >>= λ u. Ok y) c.in_ok-copied.ensures.answer c.in_ok-copied.ensures.reads
    (answers_exit (λ T D u. Ok x) (told (λ (u : Unit {0}). u) (embedding M x name) _ c.in_err-check_room.ensures.answer) c.from_residual-in_err-check_room.ensures.1))

pub returns-clause-answer : goal.returns-clause-answer
unfolding embedding_of
returns-clause-answer g c =
    let M = c.in_ok-mail.mail in let x = c.in_ok-copied.copied in let name = c.args.name.now in
    answers_then (λ T D (M : Mes). message_in T c.args.source.bits >>= λ x. embedding M x name >>= λ u. Ok x) c.in_ok-mail.ensures.answer c.in_ok-mail.ensures.reads
    (answers_then (λ T D (y : Mes). embedding M y name >>= λ u. Ok y) c.in_ok-copied.ensures.answer c.in_ok-copied.ensures.reads
    (answers_of (λ (m : Mes). m) (λ (u : Unit {0}). Ok x) _ (told (λ (u : Unit {0}). u) (embedding M x name) _ c.in_ok-check_room.ensures.answer) refl))
