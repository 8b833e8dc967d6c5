use Rattle.std.proofs.Common.{Ok}
use Rattle.std.proofs.lemmas.Result.{err_from_is_err_and}
use Rattle.mail_parts.specs.mail_draft.declared.stop.Stop.TheVariants.{Memory}
use Rattle.mail_embedding.specs.Meant.{IsAdded, embedding_of}
use Rattle.mail_embedding.proofs.Insides.{fine_embedding_of, puts_it, puts_lost, puts_none, tells}
use Rattle.mail_embedding.proofs.embed.embed.Goals as goal

pub returns-in_err-source-clause-answer : goal.returns-in_err-source-clause-answer
returns-in_err-source-clause-answer g c = λ T s w.
    let p = err_from_is_err_and c.from_residual.result c.from_residual.ensures.1 in
    let a = embedding_of T c.args.message.bits c.args.source.bits c.args.name.now in
    rw (p.1, p.2) (puts_lost a _ (IsAdded c.args.message c.args.name.now) (tells a _ _ (fine_embedding_of T c.args.message.bits c.args.source.bits c.args.name.now w) (c.in_err-source.ensures.answer.says T s)))

pub returns-in_err-command-clause-answer : goal.returns-in_err-command-clause-answer
returns-in_err-command-clause-answer g c = λ T s w.
    let p = err_from_is_err_and c.from_residual-in_err-command.result c.from_residual-in_err-command.ensures.1 in
    let a = embedding_of T c.args.message.bits c.args.source.bits c.args.name.now in
    rw (p.1, p.2) (puts_none a c.in_ok-source.source Memory (IsAdded c.args.message c.args.name.now) (tells a (Ok c.in_ok-source.source) _ (fine_embedding_of T c.args.message.bits c.args.source.bits c.args.name.now w) (c.in_ok-source.ensures.answer.says T s)) tt)

pub returns-clause-answer : goal.returns-clause-answer
returns-clause-answer g c = λ T s w.
    let a = embedding_of T c.args.message.bits c.args.source.bits c.args.name.now in
    puts_it a c.in_ok-source.source c.in_ok-command.command (IsAdded c.args.message c.args.name.now) (tells a (Ok c.in_ok-source.source) _ (fine_embedding_of T c.args.message.bits c.args.source.bits c.args.name.now w) (c.in_ok-source.ensures.answer.says T s)) c.in_ok-command.ensures
