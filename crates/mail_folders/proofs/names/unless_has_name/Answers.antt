use Rattle.std.proofs.Common.{refl}
use Rattle.mail_folders.proofs.Steps.{named_told, named_untold, stopped}
use Rattle.mail_folders.proofs.names.unless_has_name.Goals as goal

pub returns-in_err-is_taken-clause-answer : goal.returns-in_err-is_taken-clause-answer
returns-in_err-is_taken-clause-answer g c =
    let stop = c.in_err-is_taken.field-0.0 in
    record { says = λ T s. stopped _ _ stop _ c.from_residual.ensures.1 (named_untold T c.args.name.now c.args.folder.bits stop (c.in_err-is_taken.ensures.answer.says T s)) }

pub returns-then-is_taken-clause-answer : goal.returns-then-is_taken-clause-answer
returns-then-is_taken-clause-answer g c = record {
  says = λ T s. named_told T c.args.name.now c.args.folder.bits c.in_ok-is_taken.is_taken _ (c.in_ok-is_taken.ensures.answer.says T s) (rw c.if-is_taken.true refl);
}

pub returns-clause-answer : goal.returns-clause-answer
returns-clause-answer g c = record {
  says = λ T s. named_told T c.args.name.now c.args.folder.bits c.in_ok-is_taken.is_taken _ (c.in_ok-is_taken.ensures.answer.says T s) (rw c.if-is_taken.false refl);
}
