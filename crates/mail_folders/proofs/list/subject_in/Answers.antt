use Rattle.std.proofs.Common.{Ok, arith, refl}
use Rattle.mail_tree.specs.Values.{text_of}
use Rattle.std.proofs.lemmas.Result.{err_from_is_err_and}
use Rattle.mail_folders.proofs.Steps.{stopped}
use Rattle.mail_folders.proofs.list.subject_in.Goals as goal

pub returns-in_err-told-clause-answer : goal.returns-in_err-told-clause-answer
returns-in_err-told-clause-answer g c = λ T s M here content. stopped _ (Ok (text_of 0x0037 M.props)) _ _ c.from_residual.ensures.1 (c.in_err-told.ensures.told M content)

pub returns-in_err-told-clause-reads : goal.returns-in_err-told-clause-reads
returns-in_err-told-clause-reads g c =
    let p = err_from_is_err_and c.from_residual.result c.from_residual.ensures.1 in
    record { shows = λ T s. s; changed = refl; disk = refl; faults = omega arith; since = λ f s. s; cause = rw (p.1, p.2) (c.in_err-told.ensures.cause _ _ _) }

pub returns-clause-answer : goal.returns-clause-answer
returns-clause-answer g c = λ T s M here content. c.subject_of.ensures.answer T s M here (c.in_ok-told.ensures.told M content)
