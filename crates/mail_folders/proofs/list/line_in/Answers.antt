use Rattle.std.proofs.Common.{◌≡◌, ◌∙◌, ℕ, List, Ok, ap, arith, refl}
use Rattle.command_text.specs.declared.reply.DataLine.TheVariants as lines
use Rattle.mail_tree.specs.Values.{number_of, text_of}
use Rattle.mail_folders.specs.Pieces.{message_line}
use Rattle.std.proofs.lemmas.Result.{err_from_is_err_and}
use Rattle.mail_folders.proofs.Steps.{stopped}
use Rattle.mail_folders.proofs.list.line_in.Goals as goal

pub returns-in_err-size-clause-answer : goal.returns-in_err-size-clause-answer
returns-in_err-size-clause-answer g c = λ T s M here content. stopped _ (Ok (message_line c.args.id.bits M)) _ _ c.from_residual.ensures.1 (c.in_err-size.ensures.answer M content)

pub returns-in_err-size-clause-reads : goal.returns-in_err-size-clause-reads
returns-in_err-size-clause-reads g c =
    let p = err_from_is_err_and c.from_residual.result c.from_residual.ensures.1 in
    record { shows = λ T s. s; changed = refl; disk = refl; faults = omega arith; since = λ f s. s; cause = rw (p.1, p.2) (c.in_err-size.ensures.cause _ _ _) }

pub returns-in_err-subject-clause-answer : goal.returns-in_err-subject-clause-answer
returns-in_err-subject-clause-answer g c = λ T s M here content.
    stopped _ (Ok (message_line c.args.id.bits M)) _ _ c.from_residual-in_err-subject.ensures.1 (c.in_err-subject.ensures.answer T s M here content)

pub returns-clause-answer : goal.returns-clause-answer
returns-clause-answer g c = λ T s M here content.
    let size : c.in_ok-size.size ≡ number_of 0x0E08 M.props = c.in_ok-size.ensures.answer M content in
    let subject : c.in_ok-subject.subject ≡ text_of 0x0037 M.props = c.in_ok-subject.ensures.answer T s M here content in
    ap (λ (n : ℕ). lines.Message c.args.id n c.in_ok-subject.subject) size ∙ ap (λ (t : List ℕ). lines.Message c.args.id (number_of 0x0E08 M.props) t) subject
